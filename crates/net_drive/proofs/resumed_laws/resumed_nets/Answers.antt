-- The law of resumed nets.
use Rattle.net_drive.proofs.Onward.{resumed_nets}
use Rattle.net_drive.proofs.resumed_laws.resumed_nets.Goals as goal

pub returns : goal.returns
returns c = resumed_nets c.runs_are_sound.ensures c.every_run.ensures
