-- The law of resumed runs.
use Rattle.net_drive.proofs.Onward.{resumed_runs}
use Rattle.net_drive.proofs.resumed_laws.resumed_runs.Goals as goal

pub returns : goal.returns
returns c = resumed_runs c.runs_are_sound.ensures c.every_run.ensures
