use Rattle.role_monitor.proofs.Whole.{runs_keep}
use Rattle.role_monitor.proofs.laws.runs_never_deviate.Goals as goal

pub returns : goal.returns
returns c = runs_keep c.accepted_is_sound.ensures c.unique_keys.ensures c.runs_extend.ensures
