use Rattle.role_monitor.proofs.Whole.{kept_runs}
use Rattle.role_monitor.proofs.laws.kept_traces_are_runs.Goals as goal

pub returns : goal.returns
returns c = kept_runs c.accepted_is_sound.ensures c.unique_keys.ensures c.runs_extend.ensures
