use Rattle.net_laws.proofs.HeadlineLemmas.{every_run}
use Rattle.net_laws.proofs.laws.every_run.Goals as goal

pub returns : goal.returns
returns c = every_run c.accepted_is_sound.ensures c.simulation.ensures c.settlement.ensures c.unique_keys.ensures c.progress.ensures c.nothing_left.ensures c.runs_extend.ensures
