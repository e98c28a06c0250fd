use Rattle.net_laws.proofs.ScheduleLemmas.{runs_are_sound}
use Rattle.net_laws.proofs.laws.runs_are_sound.Goals as goal

pub returns : goal.returns
returns c = runs_are_sound c.term_laws.ensures c.progress.ensures c.offers_are_steps.ensures c.accepted_is_sound.ensures c.simulation.ensures
