use Rattle.net_laws.proofs.ScheduleLemmas.{moves_are_steps}
use Rattle.net_laws.proofs.laws.moves_are_steps.Goals as goal

pub returns : goal.returns
returns c = moves_are_steps c.term_laws.ensures c.progress.ensures c.offers_are_steps.ensures c.accepted_is_sound.ensures
