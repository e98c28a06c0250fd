use Rattle.process_steps.proofs.Lemmas.{offers-are_steps}
use Rattle.process_steps.proofs.laws.offers_are_steps.Goals as goal

pub returns : goal.returns
returns c = offers-are_steps
