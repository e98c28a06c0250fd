use Rattle.global_steps.proofs.Lemmas.{settled-goes_on}
use Rattle.global_steps.proofs.laws.settled_goes_on.Goals as goal

pub returns : goal.returns
returns c = settled-goes_on
