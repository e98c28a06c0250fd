use Rattle.global_steps.proofs.Lemmas.{strays-are_found}
use Rattle.global_steps.proofs.laws.strays_are_found.Goals as goal

pub returns : goal.returns
returns c = strays-are_found
