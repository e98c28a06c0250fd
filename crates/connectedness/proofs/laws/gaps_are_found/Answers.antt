use Rattle.connectedness.proofs.Lemmas.{gaps-are_found}
use Rattle.connectedness.proofs.laws.gaps_are_found.Goals as goal

pub returns : goal.returns
returns c = gaps-are_found
