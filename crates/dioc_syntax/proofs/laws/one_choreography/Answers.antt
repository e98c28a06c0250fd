use Rattle.dioc_syntax.proofs.Fronts.{one_choreography}
use Rattle.dioc_syntax.proofs.laws.one_choreography.Goals as goal

pub returns : goal.returns
returns c = one_choreography
