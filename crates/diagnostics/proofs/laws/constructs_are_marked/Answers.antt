use Rattle.diagnostics.proofs.Marking.{marked}
use Rattle.diagnostics.proofs.laws.constructs_are_marked.Goals as goal

pub returns : goal.returns
returns c = λ version form room earlier from to whole stands calm. marked stands calm
