use Rattle.dioc_syntax.proofs.Marks.{stands_marked}
use Rattle.dioc_syntax.proofs.laws.read_is_indexed.Goals as goal

pub returns : goal.returns
returns c = λ version room from to whole is. stands_marked is.stands
