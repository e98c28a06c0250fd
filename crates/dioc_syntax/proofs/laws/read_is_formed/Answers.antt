use Rattle.dioc_syntax.proofs.FormedTerms.{read_formed}
use Rattle.dioc_syntax.proofs.laws.read_is_formed.Goals as goal

pub returns : goal.returns
returns c = read_formed
