use Rattle.expr_syntax.proofs.ReadFormed.{read_formed}
use Rattle.expr_syntax.proofs.laws.read_is_formed.Goals as goal

pub returns : goal.returns
returns c = read_formed
