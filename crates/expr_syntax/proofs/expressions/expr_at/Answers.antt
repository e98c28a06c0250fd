use Rattle.std.proofs.Common.{rules}
use Rattle.expr_syntax.proofs.expressions.expr_at.Goals as goal

pub returns-in-Some : goal.returns-in-Some
returns-in-Some c = search rules depth 2
