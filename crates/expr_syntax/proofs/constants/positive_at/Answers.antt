use Rattle.std.proofs.Common.{sym}
use Rattle.expr_syntax.proofs.ConstantFacts.{positive_taken, positive_none}
use Rattle.expr_syntax.proofs.constants.positive_at.Goals as goal

pub returns-in-Some : goal.returns-in-Some
returns-in-Some c = positive_taken c.args.text.now c.args.at c.in-Some.number c.in-Some.ensures

pub returns-in-None : goal.returns-in-None
returns-in-None c = positive_none c.args.text.now c.args.at (sym c.requires.sort) c.in-None.ensures
