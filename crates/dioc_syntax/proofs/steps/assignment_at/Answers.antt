use Rattle.std.proofs.Common.{◌+◌, subst}
use Rattle.expr_syntax.specs.Grammar.{ExpressionAt}
use Rattle.expr_syntax.specs.declared.levels.ExprKind.TheVariants as kind
use Rattle.dioc_syntax.proofs.StepFindings.{assignment_found, assignment_missing}
use Rattle.dioc_syntax.proofs.steps.assignment_at.Goals as goal

pub returns : goal.returns
returns c =
    assignment_found c.args.place.room c.args.place.earlier c.args.reader.now.text.now c.args.place.at c.args.variable c.args.owner c.requires.head c.in-Some.read.0 c.in-Some.read.1 c.in_ok-choreo.choreo c.in_ok-choreo.ensures c.requires.other
    (subst (ExpressionAt kind.Step c.args.place.room c.args.reader.now.text.now (c.args.place.at + 4)) c.in-Some.is c.in_ok-read.ensures) c.args.reader.now.version c.args.place.deep c.requires.some

pub returns-in-None : goal.returns-in-None
returns-in-None c =
    assignment_missing c.args.place.room c.args.place.earlier c.args.reader.now.text.now c.args.place.at c.args.variable c.args.owner c.requires.head c.requires.other
    (subst (ExpressionAt kind.Step c.args.place.room c.args.reader.now.text.now (c.args.place.at + 4)) c.in-None.is c.in_ok-read.ensures) c.args.reader.now.version c.args.place.deep c.requires.some
