use Rattle.std.proofs.Common.{sym, subst}
use Rattle.expr_syntax.specs.Grammar.{ExpressionAt}
use Rattle.expr_syntax.specs.declared.levels.ExprKind.TheVariants as kind
use Rattle.rule_syntax.specs.Readers.{ConditionAt}
use Rattle.rule_syntax.proofs.Fronts.{condition_open, condition_found}
use Rattle.rule_syntax.proofs.parts.condition_at.Goals as goal

pub returns-then-not-begins : goal.returns-then-not-begins
returns-then-not-begins c =
    subst (ConditionAt c.args.room c.args.reader.now.text.now c.args.at) (sym c.no_part.ensures)
    (condition_open c.args.reader.now.text.now c.args.at (subst (ExpressionAt kind.Condition c.args.room c.args.reader.now.text.now c.args.at) c.in-Some.is c.in_ok-read.ensures)
    (λ is. let found = c.begins.ensures.1 is in let missed = c.if-not-begins.true in cc))

pub returns : goal.returns
returns c =
    condition_found c.args.reader.now.text.now c.args.at (subst (ExpressionAt kind.Condition c.args.room c.args.reader.now.text.now c.args.at) c.in-Some.is c.in_ok-read.ensures) (c.begins.ensures.0 cc)
