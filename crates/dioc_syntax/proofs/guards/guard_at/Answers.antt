use Rattle.std.proofs.Common.{sym, subst}
use Rattle.expr_syntax.specs.Grammar.{ExpressionAt}
use Rattle.expr_syntax.specs.declared.levels.ExprKind.TheVariants as kind
use Rattle.dioc_syntax.specs.Readers.{LeaderAt, no_expression, no_leader, GuardAt}
use Rattle.dioc_syntax.proofs.Findings.{guard_found}
use Rattle.dioc_syntax.proofs.guards.guard_at.Goals as goal

pub returns-in-None : goal.returns-in-None
returns-in-None c = no_expression (subst (ExpressionAt kind.Step c.args.room c.args.reader.now.text.now c.args.at) c.in-None.is c.in_ok-guard.ensures)

pub returns-in-Ok-Some : goal.returns-in-Ok-Some
returns-in-Ok-Some c =
    guard_found c.args.room c.args.reader.now.text.now c.args.at c.in-Some.guard c.in-Ok-Some.leader
    (subst (ExpressionAt kind.Step c.args.room c.args.reader.now.text.now c.args.at) c.in-Some.is c.in_ok-guard.ensures)
    (subst (LeaderAt c.args.reader.now.text.now c.in-Some.guard.1) c.in-Ok-Some.field-0-is c.in-Ok-Some.ensures)

pub returns-in-Ok-None : goal.returns-in-Ok-None
returns-in-Ok-None c =
    let read = subst (ExpressionAt kind.Step c.args.room c.args.reader.now.text.now c.args.at) c.in-Some.is c.in_ok-guard.ensures in
    subst (GuardAt c.args.room c.args.reader.now.text.now c.args.at) (sym c.no_guard.ensures)
    (no_leader read.front (subst (LeaderAt c.args.reader.now.text.now c.in-Some.guard.1) c.in-Ok-None.field-0-is c.in-Ok-None.ensures))
