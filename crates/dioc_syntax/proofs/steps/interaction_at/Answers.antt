use Rattle.std.proofs.Common.{◌+◌, ◌-◌, sym, subst}
use Rattle.expr_syntax.specs.Grammar.{ExpressionAt}
use Rattle.expr_syntax.specs.declared.levels.ExprKind.TheVariants as kind
use Rattle.dioc_syntax.specs.Choreographies.{Step}
use Rattle.dioc_syntax.specs.Readers.{received_by, HeadAt, FormStandsAt}
use Rattle.dioc_syntax.proofs.StepFindings.{interaction_found, interaction_missing, interaction_unreceived}
use Rattle.dioc_syntax.proofs.steps.interaction_at.Goals as goal

pub returns-in-None : goal.returns-in-None
returns-in-None c =
    interaction_missing c.args.place.room c.args.place.earlier c.args.reader.now.text.now c.args.place.at c.args.operation c.args.sender c.requires.head
    (subst (ExpressionAt kind.Step (c.args.place.room - 1) c.args.reader.now.text.now (c.args.place.at + 4)) c.in-None.is c.in_ok-sent.ensures) c.args.reader.now.version c.args.place.deep c.requires.some

pub returns-in-Ok-None : goal.returns-in-Ok-None
returns-in-Ok-None c =
    let none = interaction_unreceived c.args.place.room c.args.place.earlier c.args.reader.now.text.now c.args.place.at c.args.operation c.args.sender c.requires.head c.in-Some.sent
    (subst (ExpressionAt kind.Step (c.args.place.room - 1) c.args.reader.now.text.now (c.args.place.at + 4)) c.in-Some.is c.in_ok-sent.ensures)
    (subst (HeadAt received_by 6 c.args.reader.now.text.now c.in-Some.sent.1) c.in-Ok-None.field-0-is c.in-Ok-None.ensures) c.args.reader.now.version c.args.place.deep c.requires.some in
    subst (FormStandsAt c.args.reader.now Step c.args.place) (sym c.nothing_found.ensures) none

pub returns : goal.returns
returns c =
    interaction_found c.args.place.room c.args.place.earlier c.args.reader.now.text.now c.args.place.at c.args.operation c.args.sender c.requires.head c.in-Ok-Some.names c.in-Some.sent c.in_ok-choreo.choreo c.in_ok-choreo.ensures c.if-place-eq0.false
    (subst (ExpressionAt kind.Step (c.args.place.room - 1) c.args.reader.now.text.now (c.args.place.at + 4)) c.in-Some.is c.in_ok-sent.ensures)
    (subst (HeadAt received_by 6 c.args.reader.now.text.now c.in-Some.sent.1) c.in-Ok-Some.field-0-is c.in-Ok-Some.ensures) c.args.reader.now.version c.args.place.deep c.requires.some
