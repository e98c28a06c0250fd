use Rattle.std.proofs.Common.{◌-◌, rules, w32, sym, subst}
use Rattle.std.specs.Option.{option_map}
use mir.Val.{SFits}
use Rattle.std.proofs.lemmas.Int.{to_z-of_z}
use Rattle.dioc_terms.specs.Expressions.{expression}
use Rattle.dioc_terms.specs.Terms.{term}
use Rattle.rule_syntax.specs.Readers.{ConditionAt, BodyAt, RuleAt, rule_seen}
use Rattle.rule_syntax.proofs.Fronts.{headless, untested, unreplaced, rule_found}
use Rattle.rule_syntax.proofs.rules.rule_at.Goals as goal

pub returns-in-None : goal.returns-in-None
returns-in-None c = headless c.args.text.now c.args.at c.args.version c.args.room c.in-None.ensures

pub returns-in-None-2 : goal.returns-in-None-2
returns-in-None-2 c =
    untested c.args.text.now c.args.at c.args.version c.args.room c.in-Some.head.0 c.in-Some.head.1 c.in-Some.ensures
    (subst (ConditionAt (c.args.room - 2) c.args.text.now c.in-Some.head.1) c.in-None-2.is c.in_ok-read.ensures)

pub returns-in-Ok-None : goal.returns-in-Ok-None
returns-in-Ok-None c =
    subst (λ found. RuleAt c.args.version c.args.room c.args.text.now c.args.at (option_map rule_seen found)) (sym c.no_part.ensures)
    (unreplaced c.args.text.now c.args.at c.args.version c.args.room c.in-Some.head.0 c.in-Some.head.1 c.in-Some.ensures (expression c.in-Some-2.read.0) c.in-Some-2.read.1
    (subst (ConditionAt (c.args.room - 2) c.args.text.now c.in-Some.head.1) c.in-Some-2.is c.in_ok-read.ensures)
    (subst (BodyAt c.args.version (c.args.room - 2) c.args.text.now c.in-Some-2.read.1) c.in-Ok-None.field-0-is c.in-Ok-None.ensures))

pub returns-in-Ok : goal.returns-in-Ok
returns-in-Ok c =
    let fits : SFits w32 c.in-Some.head.0 = search rules in
    rw (to_z-of_z w32 c.in-Some.head.0 fits)
    (rule_found c.args.text.now c.args.at c.args.version c.args.room c.in-Some.head.0 c.in-Some.head.1 c.in-Some.ensures (expression c.in-Some-2.read.0) c.in-Some-2.read.1
    (subst (ConditionAt (c.args.room - 2) c.args.text.now c.in-Some.head.1) c.in-Some-2.is c.in_ok-read.ensures)
    c.in-Ok.name (term c.in-Ok-Some.read.0) c.in-Ok-Some.read.1 c.if-room-lt2.false c.in-Ok.ensures.value
    (subst (BodyAt c.args.version (c.args.room - 2) c.args.text.now c.in-Some-2.read.1) c.in-Ok-Some.field-0-is c.in-Ok-Some.ensures))
