use Rattle.std.proofs.Common.{◌+◌, subst}
use Rattle.std.specs.Option.{option_map}
use Rattle.rule_syntax.specs.Readers.{RuleAt, BindingAt, rule_seen}
use Rattle.rule_syntax.proofs.Fronts.{rule_added, rule_unadded, rule_dropped, rule_undropped, key_set, key_unset, no_change}
use Rattle.rule_syntax.proofs.changes.change_at.Goals as goal

pub returns-in-Some : goal.returns-in-Some
returns-in-Some c =
    key_set c.args.text.now c.args.at c.args.version c.args.room c.in-Some.bound.0 c.in-Some.bound.1 c.in-Some.next (c.named.ensures.0 c.if-named.true)
    (subst (BindingAt c.args.text.now (c.args.at + 1)) c.in-Some.is c.in_ok-bound.ensures)

pub returns-in-None : goal.returns-in-None
returns-in-None c =
    key_unset c.args.text.now c.args.at c.args.version c.args.room (c.named.ensures.0 c.if-named.true) (subst (BindingAt c.args.text.now (c.args.at + 1)) c.in-None.is c.in_ok-bound.ensures)

pub returns-in_ok-name : goal.returns-in_ok-name
returns-in_ok-name c = rule_dropped c.args.text.now c.args.at c.args.version c.args.room c.in_ok-name.name (c.named-else-named.ensures.0 c.if-named-2.true) c.in_ok-name.ensures.value

pub returns-in-Some-2 : goal.returns-in-Some-2
returns-in-Some-2 c =
    rule_added c.args.text.now c.args.at c.args.version c.args.room c.in-Some-2.rule c.in-Some-2.next (c.named-else-named-2.ensures.0 c.if-named-3.true)
    (subst (λ found. RuleAt c.args.version c.args.room c.args.text.now (c.args.at + 1) (option_map rule_seen found)) c.in-Some-2.is c.in_ok-rule.ensures)

pub returns-in-None-2 : goal.returns-in-None-2
returns-in-None-2 c =
    rule_unadded c.args.text.now c.args.at c.args.version c.args.room (c.named-else-named-2.ensures.0 c.if-named-3.true) (subst (λ found. RuleAt c.args.version c.args.room c.args.text.now (c.args.at + 1) (option_map rule_seen found)) c.in-None-2.is c.in_ok-rule.ensures)

pub returns-else-named-3 : goal.returns-else-named-3
returns-else-named-3 c =
    no_change c.args.text.now c.args.at c.args.version c.args.room (λ is. let found = c.named-else-named-2.ensures.1 is in let missed = c.if-named-3.false in cc)
    (λ is. let found = c.named-else-named.ensures.1 is in let missed = c.if-named-2.false in cc) (λ is. let found = c.named.ensures.1 is in let missed = c.if-named.false in cc)
