use Rattle.std.proofs.Common.{◌≡◌, ◌∙◌, Option, None, sym, subst}
use Rattle.std.specs.Prelude.{IfErr, OnOk}
use Rattle.dioc_terms.specs.Plain.{plain, plain_rule}
use Rattle.rule_checks.specs.declared.refusals.Refusal.{Refusal}
use Rattle.mend.specs.Refusals.{refused, IsMendRefusalOf}
use Rattle.mend.proofs.Before.{rule_passed, rule_told, rule_unlinked}
use Rattle.mend.proofs.checks.given_body.Goals as goal

pub returns-in-Ok-clause-ok : goal.returns-in-Ok-clause-ok
returns-in-Ok-clause-ok c =
    rule_passed (plain c.args.bundle.now) c.args.number (plain_rule c.args.rule.now) c.requires.at c.in-Ok.ensures.admitted

pub returns-then-is_link-clause-ok : goal.returns-then-is_link-clause-ok
returns-then-is_link-clause-ok c =
    let size = rule_unlinked (plain c.args.bundle.now) c.args.number (plain_rule c.args.rule.now) c.requires.at c.in-Err.refusal c.in-Err.ensures.refused
    (sym c.is_link.ensures ∙ c.if-is_link.true) in
    subst (λ (test : Option Refusal). OnOk c.small_body.result (test ≡ None)) (sym size) c.small_body.ensures.ok

pub returns-then-is_link-clause-refused : goal.returns-then-is_link-clause-refused
returns-then-is_link-clause-refused c =
    let size = rule_unlinked (plain c.args.bundle.now) c.args.number (plain_rule c.args.rule.now) c.requires.at c.in-Err.refusal c.in-Err.ensures.refused
    (sym c.is_link.ensures ∙ c.if-is_link.true) in
    subst (λ (test : Option Refusal). IfErr c.small_body.result (IsMendRefusalOf (refused test))) (sym size) c.small_body.ensures.refused

pub returns-else-is_link-clause-refused : goal.returns-else-is_link-clause-refused
returns-else-is_link-clause-refused c =
    rule_told (plain c.args.bundle.now) c.args.number (plain_rule c.args.rule.now) c.requires.at c.in-Err.refusal c.in-Err.ensures.refused
    (sym c.is_link.ensures ∙ c.if-is_link.false)
