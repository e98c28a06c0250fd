use Rattle.std.proofs.Common.{◌≡◌, Option, None, sym, subst, rules}
use Rattle.std.specs.Prelude.{IfErr, OnOk}
use Rattle.dioc_terms.specs.Plain.{plain_rule}
use Rattle.rule_checks.specs.declared.refusals.Where.TheVariants as place
use Rattle.mend.specs.declared.refusals.MendRefusal.{MendRefusal}
use Rattle.mend.specs.Refusals.{first_mend_refusal, name_tests, given_body_tests, mend_rule_tests, IsMendRefusalOf}
use Rattle.mend.proofs.Tests.{after_refused, in_refused}
use Rattle.mend.proofs.checks.check_one.Goals as goal

pub returns-in_err-given_body-clause-refused : goal.returns-in_err-given_body-clause-refused
returns-in_err-given_body-clause-refused c =
    let rule = plain_rule c.args.rule.now in
    let cast = c.args.bundle.now.cast in
    let n = c.args.number in
    let goes : IsMendRefusalOf (first_mend_refusal (mend_rule_tests cast n rule)) c.in_err-given_body.field-0.0
    = in_refused (given_body_tests cast n rule.body) (name_tests (place.Rule n) rule) c.in_err-given_body.field-0.0 c.in_err-given_body.ensures.refused in
    search (rules, goes)

pub returns-clause-ok : goal.returns-clause-ok
returns-clause-ok c =
    let rule = plain_rule c.args.rule.now in
    subst (λ (t : Option MendRefusal). OnOk c.free_rule.result (t ≡ None))
    (sym (after_refused (given_body_tests c.args.bundle.now.cast c.args.number rule.body) (name_tests (place.Rule c.args.number) rule) c.in_ok-given_body.ensures.ok))
    c.free_rule.ensures.ok

pub returns-clause-refused : goal.returns-clause-refused
returns-clause-refused c =
    let rule = plain_rule c.args.rule.now in
    subst (λ (t : Option MendRefusal). IfErr c.free_rule.result (IsMendRefusalOf t))
    (sym (after_refused (given_body_tests c.args.bundle.now.cast c.args.number rule.body) (name_tests (place.Rule c.args.number) rule) c.in_ok-given_body.ensures.ok))
    c.free_rule.ensures.refused
