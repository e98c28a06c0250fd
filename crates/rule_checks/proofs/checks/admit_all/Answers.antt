use Rattle.std.proofs.Common.{◌≡◌, Option, None, sym, subst}
use Rattle.std.specs.Prelude.{IfErr, OnOk}
use Rattle.dioc_terms.specs.Plain.{plain}
use Rattle.rule_checks.specs.declared.refusals.Refusal.{Refusal}
use Rattle.rule_checks.specs.Answers.{IsRefusalOf}
use Rattle.rule_checks.specs.Refusals.{first_refusal, rules_tests}
use Rattle.rule_checks.proofs.PartLemmas.{first_part, second_part}
use Rattle.std.proofs.Common.{rules}
use Rattle.rule_checks.proofs.checks.admit_all.Goals as goal

pub returns-in_err-admit_opening-clause-refused : goal.returns-in_err-admit_opening-clause-refused
returns-in_err-admit_opening-clause-refused c =
    let goes : IsRefusalOf (first_refusal (rules_tests (plain c.args.bundle.now))) c.in_err-admit_opening.field-0.0 = λ told.
    first_part (plain c.args.bundle.now) c.requires.formed c.in_err-admit_opening.field-0.0 (c.in_err-admit_opening.ensures.refused told) in
    search (rules, goes)

pub returns-clause-ok : goal.returns-clause-ok
returns-clause-ok c =
    subst (λ (test : Option Refusal). OnOk c.admit_adds.result (test ≡ None)) (sym (second_part (plain c.args.bundle.now) c.requires.formed c.in_ok-admit_opening.ensures.ok)) c.admit_adds.ensures.ok

pub returns-clause-refused : goal.returns-clause-refused
returns-clause-refused c =
    subst (λ (test : Option Refusal). IfErr c.admit_adds.result (IsRefusalOf test)) (sym (second_part (plain c.args.bundle.now) c.requires.formed c.in_ok-admit_opening.ensures.ok)) c.admit_adds.ensures.refused
