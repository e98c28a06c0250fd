use Rattle.std.proofs.Common.{rules}
use Rattle.rule_checks.specs.Answers.{IsRefusalOf}
use Rattle.rule_checks.specs.Parts.{opening_tests}
use Rattle.dioc_terms.specs.Plain.{plain}
use Rattle.rule_checks.specs.Refusals.{first_refusal, rule_refusal}
use Rattle.rule_checks.proofs.TestLemmas.{passed_number, stopped_number}
use Rattle.rule_checks.proofs.checks.admit_opening.Goals as goal

pub loop-number-preserved : goal.loop-number-preserved
loop-number-preserved c =
    passed_number (rule_refusal (plain c.args.bundle.now)) c.loop-number.number c.loop-number.invariant c.in_ok-admit.ensures.admitted

pub returns-in_err-admit-clause-refused : goal.returns-in_err-admit-clause-refused
returns-in_err-admit-clause-refused c =
    let goes : IsRefusalOf (first_refusal (opening_tests (plain c.args.bundle.now))) c.in_err-admit.field-0.0 = λ told.
    stopped_number (rule_refusal (plain c.args.bundle.now)) c.loop-number.number c.args.bundle.now.opening c.in_err-admit.field-0.0
    c.loop-number-test.true c.loop-number.invariant (c.in_err-admit.ensures.refused told) in
    search (rules, goes)
