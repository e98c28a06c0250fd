use Rattle.std.proofs.Common.{map, rules}
use Rattle.rule_checks.specs.Answers.{IsRefusalOf}
use Rattle.rule_checks.specs.Refusals.{first_refusal}
use Rattle.dioc_terms.specs.declared.bundles.Timed.{Timed}
use Rattle.dioc_terms.specs.Plain.{plain}
use Rattle.rule_checks.specs.Parts.{change_refusal}
use Rattle.rule_checks.proofs.TestLemmas.{passed, stopped}
use Rattle.rule_checks.proofs.checks.admit_adds.Goals as goal

pub loop-timed-preserved : goal.loop-timed-preserved
loop-timed-preserved c =
    passed (λ (timed : Timed). change_refusal (plain c.args.bundle.now) timed.change) c.as_slice-script.result.now c.loop-timed.timed-index c.timed-item.result
    c.loop-timed-test.true c.timed-item.is c.loop-timed.invariant c.in_ok-admit_change.ensures.ok

pub returns-in_err-admit_change-clause-refused : goal.returns-in_err-admit_change-clause-refused
returns-in_err-admit_change-clause-refused c =
    let script = c.as_slice-script.result.now in
    let goes : IsRefusalOf (first_refusal (map (λ (timed : Timed). change_refusal (plain c.args.bundle.now) timed.change) script)) c.in_err-admit_change.field-0.0 = λ told.
    stopped (λ (timed : Timed). change_refusal (plain c.args.bundle.now) timed.change) script c.loop-timed.timed-index c.timed-item.result c.in_err-admit_change.field-0.0
    c.loop-timed-test.true c.timed-item.is c.loop-timed.invariant (c.in_err-admit_change.ensures.refused told) in
    search (rules, goes, c.as_slice-script.ensures)
