use Rattle.std.proofs.Common.{◌∙◌, map, get_or, ap, sym, refl, rules}
use Rattle.std.specs.Prelude.{List, ℕ}
use Rattle.std.proofs.lemmas.List.{take_all}
use Rattle.dioc_terms.specs.Plain.{plain}
use Rattle.mend.specs.Refusals.{first_mend_refusal, mend_rule_refusal, IsMendRefusalOf}
use Rattle.mend.proofs.Tests.{passed, stopped}
use Rattle.mend.proofs.checks.check_rules.Goals as goal

pub loop-number-preserved : goal.loop-number-preserved
loop-number-preserved c =
    passed (mend_rule_refusal (plain c.args.bundle.now)) c.args.numbers.now c.loop-number.number-index
    (get_or c.args.numbers.now c.loop-number.number-index 0) 0 c.loop-number-test.true refl c.loop-number.invariant c.in_ok-check_rule.ensures.ok

pub returns-in_err-check_rule-clause-refused : goal.returns-in_err-check_rule-clause-refused
returns-in_err-check_rule-clause-refused c =
    let goes : IsMendRefusalOf (first_mend_refusal (map (mend_rule_refusal (plain c.args.bundle.now)) c.args.numbers.now)) c.in_err-check_rule.field-0.0 = λ told.
    stopped (mend_rule_refusal (plain c.args.bundle.now)) c.args.numbers.now c.loop-number.number-index
    (get_or c.args.numbers.now c.loop-number.number-index 0) 0 c.in_err-check_rule.field-0.0
    c.loop-number-test.true refl c.loop-number.invariant (c.in_err-check_rule.ensures.refused told) in
    search (rules, goes)

pub returns-clause-ok : goal.returns-clause-ok
returns-clause-ok c =
    ap (λ (l : List ℕ). first_mend_refusal (map (mend_rule_refusal (plain c.args.bundle.now)) l))
    (sym (take_all c.loop-number.number-index c.args.numbers.now c.loop-number-test.false))
    ∙ c.loop-number.invariant
