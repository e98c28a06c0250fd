use Rattle.std.proofs.Common.{◌∙◌, map, get_or, ap, sym, refl, arith}
use Rattle.std.specs.Prelude.{List, ℕ}
use Rattle.std.proofs.lemmas.List.{take_all}
use Rattle.std.proofs.lemmas.Result.{err_from_is_err_and}
use Rattle.dioc_terms.specs.Plain.{plain}
use Rattle.mend.specs.Traces.{mended_rule}
use Rattle.mend.specs.Refusals.{first_mend_refusal, mended_body_refusal}
use Rattle.mend.proofs.Growing.{one_more_rule, as_many}
use Rattle.mend.proofs.Tests.{passed, stopped}
use Rattle.mend.proofs.bundle_parts.add_rules.Goals as goal

pub loop-number-preserved : goal.loop-number-preserved
loop-number-preserved c =
    let b = plain c.args.bundle.now in
    let more = one_more_rule b c.args.numbers.now c.loop-number.number-index (get_or c.args.numbers.now c.loop-number.number-index 0) 0 c.requires.all c.loop-number-test.true refl in
    record {
      passed = passed (mended_body_refusal b) c.args.numbers.now c.loop-number.number-index (get_or c.args.numbers.now c.loop-number.number-index 0) 0
          c.loop-number-test.true refl c.loop-number.invariant.passed c.in_ok-add_rule.ensures.ok;
      made = cc (c.in_ok-add_rule.ensures.added, c.loop-number.invariant.made, more);
    }

pub returns-in_err-add_rule-clause-refused : goal.returns-in_err-add_rule-clause-refused
returns-in_err-add_rule-clause-refused c =
    let b = plain c.args.bundle.now in
    let p = err_from_is_err_and c.from_residual.result c.from_residual.ensures.1 in
    rw (p.1, p.2) (λ told. stopped (mended_body_refusal b) c.args.numbers.now c.loop-number.number-index (get_or c.args.numbers.now c.loop-number.number-index 0) 0
    c.in_err-add_rule.field-0.0 c.loop-number-test.true refl c.loop-number.invariant.passed (c.in_err-add_rule.ensures.refused told))

pub returns-clause-ok : goal.returns-clause-ok
returns-clause-ok c =
    ap (λ (l : List ℕ). first_mend_refusal (map (mended_body_refusal (plain c.args.bundle.now)) l))
    (sym (take_all c.loop-number.number-index c.args.numbers.now c.loop-number-test.false))
    ∙ c.loop-number.invariant.passed

pub returns-clause-made : goal.returns-clause-made
returns-clause-made c =
    let b = plain c.args.bundle.now in
    let many = as_many b c.args.numbers.now c.requires.all in
    c.loop-number.invariant.made
    ∙ ap (map (mended_rule b.cast)) (take_all c.loop-number.number-index b.rules (omega (arith, many, c.loop-number-test.false)))
