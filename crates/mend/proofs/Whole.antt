-- All tests of a bundle, in the parts in which they are made.
use Rattle.std.proofs.Common.{◌≡◌, ◌∙◌, ◌++◌, ℕ, List, Option, None, map, ap, sym, subst}
use Rattle.std.specs.Prelude.{IfOk, OnOk, Result, Ok, Err}
use Rattle.dioc_terms.specs.declared.bundles.Bundle.{Bundle}
use Rattle.dioc_terms.specs.Bundles.{IsFormed}
use Rattle.dioc_terms.specs.Plain.{PlainBundle, plain}
use Rattle.rule_checks.specs.Refusals.{IsAccepted}
use Rattle.mend.specs.Mended.{mended}
use Rattle.mend.specs.Traces.{mended_bundle}
use Rattle.mend.specs.declared.refusals.MendRefusal.{MendRefusal}
use Rattle.mend.specs.Laws.{MendedAccepted}
use Rattle.mend.specs.Refusals.{first_mend_refusal, mend_program_tests, mend_rule_refusal, rule_numbers, mended_size_tests, mended_body_refusal, mended_tests, mend_refusal, IsMendRefusalOf}
use Rattle.mend.proofs.Tests.{is_first, is_later, none_before}

module _ (b : PlainBundle) where
  abbrev rule_tests : List (Option MendRefusal)
  rule_tests = map (mend_rule_refusal b) (rule_numbers b)

  abbrev body_tests : List (Option MendRefusal)
  body_tests = map (mended_body_refusal b) (rule_numbers b)

  pub of_program : (why : MendRefusal) → IsMendRefusalOf (first_mend_refusal (mend_program_tests b)) why → IsMendRefusalOf (mend_refusal b) why
  of_program why h = is_first (mend_program_tests b) (rule_tests ++ mended_tests b) why h

  pub of_rules : (why : MendRefusal) (numbers : List ℕ) → numbers ≡ rule_numbers b → first_mend_refusal (mend_program_tests b) ≡ None
      → IsMendRefusalOf (first_mend_refusal (map (mend_rule_refusal b) numbers)) why → IsMendRefusalOf (mend_refusal b) why
  of_rules why numbers all none h =
      is_later (mend_program_tests b) (rule_tests ++ mended_tests b) why none
      (is_first rule_tests (mended_tests b) why (subst (λ ns. IsMendRefusalOf (first_mend_refusal (map (mend_rule_refusal b) ns)) why) all h))

  pub rules_free : (numbers : List ℕ) → numbers ≡ rule_numbers b → first_mend_refusal (map (mend_rule_refusal b) numbers) ≡ None → first_mend_refusal rule_tests ≡ None
  rules_free numbers all h = sym (ap (λ ns. first_mend_refusal (map (mend_rule_refusal b) ns)) all) ∙ h

  -- where no test before mending refuses anything, those of what comes of it decide
  pub of_mended : first_mend_refusal (mend_program_tests b) ≡ None → first_mend_refusal rule_tests ≡ None → mend_refusal b ≡ first_mend_refusal (mended_tests b)
  of_mended none free = none_before (mend_program_tests b) (rule_tests ++ mended_tests b) none ∙ none_before rule_tests (mended_tests b) free

  pub of_sizes : (why : MendRefusal) → IsMendRefusalOf (first_mend_refusal (mended_size_tests (mended b.cast b.choreo))) why
      → IsMendRefusalOf (first_mend_refusal (mended_tests b)) why
  of_sizes why h = is_first (mended_size_tests (mended b.cast b.choreo)) body_tests why h

  pub of_bodies : (numbers : List ℕ) → numbers ≡ rule_numbers b → first_mend_refusal (mended_size_tests (mended b.cast b.choreo)) ≡ None
      → first_mend_refusal (mended_tests b) ≡ first_mend_refusal (map (mended_body_refusal b) numbers)
  of_bodies numbers all none =
      none_before (mended_size_tests (mended b.cast b.choreo)) body_tests none ∙ ap (λ ns. first_mend_refusal (map (mended_body_refusal b) ns)) (sym all)

  pub is_accepted : MendedAccepted → IsFormed b → (made : Result Bundle MendRefusal) → IfOk made (λ bundle. plain bundle ≡ mended_bundle b)
      → OnOk made (mend_refusal b ≡ None) → IfOk made (λ bundle. IsAccepted (plain bundle))
  is_accepted law formed (Ok bundle) same none = subst IsAccepted (sym same) (law b formed none)
  is_accepted law formed (Err why) same none = tt
