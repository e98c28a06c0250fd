-- The tests of the rules are those of the rules of the start, and then those of the script's adds.
use Rattle.std.proofs.Common.{◌≡◌, ◌∙◌, ◌+◌, ◌-◌, ℕ, List, [], ◌∷◌, ◌++◌, Option, Some, None, length, map, refl, sym, ap, arith}
use Rattle.std.proofs.lemmas.List.{map-append}
use Rattle.dioc_terms.specs.declared.bundles.Change.{Change}
use Rattle.dioc_terms.specs.declared.bundles.Change.TheVariants as change
use Rattle.dioc_terms.specs.declared.bundles.Timed.{Timed}
use Rattle.dioc_terms.specs.Bundles.{IsFormed, adds, numbers_from}
use Rattle.dioc_terms.specs.Plain.{PlainBundle}
use Rattle.rule_checks.specs.declared.refusals.Refusal.{Refusal}
use Rattle.rule_checks.specs.Parts.{opening_tests, change_refusal, script_tests}
use Rattle.rule_checks.specs.Refusals.{first_refusal, rule_refusal, rules_tests}
use Rattle.rule_checks.proofs.TestLemmas.{numbers_from-add, none_before, some_before}

-- a change that is no add has no refusal
of_adds : (b : PlainBundle) (script : List Timed)
    → first_refusal (map (λ (timed : Timed). change_refusal b timed.change) script) ≡ first_refusal (map (rule_refusal b) (adds script))
of_adds b [] = refl
of_adds b (timed ∷ rest) = by timed.change refl (of_adds b rest)
  where
    more : (t : Option Refusal) (xs ys : List (Option Refusal)) → first_refusal xs ≡ first_refusal ys → first_refusal (t ∷ xs) ≡ first_refusal (t ∷ ys)
    more None xs ys e = e
    more (Some why) xs ys e = refl

    by : (next : Change) → timed.change ≡ next → first_refusal (map (λ (one : Timed). change_refusal b one.change) rest) ≡ first_refusal (map (rule_refusal b) (adds rest))
        → first_refusal (map (λ (one : Timed). change_refusal b one.change) (timed ∷ rest)) ≡ first_refusal (map (rule_refusal b) (adds (timed ∷ rest)))
    by (change.Add n) e below = rw e (more (rule_refusal b n) (map (λ (one : Timed). change_refusal b one.change) rest) (map (rule_refusal b) (adds rest)) below)
    by (change.Drop name) e below = rw e below
    by (change.Env key v) e below = rw e below

in_two : (b : PlainBundle) → IsFormed b → rules_tests b ≡ opening_tests b ++ map (rule_refusal b) (adds b.script)
in_two b formed =
    ap (λ (n : ℕ). map (rule_refusal b) (numbers_from 0 n)) whole
    ∙ (ap (map (rule_refusal b)) (numbers_from-add 0 b.opening (length b.rules - b.opening))
    ∙ (map-append (rule_refusal b) (numbers_from 0 b.opening) (numbers_from (0 + b.opening) (length b.rules - b.opening))
    ∙ ap (λ (l : List ℕ). opening_tests b ++ map (rule_refusal b) l) (ap (λ (n : ℕ). numbers_from n (length b.rules - b.opening)) from_zero ∙ sym formed.added)))
  where
    whole : length b.rules ≡ b.opening + (length b.rules - b.opening)
    whole = omega (arith, formed.opening)

    from_zero : 0 + b.opening ≡ b.opening
    from_zero = omega arith

pub first_part : (b : PlainBundle) → IsFormed b → (why : Refusal) → first_refusal (opening_tests b) ≡ Some why → first_refusal (rules_tests b) ≡ Some why
first_part b formed why h = ap first_refusal (in_two b formed) ∙ some_before (opening_tests b) (map (rule_refusal b) (adds b.script)) why h

pub second_part : (b : PlainBundle) → IsFormed b → first_refusal (opening_tests b) ≡ None → first_refusal (rules_tests b) ≡ first_refusal (script_tests b)
second_part b formed h =
    ap first_refusal (in_two b formed)
    ∙ (none_before (opening_tests b) (map (rule_refusal b) (adds b.script)) h ∙ sym (of_adds b b.script))
