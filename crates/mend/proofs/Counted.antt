-- The numbers of the rules: those of the start, and then those of the script's adds.
use Rattle.std.proofs.Common.{◌≡◌, ◌<◌, ◌+◌, ◌-◌, ◌∙◌, ℕ, zero, suc, List, [], ◌∷◌, ◌++◌, Option, Some, None, length, map, take, get_or, refl, sym, ap, arith}
use Rattle.std.proofs.lemmas.List.{take_more}
use Rattle.dioc_terms.specs.declared.bundles.Change.{Change}
use Rattle.dioc_terms.specs.declared.bundles.Change.TheVariants as change
use Rattle.dioc_terms.specs.declared.bundles.Timed.{Timed}
use Rattle.dioc_terms.specs.Bundles.{IsFormed, adds, numbers_from}
use Rattle.dioc_terms.specs.Plain.{PlainBundle}
use Rattle.mend.specs.declared.refusals.MendRefusal.{MendRefusal}
use Rattle.mend.specs.Rules.{added_number}
use Rattle.mend.specs.Refusals.{first_mend_refusal, rule_numbers}
use Rattle.mend.proofs.Tests.{both_none}

pub numbers_from-add : (n a b : ℕ) → numbers_from n (a + b) ≡ numbers_from n a ++ numbers_from (n + a) b
numbers_from-add n zero b =
    let left : 0 + b ≡ b = omega arith in
    let right : n + 0 ≡ n = omega arith in
    rw (left, right) refl
numbers_from-add n (suc a) b =
    let left : suc a + b ≡ suc (a + b) = omega arith in
    let right : n + suc a ≡ suc n + a = omega arith in
    rw (left, right) (ap (λ (l : List ℕ). n ∷ l) (numbers_from-add (suc n) a b))

pub one_more_number : (k : ℕ) → numbers_from 0 (k + 1) ≡ numbers_from 0 k ++ k ∷ []
one_more_number k =
    let same : 0 + k ≡ k = omega arith in
    numbers_from-add 0 k 1 ∙ ap (λ (m : ℕ). numbers_from 0 k ++ m ∷ []) same

pub length-numbers : (n count : ℕ) → length (numbers_from n count) ≡ count
length-numbers n zero = refl
length-numbers n (suc count) = ap suc (length-numbers (suc n) count)

pub number-at : (n count i d : ℕ) → i < count → get_or (numbers_from n count) i d ≡ n + i
number-at n zero i d inside = absurd (omega (arith, inside))
number-at n (suc count) zero d inside = omega arith
number-at n (suc count) (suc i) d inside =
    let same : suc n + i ≡ n + suc i = omega arith in
    number-at (suc n) count i d (omega (arith, inside)) ∙ same

-- what a script adds, change by change
pub adds-append : (xs ys : List Timed) → adds (xs ++ ys) ≡ adds xs ++ adds ys
adds-append [] ys = refl
adds-append (timed ∷ xs) ys = by timed.change refl (adds-append xs ys)
  where
    by : (next : Change) → timed.change ≡ next → adds (xs ++ ys) ≡ adds xs ++ adds ys → adds (timed ∷ (xs ++ ys)) ≡ adds (timed ∷ xs) ++ adds ys
    by (change.Add n) e below = rw e (ap (λ (l : List ℕ). n ∷ l) below)
    by (change.Drop name) e below = rw e below
    by (change.Env key v) e below = rw e below

adds-one : (timed : Timed) → adds (timed ∷ []) ≡ added_number timed.change
adds-one timed = by timed.change refl
  where
    by : (next : Change) → timed.change ≡ next → adds (timed ∷ []) ≡ added_number timed.change
    by (change.Add n) e = rw e refl
    by (change.Drop name) e = rw e refl
    by (change.Env key v) e = rw e refl

pub one_more_add : (script : List Timed) (i : ℕ) (timed : Timed) → i < length script → timed ≡ get_or script i timed
    → adds (take (i + 1) script) ≡ adds (take i script) ++ added_number timed.change
one_more_add script i timed inside at =
    ap adds (take_more script i timed inside ∙ ap (λ (t : Timed). take i script ++ t ∷ []) (sym at))
    ∙ (adds-append (take i script) (timed ∷ []) ∙ ap (λ (l : List ℕ). adds (take i script) ++ l) (adds-one timed))

pub all_numbers : (b : PlainBundle) → IsFormed b → numbers_from 0 b.opening ++ adds b.script ≡ rule_numbers b
all_numbers b formed =
    let whole : length b.rules ≡ b.opening + (length b.rules - b.opening) = omega (arith, formed.opening) in
    let from_zero : b.opening ≡ 0 + b.opening = omega arith in
    ap (λ (l : List ℕ). numbers_from 0 b.opening ++ l) (formed.added ∙ ap (λ n. numbers_from n (length b.rules - b.opening)) from_zero)
    ∙ (sym (numbers_from-add 0 b.opening (length b.rules - b.opening)) ∙ ap (numbers_from 0) (sym whole))

-- A test that is made of each number refuses nothing where none of them is refused
module _ (t : ℕ → Option MendRefusal) where
  one_none : (o : Option MendRefusal) → first_mend_refusal (o ∷ []) ≡ None → o ≡ None
  one_none None h = refl
  one_none (Some why) h = cc

  pub at_number : (n count k : ℕ) → first_mend_refusal (map t (numbers_from n count)) ≡ None → k < count → t (n + k) ≡ None
  at_number n zero k h inside = absurd (omega (arith, inside))
  at_number n (suc count) k h inside =
      let each = both_none (t n ∷ []) (map t (numbers_from (suc n) count)) h in
      by k inside (one_none (t n) each.0) (λ j within. at_number (suc n) count j each.1 within)
    where
      by : (j : ℕ) → j < suc count → t n ≡ None → ((i : ℕ) → i < count → t (suc n + i) ≡ None) → t (n + j) ≡ None
      by zero within now later =
          let same : n + 0 ≡ n = omega arith in
          ap t same ∙ now
      by (suc j) within now later =
          let same : n + suc j ≡ suc n + j = omega arith in
          ap t same ∙ later j (omega (arith, within))
