-- The first refusal of a list of tests, as the tests are made one after another.
use Rattle.std.proofs.Common.{◌≡◌, ◌<◌, ◌+◌, ◌-◌, ◌∙◌, ℕ, zero, suc, List, [], ◌∷◌, ◌++◌, Option, Some, None, length, map, take, drop, get_or, refl, sym, ap, arith, take-append-drop, drop-cons}
use Rattle.std.proofs.lemmas.List.{take_more, map-append}
use Rattle.dioc_terms.specs.Bundles.{numbers_from}
use Rattle.rule_checks.specs.declared.refusals.Refusal.{Refusal}
use Rattle.rule_checks.specs.Refusals.{first_refusal}

-- a test that refuses nothing leaves the first refusal to the tests after it
pub none_first : (t : Option Refusal) (rest : List (Option Refusal)) → t ≡ None → first_refusal (t ∷ rest) ≡ first_refusal rest
none_first t rest e = rw e refl

-- the refusal of the first test is the first refusal
pub some_first : (t : Option Refusal) (rest : List (Option Refusal)) (why : Refusal) → t ≡ Some why → first_refusal (t ∷ rest) ≡ Some why
some_first t rest why e = rw e refl

-- the same of several tests before others
pub none_before : (xs ys : List (Option Refusal)) → first_refusal xs ≡ None → first_refusal (xs ++ ys) ≡ first_refusal ys
none_before [] ys h = refl
none_before (None ∷ xs) ys h = none_before xs ys h
none_before (Some why ∷ xs) ys h = cc

pub some_before : (xs ys : List (Option Refusal)) (why : Refusal) → first_refusal xs ≡ Some why → first_refusal (xs ++ ys) ≡ Some why
some_before [] ys why h = cc
some_before (None ∷ xs) ys why h = some_before xs ys why h
some_before (Some w ∷ xs) ys why h = h

-- A test that is made of each item of a list
module _ {X : Type 0} (t : X → Option Refusal) where
  pub passed : (xs : List X) (i : ℕ) (x : X) → i < length xs → x ≡ get_or xs i x → first_refusal (map t (take i xs)) ≡ None → t x ≡ None
      → first_refusal (map t (take (i + 1) xs)) ≡ None
  passed xs i x inside at before now =
      ap (λ (l : List X). first_refusal (map t l)) (take_more xs i x inside ∙ ap (λ (y : X). take i xs ++ y ∷ []) (sym at))
      ∙ (ap first_refusal (map-append t (take i xs) (x ∷ []))
      ∙ (none_before (map t (take i xs)) (t x ∷ []) before ∙ none_first (t x) [] now))

  pub stopped : (xs : List X) (i : ℕ) (x : X) (why : Refusal) → i < length xs → x ≡ get_or xs i x → first_refusal (map t (take i xs)) ≡ None → t x ≡ Some why
      → first_refusal (map t xs) ≡ Some why
  stopped xs i x why inside at before now =
      ap (λ (l : List X). first_refusal (map t l)) (sym (take-append-drop i xs) ∙ ap (λ (l : List X). take i xs ++ l) (drop-cons xs i x inside ∙ ap (λ (y : X). y ∷ drop (suc i) xs) (sym at)))
      ∙ (ap first_refusal (map-append t (take i xs) (x ∷ drop (suc i) xs))
      ∙ (none_before (map t (take i xs)) (t x ∷ map t (drop (suc i) xs)) before ∙ some_first (t x) (map t (drop (suc i) xs)) why now))

-- numbers in two parts
pub numbers_from-add : (n a b : ℕ) → numbers_from n (a + b) ≡ numbers_from n a ++ numbers_from (n + a) b
numbers_from-add n zero b =
    let left : 0 + b ≡ b = omega arith in
    let right : n + 0 ≡ n = omega arith in
    rw (left, right) refl
numbers_from-add n (suc a) b =
    let left : suc a + b ≡ suc (a + b) = omega arith in
    let right : n + suc a ≡ suc n + a = omega arith in
    rw (left, right) (ap (λ (l : List ℕ). n ∷ l) (numbers_from-add (suc n) a b))

numbers_from-last : (k : ℕ) → numbers_from 0 (k + 1) ≡ numbers_from 0 k ++ k ∷ []
numbers_from-last k = numbers_from-add 0 k 1 ∙ ap (λ (m : ℕ). numbers_from 0 k ++ m ∷ []) none_more
  where
    none_more : 0 + k ≡ k
    none_more = omega arith

numbers_from-at : (k left : ℕ) → numbers_from 0 (k + suc left) ≡ numbers_from 0 k ++ k ∷ numbers_from (suc k) left
numbers_from-at k left = numbers_from-add 0 k (suc left) ∙ ap (λ (m : ℕ). numbers_from 0 k ++ m ∷ numbers_from (suc m) left) none_more
  where
    none_more : 0 + k ≡ k
    none_more = omega arith

-- A test that is made of each number below a bound
module _ (t : ℕ → Option Refusal) where
  pub passed_number : (k : ℕ) → first_refusal (map t (numbers_from 0 k)) ≡ None → t k ≡ None → first_refusal (map t (numbers_from 0 (k + 1))) ≡ None
  passed_number k before now =
      ap (λ (l : List ℕ). first_refusal (map t l)) (numbers_from-last k)
      ∙ (ap first_refusal (map-append t (numbers_from 0 k) (k ∷ []))
      ∙ (none_before (map t (numbers_from 0 k)) (t k ∷ []) before ∙ none_first (t k) [] now))

  pub stopped_number : (k most : ℕ) (why : Refusal) → k < most → first_refusal (map t (numbers_from 0 k)) ≡ None → t k ≡ Some why
      → first_refusal (map t (numbers_from 0 most)) ≡ Some why
  stopped_number k most why below before now =
      ap (λ (n : ℕ). first_refusal (map t (numbers_from 0 n))) whole
      ∙ (ap (λ (l : List ℕ). first_refusal (map t l)) (numbers_from-at k left)
      ∙ (ap first_refusal (map-append t (numbers_from 0 k) (k ∷ numbers_from (suc k) left))
      ∙ (none_before (map t (numbers_from 0 k)) (t k ∷ map t (numbers_from (suc k) left)) before ∙ some_first (t k) (map t (numbers_from (suc k) left)) why now)))
    where
      left : ℕ
      left = most - suc k

      whole : most ≡ k + suc left
      whole = omega (arith, below)
