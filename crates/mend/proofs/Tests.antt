-- The first refusal of a list of tests, as the tests are made one after another.
use Rattle.std.proofs.Common.{◌≡◌, ◌<◌, ◌+◌, ◌∙◌, ℕ, suc, List, [], ◌∷◌, ◌++◌, Option, Some, None, length, map, take, drop, get_or, refl, sym, ap, take-append-drop, drop-cons}
use Rattle.std.proofs.lemmas.List.{take_more, map-append}
use Rattle.rule_checks.specs.declared.refusals.Refusal.{Refusal}
use Rattle.rule_checks.specs.Refusals.{first_refusal}
use Rattle.mend.specs.declared.refusals.MendRefusal.{MendRefusal}
use Rattle.mend.specs.Refusals.{first_mend_refusal, refused, IsMendRefusalOf}

-- tests that refuse nothing leave the first refusal to the tests after them
pub none_before : (xs ys : List (Option MendRefusal)) → first_mend_refusal xs ≡ None → first_mend_refusal (xs ++ ys) ≡ first_mend_refusal ys
none_before [] ys h = refl
none_before (None ∷ xs) ys h = none_before xs ys h
none_before (Some why ∷ xs) ys h = cc

pub some_before : (xs ys : List (Option MendRefusal)) (why : MendRefusal) → first_mend_refusal xs ≡ Some why → first_mend_refusal (xs ++ ys) ≡ Some why
some_before [] ys why h = cc
some_before (None ∷ xs) ys why h = some_before xs ys why h
some_before (Some w ∷ xs) ys why h = h

pub both_none : (xs ys : List (Option MendRefusal)) → first_mend_refusal (xs ++ ys) ≡ None → (first_mend_refusal xs ≡ None) × (first_mend_refusal ys ≡ None)
both_none [] ys h = (refl, h)
both_none (None ∷ xs) ys h = both_none xs ys h
both_none (Some why ∷ xs) ys h = cc

pub none_both : (xs ys : List (Option MendRefusal)) → first_mend_refusal xs ≡ None → first_mend_refusal ys ≡ None → first_mend_refusal (xs ++ ys) ≡ None
none_both xs ys h k = none_before xs ys h ∙ k

-- the error of a call that makes some of the tests
pub is_first : (xs ys : List (Option MendRefusal)) (why : MendRefusal) → IsMendRefusalOf (first_mend_refusal xs) why → IsMendRefusalOf (first_mend_refusal (xs ++ ys)) why
is_first xs ys why h told = some_before xs ys why (h told)

pub is_later : (xs ys : List (Option MendRefusal)) (why : MendRefusal) → first_mend_refusal xs ≡ None → IsMendRefusalOf (first_mend_refusal ys) why
    → IsMendRefusalOf (first_mend_refusal (xs ++ ys)) why
is_later xs ys why none h told = none_before xs ys none ∙ h told

-- the first refusal of tests of `rule_checks`
pub first_of_refused : (xs : List (Option Refusal)) → first_mend_refusal (map refused xs) ≡ refused (first_refusal xs)
first_of_refused [] = refl
first_of_refused (None ∷ xs) = first_of_refused xs
first_of_refused (Some why ∷ xs) = refl

-- tests after those of `rule_checks`
pub after_refused : (xs : List (Option Refusal)) (ys : List (Option MendRefusal)) → first_refusal xs ≡ None → first_mend_refusal (map refused xs ++ ys) ≡ first_mend_refusal ys
after_refused xs ys none = none_before (map refused xs) ys (first_of_refused xs ∙ ap refused none)

pub in_refused : (xs : List (Option Refusal)) (ys : List (Option MendRefusal)) (why : MendRefusal) → IsMendRefusalOf (refused (first_refusal xs)) why
    → IsMendRefusalOf (first_mend_refusal (map refused xs ++ ys)) why
in_refused xs ys why h told = some_before (map refused xs) ys why (first_of_refused xs ∙ h told)

pub only_one : (test : Option MendRefusal) → first_mend_refusal (test ∷ []) ≡ test
only_one None = refl
only_one (Some why) = refl

pub none_refused : (o : Option Refusal) → refused o ≡ None → o ≡ None
none_refused None h = refl
none_refused (Some why) h = cc

-- A test that is made of each item of a list
module _ {X : Type 0} (t : X → Option MendRefusal) where
  one_more : (x : X) → t x ≡ None → first_mend_refusal (t x ∷ []) ≡ None
  one_more x e = rw e refl

  first_some : (x : X) (rest : List (Option MendRefusal)) (why : MendRefusal) → t x ≡ Some why → first_mend_refusal (t x ∷ rest) ≡ Some why
  first_some x rest why e = rw e refl

  pub passed : (xs : List X) (i : ℕ) (x d : X) → i < length xs → x ≡ get_or xs i d → first_mend_refusal (map t (take i xs)) ≡ None → t x ≡ None
      → first_mend_refusal (map t (take (i + 1) xs)) ≡ None
  passed xs i x d inside at before now =
      ap (λ (l : List X). first_mend_refusal (map t l)) (take_more xs i d inside ∙ ap (λ (y : X). take i xs ++ y ∷ []) (sym at))
      ∙ (ap first_mend_refusal (map-append t (take i xs) (x ∷ []))
      ∙ (none_before (map t (take i xs)) (t x ∷ []) before ∙ one_more x now))

  pub stopped : (xs : List X) (i : ℕ) (x d : X) (why : MendRefusal) → i < length xs → x ≡ get_or xs i d → first_mend_refusal (map t (take i xs)) ≡ None → t x ≡ Some why
      → first_mend_refusal (map t xs) ≡ Some why
  stopped xs i x d why inside at before now =
      ap (λ (l : List X). first_mend_refusal (map t l)) (sym (take-append-drop i xs) ∙ ap (λ (l : List X). take i xs ++ l) (drop-cons xs i d inside ∙ ap (λ (y : X). y ∷ drop (suc i) xs) (sym at)))
      ∙ (ap first_mend_refusal (map-append t (take i xs) (x ∷ drop (suc i) xs))
      ∙ (none_before (map t (take i xs)) (t x ∷ map t (drop (suc i) xs)) before ∙ first_some x (map t (drop (suc i) xs)) why now))
