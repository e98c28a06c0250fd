-- Totals and counts, as lists alone.
use Rattle.std.proofs.Common.{◌≡◌, ◌≢◌, ℕ, zero, suc, ◌+◌, ◌*◌, ◌≤◌, List, [], ◌∷◌, ◌++◌, length, set, Bool, cond, refl, sym, ap, subst, ⊎_elim, arith, eq-eqb, ne_eqb}
use mathlib.Core.Option.{some, some-injective, some-ne-none}
use lib.ListN.{get_elem?}
use Rattle.atomic_table.proofs.Lists.{at_set}
use Rattle.ticket_table.specs.Counts.{total, one_if, times}

pub one_if_same : (n : ℕ) → one_if n n ≡ 1
one_if_same n = ap (λ (b : Bool). cond b 1 0) (eq-eqb n n refl)

pub one_if_apart : (m n : ℕ) → m ≢ n → one_if m n ≡ 0
one_if_apart m n ne = ap (λ (b : Bool). cond b 1 0) (ne_eqb m n ne)

module _ {A : Type 0} (f : A → ℕ) where
  pub total_append : (xs ys : List A) → total f (xs ++ ys) ≡ total f xs + total f ys
  total_append [] ys = omega arith
  total_append (x ∷ xs) ys = let t = total_append xs ys in omega arith

  pub total_set : (xs : List A) (i : ℕ) (v w : A) → get_elem? xs i ≡ some v → total f (set xs i w) + f v ≡ total f xs + f w
  total_set [] i v w at = absurd (some-ne-none v (sym at))
  total_set (x ∷ xs) zero v w at = let e : f x ≡ f v = ap f (some-injective x v at) in omega arith
  total_set (x ∷ xs) (suc i) v w at = let t = total_set xs i v w at in omega arith

  pub total_one : (xs : List A) (i : ℕ) (v : A) → get_elem? xs i ≡ some v → f v ≤ total f xs
  total_one [] i v at = absurd (some-ne-none v (sym at))
  total_one (x ∷ xs) zero v at = let e : f x ≡ f v = ap f (some-injective x v at) in omega arith
  total_one (x ∷ xs) (suc i) v at = let t = total_one xs i v at in omega arith

  -- who has the whole total leaves the others none
  pub total_rest : (xs : List A) (i j : ℕ) (v u : A) → j ≢ i → get_elem? xs i ≡ some v → get_elem? xs j ≡ some u → f v + f u ≤ total f xs
  total_rest [] i j v u ne at there = absurd (some-ne-none v (sym at))
  total_rest (x ∷ xs) zero zero v u ne at there = absurd (ne refl)
  total_rest (x ∷ xs) zero (suc j) v u ne at there = let e : f x ≡ f v = ap f (some-injective x v at) in let t = total_one xs j u there in omega arith
  total_rest (x ∷ xs) (suc i) zero v u ne at there = let e : f x ≡ f u = ap f (some-injective x u there) in let t = total_one xs i v at in omega arith
  total_rest (x ∷ xs) (suc i) (suc j) v u ne at there = let t = total_rest xs i j v u (λ e. ne (ap suc e)) at there in omega arith

  total_nothing : (xs : List A) → ((j : ℕ) (u : A) → get_elem? xs j ≡ some u → f u ≡ 0) → total f xs ≡ 0
  total_nothing [] none = refl
  total_nothing (x ∷ xs) none = let h = none zero x refl in let t = total_nothing xs (λ j u at. none (suc j) u at) in omega arith

  -- where each other has nothing, one has the whole total
  pub total_alone : (xs : List A) (i : ℕ) (v : A) → get_elem? xs i ≡ some v → ((j : ℕ) (u : A) → j ≢ i → get_elem? xs j ≡ some u → f u ≡ 0) → total f xs ≡ f v
  total_alone [] i v at none = absurd (some-ne-none v (sym at))
  total_alone (x ∷ xs) zero v at none =
      let e : f x ≡ f v = ap f (some-injective x v at) in
      let t = total_nothing xs (λ j u there. none (suc j) u (λ (q : suc j ≡ 0). omega arith) there) in omega arith
  total_alone (x ∷ xs) (suc i) v at none =
      let h = none zero x (λ (q : 0 ≡ suc i). omega arith) refl in
      let t = total_alone xs i v at (λ j u ne there. none (suc j) u (λ (q : suc j ≡ suc i). ne (omega arith)) there) in omega arith

module _ {A : Type 0} (f g : A → ℕ) where
  -- where each f is at most so many times its g, the total is too
  pub total_within : (xs : List A) → ((j : ℕ) (v : A) → get_elem? xs j ≡ some v → f v ≤ g v * 2147483648) → total f xs ≤ total g xs * 2147483648
  total_within [] each = omega arith
  total_within (x ∷ xs) each = let h = each zero x refl in let t = total_within xs (λ j v at. each (suc j) v at) in omega arith

module _ {A : Type 0} where
  -- what holds of each place but one, and of what was put there, holds of each
  pub each_set : (xs : List A) (i : ℕ) (w : A) (P : A → Type 0) → ((j : ℕ) (u : A) → get_elem? xs j ≡ some u → P u) → P w → (j : ℕ) (u : A) → get_elem? (set xs i w) j ≡ some u → P u
  each_set xs i w P others here j u at =
      ⊎_elim
      (λ (x : (j ≡ i) × (w ≡ u)). subst P x.1 here)
      (λ (x : (j ≢ i) × (get_elem? xs j ≡ some u)). others j u x.1)
      (at_set xs i j w u at)

pub times_append : (n : ℕ) (xs ys : List ℕ) → times n (xs ++ ys) ≡ times n xs + times n ys
times_append n xs ys = total_append (λ (m : ℕ). one_if m n) xs ys

pub times_with : (n m : ℕ) (xs : List ℕ) → times n (xs ++ m ∷ []) ≡ times n xs + one_if m n
times_with n m xs = let t = times_append n xs (m ∷ []) in omega arith

pub times_none : (n : ℕ) (xs : List ℕ) → length xs ≤ 0 → times n xs ≡ 0
times_none n [] few = refl
times_none n (x ∷ xs) few = absurd (omega arith)
