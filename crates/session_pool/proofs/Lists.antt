-- Lists read by their places.
use Rattle.std.proofs.Common.{◌≡◌, ◌≢◌, ℕ, zero, suc, ◌<◌, List, [], ◌∷◌, ◌++◌, length, map, set, get_or, Option, Some, None, true, refl, sym, ap, ◌∙◌, ◌+◌, arith}
use Rattle.std.specs.Prelude.{slice_get, All, IfOk, Result, Ok, Err}
use Rattle.std.specs.List.{AllByRecursion}
use Rattle.std.specs.Option.{is_some}
use Rattle.std.proofs.lemmas.List.Elements.{recursion_from_All}
use Rattle.session_pool.specs.Answers.{numbered}

pub some_same : {A : Type 0} {x y : A} → Some x ≡ Some y → x ≡ y
some_same e = cc

module _ {A : Type 0} where
  pub get_set_here : (xs : List A) (i : ℕ) (x : A) → i < length xs → slice_get (set xs i x) i ≡ Some x
  get_set_here [] i x lt = absurd (omega arith)
  get_set_here (y ∷ ys) zero x lt = refl
  get_set_here (y ∷ ys) (suc i) x lt = get_set_here ys i x (omega arith)

  pub get_set_else : (xs : List A) (i j : ℕ) (x : A) → j ≢ i → slice_get (set xs i x) j ≡ slice_get xs j
  get_set_else [] i j x ne = refl
  get_set_else (y ∷ ys) zero zero x ne = absurd (ne refl)
  get_set_else (y ∷ ys) zero (suc j) x ne = refl
  get_set_else (y ∷ ys) (suc i) zero x ne = refl
  get_set_else (y ∷ ys) (suc i) (suc j) x ne = get_set_else ys i j x (λ e. ne (ap suc e))

  pub length_set : (xs : List A) (i : ℕ) (x : A) → length (set xs i x) ≡ length xs
  length_set [] i x = refl
  length_set (y ∷ ys) zero x = refl
  length_set (y ∷ ys) (suc i) x = ap suc (length_set ys i x)

  pub get_within : (xs : List A) (i : ℕ) (x : A) → slice_get xs i ≡ Some x → i < length xs
  get_within [] i x at = absurd cc
  get_within (y ∷ ys) zero x at = omega arith
  get_within (y ∷ ys) (suc i) x at = let t = get_within ys i x at in omega arith

  -- what holds at each place holds of each
  pub of_places : (P : A → Type 0) (xs : List A) → ((i : ℕ) (d : A) → i < length xs → P (get_or xs i d)) → AllByRecursion P xs
  of_places P [] each = tt
  of_places P (x ∷ xs) each = (each 0 x (omega arith), of_places P xs (λ i d lt. each (suc i) d (omega arith)))

  pub both : (P Q : A → Type 0) (R : A → Type 0) → ((x : A) → P x → Q x → R x) → (xs : List A) → AllByRecursion P xs → AllByRecursion Q xs → AllByRecursion R xs
  both P Q R f [] p q = tt
  both P Q R f (x ∷ xs) p q = (f x p.0 q.0, both P Q R f xs p.1 q.1)

  pub mapped : (P Q : A → Type 0) → ((x : A) → P x → Q x) → (xs : List A) → AllByRecursion P xs → AllByRecursion Q xs
  mapped P Q f [] p = tt
  mapped P Q f (x ∷ xs) p = (f x p.0, mapped P Q f xs p.1)

  -- where a value stands at each place, each is one
  pub each_some : (xs : List (Option A)) → ((i : ℕ) → i < length xs → (x : A) × (slice_get xs i ≡ Some (Some x))) → AllByRecursion (λ place. is_some place ≡ true) xs
  each_some [] full = tt
  each_some (Some x ∷ xs) full = (refl, each_some xs (λ i lt. full (suc i) (omega arith)))
  each_some (None ∷ xs) full = absurd (let here = (full 0 (omega arith)).1 in cc)

  -- two lists with the same at each place
  pub same_by_places : {B : Type 0} (f : A → B) (xs : List A) (ys : List B) → length xs ≡ length ys → ((i : ℕ) (x : A) → slice_get xs i ≡ Some x → slice_get ys i ≡ Some (f x)) → map f xs ≡ ys
  same_by_places f [] [] len each = refl
  same_by_places f [] (y ∷ ys) len each = absurd (omega arith)
  same_by_places f (x ∷ xs) [] len each = absurd (omega arith)
  same_by_places f (x ∷ xs) (y ∷ ys) len each =
      let here : f x ≡ y = sym (some_same (each 0 x refl)) in
      let rest = same_by_places f xs ys (omega arith) (λ i z at. each (suc i) z at) in
      λ k. here k ∷ rest k

  pub get_map_some : (xs : List A) (i : ℕ) (x : A) → slice_get xs i ≡ Some x → slice_get (map (λ (y : A). Some y) xs) i ≡ Some (Some x)
  get_map_some [] i x at = absurd cc
  get_map_some (y ∷ ys) zero x at = ap Some at
  get_map_some (y ∷ ys) (suc i) x at = get_map_some ys i x at

  -- where no place has a value, none has this one
  pub none_at : (xs : List (Option A)) → All (λ place. place ≡ None) xs → (i : ℕ) (x : A) → slice_get xs i ≡ Some (Some x) → ⊥
  none_at xs empty i x at = go xs (recursion_from_All (λ place. place ≡ None) xs empty) i at
    where
      go : (xs : List (Option A)) → AllByRecursion (λ place. place ≡ None) xs → (i : ℕ) → slice_get xs i ≡ Some (Some x) → ⊥
      go [] all i at = cc
      go (y ∷ ys) all zero at = let none = all.0 in cc
      go (y ∷ ys) all (suc i) at = go ys all.1 i at

  -- the value of a function at each place
  pub get_mapped : {B : Type 0} (f : A → B) (xs : List A) (i : ℕ) (d : A) → i < length xs → slice_get (map f xs) i ≡ Some (f (get_or xs i d))
  get_mapped f [] i d lt = absurd (omega arith)
  get_mapped f (x ∷ xs) zero d lt = refl
  get_mapped f (x ∷ xs) (suc i) d lt = get_mapped f xs i d (omega arith)

  -- what is made of the element at a place by its number, counted from the first's
  pub get_numbered : {B : Type 0} (f : ℕ → A → B) (first : ℕ) (xs : List A) (i : ℕ) (x : A) → slice_get xs i ≡ Some x → slice_get (numbered f first xs) i ≡ Some (f (first + i) x)
  get_numbered f first [] i x at = absurd cc
  get_numbered f first (y ∷ ys) zero x at = ap Some (ap (f first) (some_same at) ∙ ap (λ n. f n x) (omega arith))
  get_numbered f first (y ∷ ys) (suc i) x at = get_numbered f (suc first) ys i x at ∙ ap Some (ap (λ n. f n x) (omega arith))

  pub length_numbered : {B : Type 0} (f : ℕ → A → B) (first : ℕ) (xs : List A) → length (numbered f first xs) ≡ length xs
  length_numbered f first [] = refl
  length_numbered f first (x ∷ xs) = ap suc (length_numbered f (suc first) xs)

  -- what is made of each is the element itself
  pub numbered_same : (first : ℕ) (xs : List A) → numbered (λ _ x. x) first xs ≡ xs
  numbered_same first [] = refl
  numbered_same first (x ∷ xs) = ap (λ l. x ∷ l) (numbered_same (suc first) xs)

  pub all_more : (P : A → Type 0) (xs : List A) (x : A) → AllByRecursion P xs → P x → AllByRecursion P (xs ++ x ∷ [])
  all_more P [] x all here = (here, tt)
  all_more P (y ∷ ys) x all here = (all.0, all_more P ys x all.1 here)

-- what is known of an answer, carried on
pub ok_then : {A E : Type 0} {P Q : A → Type 0} (result : Result A E) → ((found : A) → P found → Q found) → IfOk result P → IfOk result Q
ok_then (Ok found) follows is = follows found is
ok_then (Err fault) follows is = is
