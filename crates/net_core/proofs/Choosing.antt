-- The acts at places.
use Rattle.std.proofs.Common.{◌≡◌, ◌+◌, ◌<◌, ℕ, zero, suc, List, [], ◌∷◌, ◌++◌, Bool, true, false, ◌&&◌, length, take, get_or, refl, ap, ap₂, ◌∙◌, sym, arith, append-nil, Some}
use Rattle.std.specs.Prelude.{filter, if◌then◌else◌, nat_lt, slice_get}
use Rattle.std.specs.List.{cons_option, filter_map}
use Rattle.std.proofs.lemmas.Bool.{and_parts, cond-true, cond-false, lt-ltb, ltb-true}
use Rattle.std.proofs.lemmas.List.Elements.{filter_map-append, filter_more}
use Rattle.std.proofs.lemmas.List.Folds.{list_all-append}
use Rattle.std.proofs.lemmas.Option.{slice_get-get_or}
use Rattle.dioc_terms.specs.declared.entries.Act.{Act}
use Rattle.net_core.specs.MovesIn.{are_places, chosen}

module _ (p : Act → Bool) (xs : List Act) (ps : List ℕ) (i : ℕ) (x : Act) (inside : i < length xs)
    (so_far : chosen ps xs ≡ filter p (take i xs)) (is : x ≡ get_or xs i x) where
  passed : p x ≡ true → filter p (take (i + 1) xs) ≡ filter p (take i xs) ++ x ∷ []
  passed h = filter_more p xs i x inside ∙ ap (λ y. filter p (take i xs) ++ (if p y then y ∷ [] else [])) (sym is)
      ∙ ap (λ ys. filter p (take i xs) ++ ys) (cond-true (p x) (x ∷ []) [] h)

  pub chosen_more : p x ≡ true → chosen (ps ++ i ∷ []) xs ≡ filter p (take (i + 1) xs)
  chosen_more h =
      filter_map-append (slice_get xs) ps (i ∷ [])
      ∙ ap₂ (λ ys o. ys ++ filter_map (λ k. o) (i ∷ [])) so_far (slice_get-get_or xs i x inside)
      ∙ ap (λ y. filter p (take i xs) ++ y ∷ []) (sym is)
      ∙ sym (passed h)

  pub chosen_same : p x ≡ false → chosen ps xs ≡ filter p (take (i + 1) xs)
  chosen_same h =
      so_far ∙ sym (filter_more p xs i x inside ∙ ap (λ y. filter p (take i xs) ++ (if p y then y ∷ [] else [])) (sym is)
      ∙ ap (λ ys. filter p (take i xs) ++ ys) (cond-false (p x) (x ∷ []) [] h) ∙ append-nil (filter p (take i xs)))

pub one_more_place : (xs : List Act) (ps : List ℕ) (i : ℕ) → i < length xs → are_places ps xs ≡ true → are_places (ps ++ i ∷ []) xs ≡ true
one_more_place xs ps i inside h =
    list_all-append (λ k. nat_lt k (length xs)) ps (i ∷ [])
    ∙ ap₂ (λ s t. s && (t && true)) h (lt-ltb i (length xs) inside)

-- the first of the places, and the others
first_place : (xs : List Act) (p : ℕ) (ps : List ℕ) → are_places (p ∷ ps) xs ≡ true → (p < length xs) × (are_places ps xs ≡ true)
first_place xs p ps h =
    let parts = and_parts (nat_lt p (length xs)) (are_places ps xs) h in
    (ltb-true p (length xs) parts.0, parts.1)

pub chosen_first : (xs : List Act) (p : ℕ) (ps : List ℕ) (x : Act) → p < length xs → chosen (p ∷ ps) xs ≡ get_or xs p x ∷ chosen ps xs
chosen_first xs p ps x inside = ap (λ o. cons_option o (chosen ps xs)) (slice_get-get_or xs p x inside)

-- there are as many as places
pub chosen_long : (xs : List Act) (ps : List ℕ) → are_places ps xs ≡ true → length (chosen ps xs) ≡ length ps
chosen_long xs [] h = refl
chosen_long [] (p ∷ ps) h = let inside : p < 0 = (first_place [] p ps h).0 in absurd (omega (arith, inside))
chosen_long (x ∷ xs) (p ∷ ps) h =
    let parts = first_place (x ∷ xs) p ps h in
    ap length (chosen_first (x ∷ xs) p ps x parts.0) ∙ ap suc (chosen_long (x ∷ xs) ps parts.1)

-- an act stands at each place
pub place_inside : (xs : List Act) (ps : List ℕ) (i : ℕ) → are_places ps xs ≡ true → i < length ps → get_or ps i 0 < length xs
place_inside xs [] i h inside = absurd (omega (arith, inside))
place_inside xs (p ∷ ps) zero h inside = (first_place xs p ps h).0
place_inside xs (p ∷ ps) (suc i) h inside = place_inside xs ps i (first_place xs p ps h).1 (omega (arith, inside))

-- and is the one that is chosen
pub chosen_at : (xs : List Act) (ps : List ℕ) (i : ℕ) (x : Act) → are_places ps xs ≡ true → i < length ps
    → x ≡ get_or xs (get_or ps i 0) x → slice_get (chosen ps xs) i ≡ Some x
chosen_at xs [] i x h inside is = absurd (omega (arith, inside))
chosen_at xs (p ∷ ps) zero x h inside is =
    ap (λ ys. slice_get ys 0) (chosen_first xs p ps x (first_place xs p ps h).0) ∙ ap Some (sym is)
chosen_at xs (p ∷ ps) (suc i) x h inside is =
    ap (λ ys. slice_get ys (suc i)) (chosen_first xs p ps x (first_place xs p ps h).0) ∙ chosen_at xs ps i x (first_place xs p ps h).1 (omega (arith, inside)) is
