-- Where what was made is put at its places, each place has what is wanted there or nothing.
use Rattle.std.proofs.Common.{◌≡◌, ◌≢◌, ℕ, suc, ◌<◌, ◌≤◌, List, [], ◌∷◌, ◌++◌, length, map, set, Option, Some, None, refl, sym, ap, ◌∙◌, subst, arith, append_assoc, append-nil}
use Rattle.std.specs.Prelude.{slice_get, All}
use Rattle.std.specs.List.{AllByRecursion}
use mathlib.Core.Logic.{dite}
use native.Mathlib.Decide.{ℕ_discrete}
use Rattle.ticket_table.specs.Counts.{times}
use Rattle.ticket_table.proofs.Totals.{one_if_apart, times_with}
use Rattle.session_pool.specs.declared.jobs.Numbered.{Numbered}
use Rattle.session_pool.specs.Jobs.{IsRight, numbers_of, HasWorked}
use Rattle.session_pool.specs.Places.{placed}
use Rattle.session_pool.proofs.Lists.{get_set_here, get_set_else, length_set, get_within, get_map_some, none_at, same_by_places, some_same}

module _ {T V : Type 0} (seen : T → V) where
  -- each place has what is wanted there or nothing, and not nothing where the session was drawn
  pub record FitPlaces (wanted : List V) (drawn : List ℕ) (places : List (Option T)) : Type 0 where
    pub as_many : length places ≡ length wanted
    pub right : (n : ℕ) (a : T) → slice_get places n ≡ Some (Some a) → slice_get wanted n ≡ Some (seen a)
    pub full : (n : ℕ) → n < length wanted → 0 < times n drawn → (a : T) × (slice_get places n ≡ Some (Some a))

  pub no_places : (wanted : List V) (places : List (Option T)) → length places ≡ length wanted → All (λ place. place ≡ None) places → FitPlaces wanted [] places
  no_places wanted places same empty = record {
    as_many = same;
    right = λ n a at. absurd (none_at places empty n a at);
    full = λ n lt. λ (some : 0 < 0). absurd (omega arith);
  }

  one_placed : (wanted : List V) (drawn : List ℕ) (places : List (Option T)) (numbered : Numbered T) → FitPlaces wanted drawn places → IsRight seen wanted numbered
      → FitPlaces wanted (drawn ++ numbered.number ∷ []) (set places numbered.number (Some numbered.made))
  one_placed wanted drawn places numbered fits is = record {
    as_many = length_set places k (Some numbered.made) ∙ fits.as_many;
    right = λ n a at.
        dite (ℕ_discrete n k)
        (λ (e : n ≡ k).
        let here : slice_get (set places k (Some numbered.made)) n ≡ Some (Some numbered.made) = ap (slice_get (set places k (Some numbered.made))) e ∙ get_set_here places k (Some numbered.made) inside in
        let same : numbered.made ≡ a = some_same (some_same (sym here ∙ at)) in
        ap (slice_get wanted) e ∙ (is ∙ ap (λ (x : T). Some (seen x)) same))
        (λ (ne : n ≢ k). fits.right n a (sym (get_set_else places k n (Some numbered.made) ne) ∙ at));
    full = λ n lt some.
        dite (ℕ_discrete n k)
        (λ (e : n ≡ k). (numbered.made, ap (slice_get (set places k (Some numbered.made))) e ∙ get_set_here places k (Some numbered.made) inside))
        (λ (ne : n ≢ k).
        let counts = times_with n k drawn in
        let none = one_if_apart k n (λ e. ne (sym e)) in
        let old = fits.full n lt (omega arith) in
        (old.0, get_set_else places k n (Some numbered.made) ne ∙ old.1));
  }
    where
      k : ℕ
      k = numbered.number

      inside : k < length places
      inside = let within = get_within wanted k (seen numbered.made) is in let many = fits.as_many in omega arith

  all_placed : (wanted : List V) (kept : List (Numbered T)) (drawn : List ℕ) (places : List (Option T)) → FitPlaces wanted drawn places → AllByRecursion (IsRight seen wanted) kept
      → FitPlaces wanted (drawn ++ numbers_of kept) (placed places kept)
  all_placed wanted [] drawn places fits right = subst (λ l. FitPlaces wanted l places) (sym (append-nil drawn)) fits
  all_placed wanted (first ∷ rest) drawn places fits right =
      subst (λ l. FitPlaces wanted l (placed (set places first.number (Some first.made)) rest)) (append_assoc drawn (first.number ∷ []) (numbers_of rest))
      (all_placed wanted rest (drawn ++ first.number ∷ []) (set places first.number (Some first.made)) (one_placed wanted drawn places first fits right.0) right.1)

  -- a number that is past the last session changes nothing
  past_drawn : (wanted : List V) (drawn : List ℕ) (last : ℕ) (places : List (Option T)) → length wanted ≤ last → FitPlaces wanted drawn places → FitPlaces wanted (drawn ++ last ∷ []) places
  past_drawn wanted drawn last places past fits = record {
    as_many = fits.as_many;
    right = fits.right;
    full = λ n lt some.
        let counts = times_with n last drawn in
        let none = one_if_apart last n (λ (e : last ≡ n). let q = past in omega arith) in
        fits.full n lt (omega arith);
  }

  pub worker_placed : (wanted : List V) (drawn more : List ℕ) (kept : List (Numbered T)) (places : List (Option T)) → FitPlaces wanted drawn places → HasWorked seen wanted more kept → FitPlaces wanted (drawn ++ more) (placed places kept)
  worker_placed wanted drawn more kept places fits worked =
      subst (λ l. FitPlaces wanted l (placed places kept)) (append_assoc drawn (numbers_of kept) (worked.last ∷ []) ∙ ap (λ l. drawn ++ l) (sym worked.drawn))
      (past_drawn wanted (drawn ++ numbers_of kept) worked.last (placed places kept) worked.past (all_placed wanted kept drawn places fits worked.right))

  -- what was taken from its places is what was wanted
  pub places_right : (wanted : List V) (drawn : List ℕ) (places : List (Option T)) (taken : List T) → FitPlaces wanted drawn places → map (λ (a : T). Some a) taken ≡ places → map seen taken ≡ wanted
  places_right wanted drawn places taken fits are =
      same_by_places seen taken wanted (let many = fits.as_many in omega (arith, ap length are, length_map taken))
      (λ i a at. fits.right i a (ap (λ l. slice_get l i) (sym are) ∙ get_map_some taken i a at))
    where
      length_map : (xs : List T) → length (map (λ (a : T). Some a) xs) ≡ length xs
      length_map [] = refl
      length_map (x ∷ xs) = ap suc (length_map xs)
