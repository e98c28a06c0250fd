-- What is left of a list in which some between its front and its back are exchanged.
use Rattle.std.proofs.Common.{◌≡◌, ◌+◌, ◌-◌, ◌<◌, ◌≤◌, ℕ, zero, suc, List, [], ◌∷◌, ◌++◌, length, take, drop, refl, ap, ap₂, ◌∙◌, sym, arith, append_assoc}
use Rattle.std.specs.List.{insert, remove}
use Rattle.std.proofs.lemmas.List.Edits.{length-remove}

pub removed_front : {X : Type 0} (xs : List X) (front : ℕ) → front < length xs → take front (remove xs front) ≡ take front xs
removed_front [] front inside = absurd (omega (arith, inside))
removed_front (x ∷ xs) zero inside = refl
removed_front (x ∷ xs) (suc front) inside = ap (λ ys. x ∷ ys) (removed_front xs front (omega (arith, inside)))

pub removed_back : {X : Type 0} (xs : List X) (front n : ℕ) → front < length xs → front ≤ n → drop n (remove xs front) ≡ drop (suc n) xs
removed_back [] front n inside past = absurd (omega (arith, inside))
removed_back (x ∷ xs) zero n inside past = refl
removed_back (x ∷ xs) (suc front) zero inside past = absurd (omega (arith, past))
removed_back (x ∷ xs) (suc front) (suc n) inside past = removed_back xs front n (omega (arith, inside)) (omega (arith, past))

pub inserted_front : {X : Type 0} (xs : List X) (place : ℕ) (x : X) → place ≤ length xs → take place (insert xs place x) ≡ take place xs
inserted_front [] zero y inside = refl
inserted_front [] (suc place) y inside = absurd (omega (arith, inside))
inserted_front (x ∷ xs) zero y inside = refl
inserted_front (x ∷ xs) (suc place) y inside = ap (λ ys. x ∷ ys) (inserted_front xs place y (omega (arith, inside)))

pub inserted_back : {X : Type 0} (xs : List X) (place : ℕ) (x : X) → place ≤ length xs → drop place (insert xs place x) ≡ x ∷ drop place xs
inserted_back [] zero y inside = refl
inserted_back [] (suc place) y inside = absurd (omega (arith, inside))
inserted_back (x ∷ xs) zero y inside = refl
inserted_back (x ∷ xs) (suc place) y inside = inserted_back xs place y (omega (arith, inside))

-- one more of those that are left stands behind the front
pub inserted_more : {X : Type 0} (xs left rest : List X) (place : ℕ) (x : X) → place ≤ length xs → left ≡ rest ++ x ∷ []
    → take place (insert xs place x) ++ (rest ++ drop place (insert xs place x)) ≡ take place xs ++ (left ++ drop place xs)
inserted_more xs left rest place x inside is =
    ap₂ (λ ys zs. ys ++ (rest ++ zs)) (inserted_front xs place x inside) (inserted_back xs place x inside)
    ∙ ap (λ ys. take place xs ++ ys) (sym (append_assoc rest (x ∷ []) (drop place xs)) ∙ ap (λ ys. ys ++ drop place xs) (sym is))

-- one less is between the front and the back
pub removed_more : {X : Type 0} (xs : List X) (front back : ℕ) → front + back < length xs
    → drop (length (remove xs front) - back) (remove xs front) ≡ drop (length xs - back) xs
removed_more xs front back inside =
    let left : length (remove xs front) + 1 ≡ length xs = length-remove xs front (omega (arith, inside)) in
    let past : front ≤ length (remove xs front) - back = omega (arith, inside, left) in
    let same : suc (length (remove xs front) - back) ≡ length xs - back = omega (arith, inside, left) in
    removed_back xs front (length (remove xs front) - back) (omega (arith, inside)) past
    ∙ ap (λ n. drop n xs) same
