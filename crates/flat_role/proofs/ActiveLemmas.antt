-- Places that come in the place of one.
use Rattle.std.proofs.Common.{◌≡◌, ◌<◌, ◌+◌, ℕ, List, [], ◌∷◌, ◌++◌, get_or, length, take, drop, set, sym, ap, ap₂, ◌∙◌, arith}
use Rattle.std.proofs.lemmas.Grind.{take_at_read}
use Rattle.std.proofs.lemmas.List.{append_assoc, drop-set-lt, drop_at, length-append, length-take-le, take-append-drop, take_at, take_more_set}

-- the first
pub first_put : (old news : List ℕ) (at : ℕ) → at < length old → 0 < length news
    → set old at (get_or news 0 0) ≡ take at old ++ (take 1 news ++ drop (at + 1) old)
first_put old news at inside some =
    let x = get_or news 0 0 in
    sym (take-append-drop (at + 1) (set old at x))
    ∙ ap₂ (λ xs ys. xs ++ ys) (take_more_set old at x inside) (drop-set-lt (at + 1) old at x (omega arith))
    ∙ append_assoc (take at old) (x ∷ []) (drop (at + 1) old)
    ∙ ap (λ xs. take at old ++ (xs ++ drop (at + 1) old)) (sym (take_at_read news 0 0 some).1)

-- one more
pub one_more_put : (old news mid new : List ℕ) (at i : ℕ) → at < length old → i < length news
    → mid ≡ take at old ++ (take i news ++ drop (at + 1) old)
    → new ≡ take (at + i) mid ++ (get_or news i 0 ∷ drop (at + i) mid)
    → new ≡ take at old ++ (take (i + 1) news ++ drop (at + 1) old)
one_more_put old news mid new at i inside more before put =
    let A = take at old in
    let B = take i news in
    let C = drop (at + 1) old in
    let x = get_or news i 0 in
    let front : mid ≡ (A ++ B) ++ C = before ∙ sym (append_assoc A B C) in
    let long : length (A ++ B) ≡ at + i = length-append A B ∙ ap₂ (λ m n. m + n) (length-take-le at old (omega (arith, inside))) (length-take-le i news (omega (arith, more))) in
    put
    ∙ ap₂ (λ xs ys. xs ++ (x ∷ ys)) (ap (take (at + i)) front ∙ take_at (A ++ B) C (at + i) long) (ap (drop (at + i)) front ∙ drop_at (A ++ B) C (at + i) long)
    ∙ append_assoc A B (x ∷ C)
    ∙ ap (λ xs. A ++ xs) (sym (append_assoc B (x ∷ []) C))
    ∙ ap (λ xs. A ++ (xs ++ C)) (sym (take_at_read news i 0 more).1)
