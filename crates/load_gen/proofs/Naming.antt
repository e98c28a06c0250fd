-- The names of a made bundle are names.
use Rattle.std.proofs.Common.{◌≡◌, ℕ, ◌+◌, ◌%◌, ◌^◌, ◌<◌, ◌≤◌, List, [], ◌∷◌, ◌++◌, length, true, ◌&&◌, ◌||◌, refl, ◌∙◌, arith, decimal, length-append}
use Rattle.std.specs.List.{list_all}
use Rattle.std.proofs.lemmas.Bool.{and_from, and_parts, or_left, or_right, le-leb}
use Rattle.std.proofs.lemmas.Fmt.{decimal_by_steps, length-decimal-le}
use Rattle.std.proofs.lemmas.List.Folds.{list_all-append}
use Rattle.dioc_terms.specs.Names.{is_letter, is_digit, is_word, is_name}
use Rattle.load_gen.specs.Pieces.{numbered_name, with_digit}

digit-is_word : (n : ℕ) → n < 10 → is_word (48 + n) ≡ true
digit-is_word n h =
    or_left (is_letter (48 + n) || is_digit (48 + n)) _
    (or_right (is_letter (48 + n)) (is_digit (48 + n))
    (and_from _ _ (le-leb 48 (48 + n) (omega arith)) (le-leb (48 + n) 57 (omega arith))))

decimal-words : (n : ℕ) → n < 2 ^ 64 → list_all is_word (decimal n) ≡ true
decimal-words n h = decimal_by_steps (λ m ds. list_all is_word ds ≡ true)
    (λ m small. and_from (is_word (48 + m)) true (digit-is_word m small) refl)
    (λ m ds big rest. list_all-append is_word ds ((48 + m % 10) ∷ [])
    ∙ and_from (list_all is_word ds) _ rest
    (and_from (is_word (48 + m % 10)) true (digit-is_word (m % 10) (omega arith)) refl))
    n h

-- a short name, and a number after it
pub numbered_is_name : (letters : List ℕ) (n : ℕ) → is_name letters ≡ true → length letters ≤ 10
    → n < 2 ^ 32 → is_name (numbered_name letters n) ≡ true
numbered_is_name [] n named short small = cc
numbered_is_name (byte ∷ rest) n named short small =
    let digits : length (decimal n) ≤ 10 =
    length-decimal-le 10 n (omega arith) (omega arith) (omega arith) in
    let both : length (rest ++ decimal n) ≡ length rest + length (decimal n) =
    length-append rest (decimal n) in
    let front = and_parts (is_letter byte) (list_all is_word rest)
    (and_parts (is_letter byte && list_all is_word rest) _ named).0 in
    and_from _ _
    (and_from _ _ front.0
    (list_all-append is_word rest (decimal n)
    ∙ and_from _ _ front.1 (decimal-words n (omega arith))))
    (le-leb (length (rest ++ decimal n)) 63 (omega arith))

-- a short name, and a digit after it
pub with_digit_is_name : (letters : List ℕ) (j : ℕ) → is_name letters ≡ true
    → length letters ≤ 10 → j < 10 → is_name (with_digit letters j) ≡ true
with_digit_is_name [] j named short small = cc
with_digit_is_name (byte ∷ rest) j named short small =
    let both : length (rest ++ (48 + j) ∷ []) ≡ length rest + 1 =
    length-append rest ((48 + j) ∷ []) in
    let front = and_parts (is_letter byte) (list_all is_word rest)
    (and_parts (is_letter byte && list_all is_word rest) _ named).0 in
    and_from _ _
    (and_from _ _ front.0
    (list_all-append is_word rest ((48 + j) ∷ [])
    ∙ and_from _ _ front.1 (and_from (is_word (48 + j)) true (digit-is_word j small) refl)))
    (le-leb (length (rest ++ (48 + j) ∷ [])) 63 (omega arith))
