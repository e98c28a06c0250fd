-- The operations of added messages are names.
use Rattle.std.proofs.Common.{◌≡◌, ℕ, suc, ◌+◌, ◌%◌, ◌^◌, ◌<◌, ◌≤◌, [], ◌∷◌, length, true, ◌||◌, refl, ◌∙◌, arith, decimal}
use Rattle.std.specs.List.{list_all}
use Rattle.std.proofs.lemmas.Bool.{and_from, or_left, or_right, le-leb}
use Rattle.std.proofs.lemmas.Fmt.{decimal_by_steps, length-decimal-le}
use Rattle.std.proofs.lemmas.List.Folds.{list_all-append}
use Rattle.dioc_terms.specs.Names.{is_letter, is_digit, is_word, is_name}
use Rattle.mend.specs.Names.{sq_name}

digit-is_word : (n : ℕ) → n < 10 → is_word (48 + n) ≡ true
digit-is_word n h = or_left (is_letter (48 + n) || is_digit (48 + n)) _
    (or_right (is_letter (48 + n)) (is_digit (48 + n)) (and_from _ _ (le-leb 48 (48 + n) (omega arith)) (le-leb (48 + n) 57 (omega arith))))

decimal-words : (n : ℕ) → n < 2 ^ 64 → list_all is_word (decimal n) ≡ true
decimal-words n h = decimal_by_steps (λ m ds. list_all is_word ds ≡ true)
    (λ m small. and_from (is_word (48 + m)) true (digit-is_word m small) refl)
    (λ m ds big rest. list_all-append is_word ds ((48 + m % 10) ∷ [])
    ∙ and_from (list_all is_word ds) _ rest (and_from (is_word (48 + m % 10)) true (digit-is_word (m % 10) (omega arith)) refl))
    n h

pub sq_name_is_name : (n : ℕ) → n < 2 ^ 32 → is_name (sq_name n) ≡ true
sq_name_is_name n h =
    let short : length (decimal n) ≤ 10 = length-decimal-le 10 n (omega arith) (omega arith) (omega arith) in
    and_from _ _ (decimal-words n (omega arith)) (le-leb (suc (suc (length (decimal n)))) 63 (omega (arith, short)))
