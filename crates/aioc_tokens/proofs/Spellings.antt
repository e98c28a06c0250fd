-- A spelling is found in its table, and what is found has that spelling.
use Rattle.std.proofs.Common.{◌≡◌, ℕ, Bool, true, false, cond, List, [], ◌∷◌, Some, refl, subst}
use Rattle.std.specs.List.{find}
use Rattle.std.specs.Str.{bytes_eq}
use Rattle.std.proofs.lemmas.Slice.Eq.{bytes_eq-Decides}
use Rattle.aioc_tokens.specs.declared.words.Word.{Word}
use Rattle.aioc_tokens.specs.declared.words.Word.TheVariants.{Aioc, Skip}
use Rattle.aioc_tokens.specs.declared.words.Punctuator.{Punctuator}
use Rattle.aioc_tokens.specs.declared.words.Punctuator.TheVariants.{LeftBrace, RightBrace}
use Rattle.aioc_tokens.specs.Words.{word_spelling, word_of, reserved_words, punctuator_spelling, punctuator_of, punctuators}

-- what a table gives for a spelling has it
find_spelled : {Row : Type 0} (spelling : Row → List ℕ) (rows : List Row) (bytes : List ℕ) (row : Row) → find (λ other. bytes_eq bytes (spelling other)) rows ≡ Some row → bytes ≡ spelling row
find_spelled spelling [] bytes row found = absurd cc
find_spelled spelling (next ∷ rows) bytes row found = go (bytes_eq bytes (spelling next)) refl found (find_spelled spelling rows bytes row)
  where
    go : (same : Bool) → bytes_eq bytes (spelling next) ≡ same → cond same (Some next) (find (λ other. bytes_eq bytes (spelling other)) rows) ≡ Some row
        → (find (λ other. bytes_eq bytes (spelling other)) rows ≡ Some row → bytes ≡ spelling row) → bytes ≡ spelling row
    go true same is rest = let next_is : next ≡ row = cc in subst (λ found. bytes ≡ spelling found) next_is ((bytes_eq-Decides bytes (spelling next)).0 same)
    go false same is rest = rest is

-- each reserved word is found by its spelling
pub word_found : (word : Word) → word_of (word_spelling word) ≡ Some word
unfolding word_of
word_found Aioc = refl
word_found Skip = refl
word_found _ = refl

pub word_of_spelled : (bytes : List ℕ) (word : Word) → word_of bytes ≡ Some word → bytes ≡ word_spelling word
unfolding word_of
word_of_spelled bytes word found = find_spelled word_spelling reserved_words bytes word found

-- each symbol is found by its spelling
pub punctuator_found : (punctuator : Punctuator) → punctuator_of (punctuator_spelling punctuator) ≡ Some punctuator
unfolding punctuator_of
punctuator_found LeftBrace = refl
punctuator_found RightBrace = refl
punctuator_found _ = refl

pub punctuator_of_spelled : (bytes : List ℕ) (punctuator : Punctuator) → punctuator_of bytes ≡ Some punctuator → bytes ≡ punctuator_spelling punctuator
unfolding punctuator_of
punctuator_of_spelled bytes punctuator found = find_spelled punctuator_spelling punctuators bytes punctuator found
