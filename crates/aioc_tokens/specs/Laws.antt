-- What holds of every text.
use Rattle.std.specs.Prelude.{◌≡◌, ◌≢◌, ◌↔◌, ◌⊎◌, ℕ, ◌≤◌, List, [], ◌∷◌, length, Some, None}
use Rattle.std.specs.List.{All, AllByRecursion}
use Rattle.aioc_tokens.specs.declared.kinds.Token.{Token}
use Rattle.limits.specs.Limits.{most_name_bytes}
use Rattle.aioc_tokens.specs.declared.words.Word.{Word}
use Rattle.aioc_tokens.specs.declared.words.Punctuator.{Punctuator}
use Rattle.aioc_tokens.specs.Words.{word_spelling, word_of, punctuator_spelling, punctuator_of}
use Rattle.aioc_tokens.specs.Tokens.{IsNameSpelling}
use Rattle.aioc_tokens.specs.Lexing.{Lexes, Breaks, InOrder, IsLongestAt}
use Rattle.aioc_tokens.specs.Lexemes.{Lexeme, Name, Long, HasLexemes, HasSpelling}
use Rattle.aioc_tokens.specs.Spelling.{spelled}

-- a text has tokens, or a byte of it is in none
abbrev pub EveryText : Type 0
EveryText =
    (text : List ℕ) → ((tokens : List Token) × Lexes 0 text tokens)
    ⊎ ((bad : ℕ) × Breaks 0 text bad)

-- but never both
abbrev pub TokensOrBadByte : Type 0
TokensOrBadByte =
    (text : List ℕ) (tokens : List Token) (bad : ℕ) → Lexes 0 text tokens → Breaks 0 text bad → ⊥

-- it has one list of tokens
abbrev pub OneLexing : Type 0
OneLexing =
    (text : List ℕ) (tokens others : List Token) → Lexes 0 text tokens → Lexes 0 text others
    → tokens ≡ others

-- or one first byte that is in none
abbrev pub OneBadByte : Type 0
OneBadByte = (text : List ℕ) (bad other : ℕ) → Breaks 0 text bad → Breaks 0 text other → bad ≡ other

-- the tokens stand in order and don't overlap
abbrev pub TokensInOrder : Type 0
TokensInOrder =
    (text : List ℕ) (tokens : List Token) → Lexes 0 text tokens → InOrder 0 (length text) tokens

-- the bytes of each are a token, and no longer front of what is left at its place is one, nor does
-- a comment begin there
abbrev pub EachIsLongest : Type 0
EachIsLongest =
    (text : List ℕ) (tokens : List Token) → Lexes 0 text tokens → All (IsLongestAt text) tokens

-- the lexemes of a text are one list
abbrev pub OneReading : Type 0
OneReading =
    (text : List ℕ) (found others : List Lexeme) → HasLexemes text found → HasLexemes text others
    → found ≡ others

-- a lexeme of a text can be written, unless it is too long
abbrev pub ReadHasSpelling : Type 0
ReadHasSpelling =
    (text : List ℕ) (found : List Lexeme) → HasLexemes text found
    → All (λ lexeme. lexeme ≢ Long → HasSpelling lexeme) found

-- lexemes that are written with one space between two are read again
abbrev pub SpelledIsRead : Type 0
SpelledIsRead =
    (written : List Lexeme) → AllByRecursion HasSpelling written
    → HasLexemes (spelled written) written

-- each reserved word and each symbol is found by its spelling, and by no other
abbrev pub WordsAreSpelled : Type 0
WordsAreSpelled =
    (bytes : List ℕ) (word : Word) → (word_of bytes ≡ Some word) ↔ (bytes ≡ word_spelling word)

abbrev pub PunctuatorsAreSpelled : Type 0
PunctuatorsAreSpelled =
    (bytes : List ℕ) (punctuator : Punctuator) → (punctuator_of bytes ≡ Some punctuator) ↔
    (bytes ≡ punctuator_spelling punctuator)

-- the text of a name is read as that name exactly where it isn't a reserved word
abbrev pub NamesAreRead : Type 0
NamesAreRead =
    (bytes : List ℕ) → IsNameSpelling bytes → length bytes ≤ most_name_bytes
    → HasLexemes bytes (Name bytes ∷ []) ↔ (word_of bytes ≡ None)
