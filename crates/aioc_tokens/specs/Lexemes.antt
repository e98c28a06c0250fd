-- What the grammar sees of a text: the list of its lexemes.
use Rattle.std.specs.Prelude.{◌≡◌, ℕ, ◌-◌, ◌<◌, ◌≤◌, Bool, true, false, List, [], ◌∷◌, length, drop, take, map, None, slice_range, nat_le, if◌then◌else◌, ◌==◌, IsTrue}
use Rattle.std.specs.Char.{is_ascii_digit}
use Rattle.std.specs.List.{list_all}
use Rattle.std.specs.Option.{option_map_or}
use Rattle.aioc_tokens.specs.declared.kinds.Kind.{Kind}
use Rattle.aioc_tokens.specs.declared.kinds.Kind.TheVariants as kinds
use Rattle.aioc_tokens.specs.declared.kinds.Token.{Token}
use Rattle.limits.specs.Limits.{most_name_bytes, most_text_bytes}
use Rattle.aioc_tokens.specs.declared.words.Word.{Word}
use Rattle.aioc_tokens.specs.declared.words.Punctuator.{Punctuator}
use Rattle.aioc_tokens.specs.declared.words.Sort.{Sort}
use Rattle.aioc_tokens.specs.declared.words.Sort.TheVariants as sorts
use Rattle.aioc_tokens.specs.Words.{word_of, punctuator_of}
use Rattle.aioc_tokens.specs.Tokens.{is_printable, IsNameSpelling}
use Rattle.aioc_tokens.specs.Lexing.{Lexes, bytes_of}

-- what the grammar sees of a token
pub data Lexeme : Type 0 where
  -- a name that isn't reserved
  Name : List ℕ → Lexeme
  -- a name or a text that is too long, which no rule of the grammar takes
  Long : Lexeme
  -- the digits of a number
  Number : List ℕ → Lexeme
  -- the value of a text
  Text : List ℕ → Lexeme
  -- a reserved word
  Reserved : Word → Lexeme
  -- a symbol
  Symbol : Punctuator → Lexeme

-- the bytes without the `\` that begins each pair; paired: such a `\` stands before them
abbrev pub unescaped : Bool → List ℕ → List ℕ
unescaped paired [] = []
unescaped true (byte ∷ others) = byte ∷ unescaped false others
unescaped false (byte ∷ others) =
    if byte == 92 then unescaped true others else byte ∷ unescaped false others

-- the value of a text in quotes
abbrev pub value_of : List ℕ → List ℕ
value_of bytes = unescaped false (slice_range bytes 1 (length bytes - 1))

-- the lexeme of a token's bytes (those of a symbol stand in the table)
abbrev pub lexeme : Kind → List ℕ → Lexeme
lexeme kinds.Name bytes =
    option_map_or Reserved (word_of bytes)
    (if nat_le (length bytes) most_name_bytes then Name bytes else Long)
lexeme kinds.Number bytes = Number bytes
lexeme kinds.Text bytes =
    if nat_le (length (value_of bytes)) most_text_bytes then Text (value_of bytes) else Long
lexeme kinds.Symbol bytes = option_map_or Symbol (punctuator_of bytes) Long

-- the lexemes of a text with these tokens
abbrev pub lexemes : List ℕ → List Token → List Lexeme
lexemes text tokens = map (λ token. lexeme token.kind (bytes_of text token)) tokens

-- a text has tokens, and these are their lexemes
pub record HasLexemes (text : List ℕ) (found : List Lexeme) : Type 0 where
  pub tokens : List Token
  pub lexes : Lexes 0 text tokens
  pub lexemes_are : lexemes text tokens ≡ found

-- a lexeme that can be written, and is then read again
abbrev pub HasSpelling : Lexeme → Type 0
HasSpelling (Name bytes) =
    IsNameSpelling bytes × (length bytes ≤ most_name_bytes) × (word_of bytes ≡ None)
HasSpelling Long = ⊥
HasSpelling (Number digits) = (0 < length digits) × IsTrue (list_all is_ascii_digit digits)
HasSpelling (Text value) = IsTrue (list_all is_printable value) × (length value ≤ most_text_bytes)
HasSpelling (Reserved word) = Unit {0}
HasSpelling (Symbol punctuator) = Unit {0}

-- the sort of the first lexeme
abbrev pub sort_of : List Lexeme → Sort
sort_of [] = sorts.End
sort_of (Name bytes ∷ others) = sorts.Name
sort_of (Long ∷ others) = sorts.Long
sort_of (Number digits ∷ others) = sorts.Number
sort_of (Text value ∷ others) = sorts.Text
sort_of (Reserved word ∷ others) = sorts.Reserved word
sort_of (Symbol punctuator ∷ others) = sorts.Symbol punctuator

-- the sorts of all lexemes
abbrev pub all_sorts : List Lexeme → List Sort
all_sorts list = map (λ first. sort_of (first ∷ [])) list

-- these are the sorts of the first lexemes of a list
abbrev pub AreKnown : List Sort → List Lexeme → Type 0
AreKnown known list = known ≡ take (length known) (all_sorts list)

-- the list begins with lexemes of these sorts
abbrev pub Begins : List Sort → List Lexeme → Type 0
Begins [] from = Unit {0}
Begins (first ∷ others) from = (sort_of from ≡ first) × Begins others (drop 1 from)
