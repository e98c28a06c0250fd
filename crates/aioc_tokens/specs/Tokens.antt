-- What is one token of a text, and what stands between two tokens.
use Rattle.std.specs.Prelude.{◌≡◌, ℕ, ◌<◌, ◌≤◌, Bool, not, ◌||◌, List, [], ◌∷◌, ◌++◌, length, take, if◌then◌else◌, ◌==◌, IsTrue}
use Rattle.std.specs.Char.{is_ascii_alphabetic, is_ascii_alphanumeric, is_ascii_digit}
use Rattle.std.specs.Int.{is_in_range}
use Rattle.std.specs.List.{flat_map, list_all, prefix_len}
use lib.Chars.{codes}
use Rattle.aioc_tokens.specs.declared.kinds.Kind.{Kind}
use Rattle.aioc_tokens.specs.declared.kinds.Kind.TheVariants.{Name, Number, Text, Symbol}
use Rattle.aioc_tokens.specs.declared.words.Punctuator.{Punctuator}
use Rattle.aioc_tokens.specs.Words.{punctuator_spelling}

-- a space, a tab, a line feed or a carriage return
abbrev pub is_space : ℕ → Bool
is_space byte = byte == 32 || byte == 9 || byte == 10 || byte == 13

-- a letter, a digit or `_`
abbrev pub is_name_byte : ℕ → Bool
is_name_byte byte = is_ascii_alphanumeric byte || byte == 95

-- a byte that a text may have
abbrev pub is_printable : ℕ → Bool
is_printable byte = is_in_range 0x20 0x7e byte

-- `"` or `\`
abbrev pub needs_pair : ℕ → Bool
needs_pair byte = byte == 34 || byte == 92

-- `"` and `\` stand in a text behind a `\`
abbrev pub escaped : ℕ → List ℕ
escaped byte = if needs_pair byte then 92 ∷ byte ∷ [] else byte ∷ []

-- a text's value in quotes
abbrev pub quoted : List ℕ → List ℕ
quoted value = 34 ∷ flat_map escaped value ++ 34 ∷ []

-- a letter, and then letters, digits and `_`
abbrev pub IsNameSpelling : List ℕ → Type 0
IsNameSpelling [] = ⊥
IsNameSpelling (first ∷ others) =
    IsTrue (is_ascii_alphabetic first) × IsTrue (list_all is_name_byte others)

-- these bytes are one token of this kind
abbrev pub Spells : Kind → List ℕ → Type 0
Spells Name bytes = IsNameSpelling bytes
Spells Number bytes = (0 < length bytes) × IsTrue (list_all is_ascii_digit bytes)
Spells Text bytes = (value : List ℕ) × IsTrue (list_all is_printable value) × (bytes ≡ quoted value)
Spells Symbol bytes = (punctuator : Punctuator) × (bytes ≡ punctuator_spelling punctuator)

-- the first bytes of a text, as many as this, are a token of this kind
pub record IsFront (text : List ℕ) (kind : Kind) (count : ℕ) : Type 0 where
  pub within : count ≤ length text
  pub spells : Spells kind (take count text)

-- a comment begins here
abbrev pub BeginsComment : List ℕ → Type 0
BeginsComment text = take 2 text ≡ codes "//"

-- how many bytes stand before the next line feed, or before the end
abbrev pub line_length : List ℕ → ℕ
line_length text = prefix_len (λ byte. not (byte == 10)) text

-- the first bytes of a text, as many as this, are a space, or a comment up to the end of its line
pub data IsBlank : List ℕ → ℕ → Type 0 where
  space : {byte : ℕ} {others : List ℕ} → IsTrue (is_space byte) → IsBlank (byte ∷ others) 1
  comment : {text : List ℕ} {count : ℕ} → BeginsComment text → count ≡ line_length text
      → IsBlank text count

-- the longest token at the front of a text where no comment begins
pub record IsLongestToken (text : List ℕ) (kind : Kind) (count : ℕ) : Type 0 where
  pub front : IsFront text kind count
  pub longest : (other : Kind) (more : ℕ) → IsFront text other more → more ≤ count
  pub no_comment : ¬ BeginsComment text
