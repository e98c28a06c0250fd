-- What the bytes of a name and of a text may be, and which words are no names in a bundle's text.
use Rattle.std.specs.Prelude.{ℕ, ◌-◌, List, [], ◌∷◌, Bool, false, ◌&&◌, ◌||◌, ◌==◌, nat_le, IsTrue, length, codes}
use Rattle.std.specs.List.{list_all, list_any}
use Rattle.std.specs.Str.{bytes_eq}
use Rattle.limits.specs.Limits.{most_name_bytes, most_text_bytes}

abbrev pub is_letter : ℕ → Bool
is_letter byte = (nat_le 65 byte && nat_le byte 90) || (nat_le 97 byte && nat_le byte 122)

abbrev pub is_digit : ℕ → Bool
is_digit byte = nat_le 48 byte && nat_le byte 57

-- a letter, a digit or `_`
abbrev pub is_word : ℕ → Bool
is_word byte = is_letter byte || is_digit byte || byte == 95

-- a letter, and then at most 63 letters, digits or `_`
abbrev pub is_name : List ℕ → Bool
is_name [] = false
is_name (byte ∷ rest) =
    is_letter byte && list_all is_word rest && nat_le (length rest) (most_name_bytes - 1)

abbrev pub IsName : List ℕ → Type 0
IsName bytes = IsTrue (is_name bytes)

-- a byte from 0x20 to 0x7E
abbrev pub is_printable : ℕ → Bool
is_printable byte = nat_le 32 byte && nat_le byte 126

-- at most 1,024 printable bytes
abbrev pub is_text : List ℕ → Bool
is_text bytes = nat_le (length bytes) most_text_bytes && list_all is_printable bytes

abbrev pub IsText : List ℕ → Type 0
IsText bytes = IsTrue (is_text bytes)

-- the words of the grammar that are no names there
unfoldable pub reserved_words : List (List ℕ)
reserved_words =
    codes "aioc" ∷ codes "skip" ∷ codes "if" ∷ codes "else" ∷ codes "while" ∷ codes "scope"
    ∷ codes "prop" ∷ codes "rule" ∷ codes "on" ∷
    codes "do" ∷ codes "true" ∷ codes "false" ∷ codes "nil" ∷ codes "and" ∷ codes "or" ∷ codes "not"
    ∷ codes "input" ∷ codes "N" ∷ codes "E" ∷ []

unfoldable pub is_reserved : List ℕ → Bool
is_reserved word = list_any (bytes_eq word) reserved_words
