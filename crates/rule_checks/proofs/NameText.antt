-- The bytes of a name are ASCII, so they are UTF-8.
use Rattle.std.proofs.Common.{◌≡◌, ◌<◌, ℕ, List, [], ◌∷◌, Bool, true, false, ◌&&◌, ◌||◌, All, arith, refl}
use Rattle.std.specs.Prelude.{nat_le, length, ◌-◌, ◌==◌}
use Rattle.std.specs.List.{list_all}
use Rattle.std.specs.Str.{IsUtf8}
use Rattle.std.proofs.lemmas.Bool.{and_parts, leb-true, eqb-true}
use Rattle.std.proofs.lemmas.List.Elements.{All-nil, All-cons}
use Rattle.std.proofs.lemmas.Str.{IsUtf8-from_ascii}
use Rattle.std.proofs.lemmas.Str.Ascii.{IsAscii-from_all}
use Rattle.limits.specs.Limits.{most_name_bytes}
use Rattle.dioc_terms.specs.Names.{is_letter, is_digit, is_word, is_name}

at_most : (byte top : ℕ) → nat_le byte top ≡ true → top < 128 → byte < 128
at_most byte top h k = omega (arith, leb-true byte top h, k)

is_equal : (a b : ℕ) → (a == b) ≡ true → a ≡ b
is_equal a b h = eqb-true a b h

letter_small : (byte : ℕ) → is_letter byte ≡ true → byte < 128
letter_small byte h = by (nat_le 65 byte && nat_le byte 90) refl h
  where
    by : (b : Bool) → (nat_le 65 byte && nat_le byte 90) ≡ b → (b || (nat_le 97 byte && nat_le byte 122)) ≡ true → byte < 128
    by true e k = at_most byte 90 (and_parts (nat_le 65 byte) (nat_le byte 90) e).1 (omega arith)
    by false e k = at_most byte 122 (and_parts (nat_le 97 byte) (nat_le byte 122) k).1 (omega arith)

word_small : (byte : ℕ) → is_word byte ≡ true → byte < 128
word_small byte h = by (is_letter byte) refl (is_digit byte) refl (byte == 95) refl h
  where
    by : (b : Bool) → is_letter byte ≡ b → (c : Bool) → is_digit byte ≡ c → (d : Bool) → (byte == 95) ≡ d → (b || c || d) ≡ true → byte < 128
    by true e c f d g k = letter_small byte e
    by false e true f d g k = at_most byte 57 (and_parts (nat_le 48 byte) (nat_le byte 57) f).1 (omega arith)
    by false e false f true g k = omega (arith, is_equal byte 95 g)
    by false e false f false g k = cc

words_small : (bytes : List ℕ) → list_all is_word bytes ≡ true → All (λ b. b < 128) bytes
words_small [] h = All-nil (λ b. b < 128)
words_small (byte ∷ rest) h =
    let parts = and_parts (is_word byte) (list_all is_word rest) h in
    All-cons (λ b. b < 128) byte rest (word_small byte parts.0) (words_small rest parts.1)

pub name_utf8 : (name : List ℕ) → is_name name ≡ true → IsUtf8 name
name_utf8 [] h = cc
name_utf8 (byte ∷ rest) h =
    let parts = and_parts (is_letter byte && list_all is_word rest) (nat_le (length rest) (most_name_bytes - 1)) h in
    let bytes = and_parts (is_letter byte) (list_all is_word rest) parts.0 in
    IsUtf8-from_ascii (byte ∷ rest) (IsAscii-from_all (byte ∷ rest) (All-cons (λ b. b < 128) byte rest (letter_small byte bytes.0) (words_small rest bytes.1)))
