-- A text has a first character.
use Rattle.std.proofs.Common.{◌≡◌, ℕ, ◌<◌, List, [], ◌∷◌, Some, refl, arith, true, ◌==◌}
use Rattle.std.specs.Prelude.{slice_get, encode_utf8_all}
use Rattle.std.specs.Str.{IsUtf8, chars}
use Rattle.std.proofs.lemmas.Str.{IsUtf8-drop, IsCharBoundary-after_ascii, encodes-chars}
use Rattle.std.proofs.lemmas.Bool.Decides.{Decides-eqb}

-- behind a hyphen
after_byte : (first : ℕ) (text : List ℕ) → first < 128 → IsUtf8 (first ∷ text) → IsUtf8 text
after_byte first text ascii utf8 =
    IsUtf8-drop (first ∷ text) 1 utf8 (IsCharBoundary-after_ascii (first ∷ text) 0 utf8 (omega arith) ascii)

first_char : (byte : ℕ) (bytes cs : List ℕ) → encode_utf8_all cs ≡ byte ∷ bytes → (char : ℕ) × (slice_get cs 0 ≡ Some char)
first_char byte bytes [] e = cc
first_char byte bytes (char ∷ cs) e = (char, refl)

pub has_char : (hyphen byte : ℕ) (bytes : List ℕ) → (hyphen == 45) ≡ true → IsUtf8 (hyphen ∷ byte ∷ bytes)
    → (char : ℕ) × (slice_get (chars (byte ∷ bytes)) 0 ≡ Some char)
has_char hyphen byte bytes is utf8 =
    let same : hyphen ≡ 45 = (Decides-eqb hyphen 45).0 is in
    let text = after_byte hyphen (byte ∷ bytes) (omega arith) utf8 in
    first_char byte bytes (chars (byte ∷ bytes)) (encodes-chars (byte ∷ bytes) text)
