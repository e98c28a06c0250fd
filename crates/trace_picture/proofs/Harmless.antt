-- What an SVG has of any bytes closes no text and opens no tag.
use Rattle.std.proofs.Common.{◌≡◌, ℕ, Bool, true, false, ◌&&◌, List, [], ◌∷◌, ◌++◌, nat_eq, nat_le, if◌then◌else◌, refl, arith}
use Rattle.std.specs.List.{list_all}
use Rattle.std.proofs.lemmas.Bool.Decides.{nat_tests}
use Rattle.trace_picture.specs.Fragments.{xml_byte, xml_words}
use Rattle.trace_picture.specs.Laws.{is_harmless, MarkedIsHarmless}

-- a choice is harmless where both ways are
choice_harmless : (test : Bool) (first second : List ℕ) → (test ≡ true → list_all is_harmless first ≡ true) → (test ≡ false → list_all is_harmless second ≡ true) → list_all is_harmless (if test then first else second) ≡ true
choice_harmless true first second holds fails = holds refl
choice_harmless false first second holds fails = fails refl

both_hold : (a b : Bool) → a ≡ true → b ≡ true → (a && b) ≡ true
both_hold true b is also = also
both_hold false b is also = absurd cc

parts_hold : (a b : Bool) → (a && b) ≡ true → (a ≡ true) × (b ≡ true)
parts_hold true b is = (refl, is)
parts_hold false b is = absurd cc

printable : (byte : ℕ) → (nat_le 32 byte && nat_le byte 126) ≡ true → nat_eq byte 34 ≡ false → nat_eq byte 60 ≡ false → nat_eq byte 62 ≡ false → is_harmless byte ≡ true
printable byte is quote less more = grind (arith, nat_tests)

byte_harmless : (byte : ℕ) → list_all is_harmless (xml_byte byte) ≡ true
unfolding xml_byte
byte_harmless byte =
    choice_harmless (nat_eq byte 34) _ _ (λ is. refl) (λ quote.
    choice_harmless (nat_eq byte 38) _ _ (λ is. refl) (λ ampersand.
    choice_harmless (nat_eq byte 60) _ _ (λ is. refl) (λ less.
    choice_harmless (nat_eq byte 62) _ _ (λ is. refl) (λ more.
    choice_harmless (nat_le 32 byte && nat_le byte 126) _ _ (λ is. both_hold (is_harmless byte) true (printable byte is quote less more) refl) (λ is. refl)))))

all_append : (front back : List ℕ) → list_all is_harmless front ≡ true → list_all is_harmless back ≡ true → list_all is_harmless (front ++ back) ≡ true
all_append [] back is also = also
all_append (byte ∷ front) back is also =
    let (first, rest) = parts_hold (is_harmless byte) (list_all is_harmless front) is in
    both_hold (is_harmless byte) (list_all is_harmless (front ++ back)) first (all_append front back rest also)

pub words_harmless : MarkedIsHarmless
words_harmless [] = refl
words_harmless (byte ∷ bytes) = all_append (xml_byte byte) (xml_words bytes) (byte_harmless byte) (words_harmless bytes)
