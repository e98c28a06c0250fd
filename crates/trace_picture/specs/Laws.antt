-- What holds of every picture.
use Rattle.std.specs.Prelude.{◌≡◌, ℕ, List, Bool, true, not, ◌&&◌, ◌||◌, nat_eq, nat_le}
use Rattle.std.specs.List.{list_all}
use Rattle.trace_picture.specs.Fragments.{xml_words}

-- a byte that may stand in a text or an attribute of an XML document: printable, and none of
-- `"`, `<`, `>`
abbrev pub is_harmless : ℕ → Bool
is_harmless byte = nat_le 32 byte && nat_le byte 126
    && not (nat_eq byte 34 || nat_eq byte 60 || nat_eq byte 62)

-- whatever bytes a name or a text has, what is written of them in an SVG closes no text and opens
-- no tag
abbrev pub MarkedIsHarmless : Type 0
MarkedIsHarmless = (bytes : List ℕ) → list_all is_harmless (xml_words bytes) ≡ true
