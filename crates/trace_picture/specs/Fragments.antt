-- Texts made of fragments.
use Rattle.std.specs.Prelude.{ℕ, List, [], ◌∷◌, ◌++◌, ◌&&◌, codes, decimal, nat_eq, nat_le, if◌then◌else◌, flat_map}
use Rattle.trace_picture.specs.declared.fragments.Fragment.{Fragment}
use Rattle.trace_picture.specs.declared.fragments.Fragment.TheVariants as fragment

-- a byte as it stands in a text of an XML document; one that isn't printable is a `?`
unfoldable pub xml_byte : ℕ → List ℕ
xml_byte byte = if nat_eq byte 34 then codes "&quot;"
    else (if nat_eq byte 38 then codes "&amp;"
    else (if nat_eq byte 60 then codes "&lt;"
    else (if nat_eq byte 62 then codes "&gt;"
    else (if nat_le 32 byte && nat_le byte 126 then byte ∷ [] else codes "?"))))

abbrev pub xml_words : List ℕ → List ℕ
xml_words bytes = flat_map xml_byte bytes

-- an attribute of a tag that is a number
abbrev pub attribute : List ℕ → ℕ → List ℕ
attribute name n = codes " " ++ name ++ codes "=\"" ++ decimal n ++ codes "\""

abbrev pub fragment_text : Fragment → List ℕ
fragment_text (fragment.Plain bytes) = bytes.now
fragment_text (fragment.Number n) = decimal n
fragment_text (fragment.Attribute name n) = attribute name.now n
fragment_text (fragment.Marked bytes) = xml_words bytes.now
