-- The picture of a trace as a Mermaid sequence diagram.
use Rattle.std.specs.Prelude.{ℕ, ◌-◌, List, [], ◌∷◌, ◌++◌, Bool, ◌||◌, length, Option, Some, None, codes, decimal, nat_eq, nat_le, if◌then◌else◌, flat_map}
use Rattle.dioc_terms.specs.declared.names.Role.{Role}
use Rattle.dioc_terms.specs.declared.entries.Entry.{Entry}
use Rattle.dioc_terms.specs.declared.bundles.Last.{Last}
use Rattle.dioc_terms.specs.Names.{is_word}
use Rattle.trace_picture.specs.declared.shapes.Shape.{Shape}
use Rattle.trace_picture.specs.declared.shapes.Shape.TheVariants as shape
use Rattle.trace_picture.specs.Labels.{label, ended_text}
use Rattle.trace_picture.specs.Runs.{shortened, pieces_from}
use Rattle.trace_picture.specs.Shapes.{shape_of}

-- the bytes that stand as they are: those of names, a space, a dot, a `=`; any other is written by
-- its number
abbrev pub is_quiet : ℕ → Bool
is_quiet byte = is_word byte || nat_eq byte 32 || nat_eq byte 46 || nat_eq byte 61

unfoldable pub mermaid_byte : ℕ → List ℕ
mermaid_byte byte =
    if is_quiet byte then byte ∷ [] else codes "#" ++ decimal byte ++ codes ";"

abbrev pub mermaid_words : List ℕ → List ℕ
mermaid_words bytes = flat_map mermaid_byte bytes

-- a lane, by its number and the role's name
unfoldable pub participant : ℕ → Role → List ℕ
participant lane r = codes "    participant r" ++ decimal lane ++ codes " as "
    ++ mermaid_words r.0 ++ codes "\n"

-- a trace that names no role has one lane all the same, for its changes
unfoldable pub participants : List Role → List ℕ
participants [] = codes "    participant r0 as nobody\n"
participants (first ∷ others) = pieces_from participant 0 (first ∷ others)

-- across all lanes
unfoldable pub across : ℕ → List ℕ
across lanes = if nat_le lanes 1 then codes "    Note over r0: "
    else codes "    Note over r0,r" ++ decimal (lanes - 1) ++ codes ": "

-- what stands before the label of an entry
unfoldable pub arrow_front : ℕ → ℕ → List ℕ
arrow_front from to =
    codes "    r" ++ decimal from ++ codes "-)r" ++ decimal to ++ codes ": "

unfoldable pub over_front : ℕ → List ℕ
over_front lane = codes "    Note over r" ++ decimal lane ++ codes ": "

unfoldable pub mermaid_front : ℕ → Shape → List ℕ
mermaid_front lanes (shape.Arrow from to) = arrow_front from to
mermaid_front lanes (shape.Mark s at) = over_front at
mermaid_front lanes shape.Band = across lanes

-- as many bytes of a label are shown
abbrev pub most_mermaid : ℕ
most_mermaid = 48

unfoldable pub mermaid_entry : List Role → Entry → List ℕ
mermaid_entry lanes e = mermaid_front (length lanes) (shape_of lanes e)
    ++ mermaid_words (shortened most_mermaid (label e)) ++ codes "\n"

unfoldable pub mermaid_last : List Role → Option Last → List ℕ
mermaid_last lanes None = []
mermaid_last lanes (Some end) = across (length lanes) ++ ended_text end

unfoldable pub title_text : List ℕ
title_text = codes "sequenceDiagram\n"

unfoldable pub mermaid_head : List Role → List ℕ
mermaid_head lanes = title_text ++ participants lanes

abbrev pub mermaid_picture : List Role → List Entry → Option Last → List ℕ
mermaid_picture lanes entries end =
    mermaid_head lanes ++ flat_map (mermaid_entry lanes) entries ++ mermaid_last lanes end
