-- The picture of a trace as an SVG that stands alone. Lengths are in pixels.
use Rattle.std.specs.Prelude.{ℕ, Bool, false, ◌+◌, ◌-◌, ◌*◌, List, [], ◌∷◌, ◌++◌, length, min, max, Option, Some, None, codes, decimal, nat_le, nat_lt, if◌then◌else◌}
use Rattle.std.specs.List.{fold}
use Rattle.dioc_terms.specs.declared.names.Role.{Role}
use Rattle.dioc_terms.specs.declared.entries.Entry.{Entry}
use Rattle.dioc_terms.specs.declared.bundles.Last.{Last}
use Rattle.dioc_terms.specs.Messages.{is_aux}
use Rattle.trace_text.specs.Lines.{line, last_line}
use Rattle.trace_picture.specs.declared.shapes.Sign.{Sign}
use Rattle.trace_picture.specs.declared.shapes.Sign.TheVariants as sign
use Rattle.trace_picture.specs.declared.shapes.Shape.{Shape}
use Rattle.trace_picture.specs.declared.shapes.Shape.TheVariants as shape
use Rattle.trace_picture.specs.Arrivals.{arrival}
use Rattle.trace_picture.specs.Fragments.{attribute, xml_words}
use Rattle.trace_picture.specs.Labels.{label}
use Rattle.trace_picture.specs.Lanes.{longest_name}
use Rattle.trace_picture.specs.Runs.{shortened, pieces_from, end_to_end}
use Rattle.trace_picture.specs.Shapes.{shape_of}

-- how many bytes of a label may stand between two lanes: as many as the longest has, within bounds
abbrev pub most_columns : List Role → ℕ
most_columns lanes = if nat_le (length lanes) 4 then 34
    else (if nat_le (length lanes) 8 then 28 else 20)

abbrev pub longest_label : ℕ → List Entry → ℕ
longest_label least entries = fold (λ most e. max most (length (label e))) least entries

abbrev pub columns_of : List Role → List Entry → ℕ
columns_of lanes entries =
    max 10 (min (most_columns lanes) (longest_label (longest_name 0 lanes) entries))

-- half of what is between two lanes, and where a lane stands
abbrev pub half_gap : ℕ → ℕ
half_gap columns = 4 * columns + 12

abbrev pub lane_x : ℕ → ℕ → ℕ
lane_x columns lane = half_gap columns * (lane + lane + 2)

-- where an arrow to a lane ends that doesn't arrive: half a gap before it
abbrev pub before_x : ℕ → ℕ → ℕ → ℕ
before_x columns from to =
    half_gap columns * (if nat_lt from to then to + to + 1 else to + to + 3)

-- how wide the picture is
abbrev pub width : ℕ → List Role → ℕ
width columns lanes = half_gap columns * (max 1 (length lanes) + max 1 (length lanes) + 2)

-- where the row of an entry stands
abbrev pub row_y : ℕ → ℕ
row_y row = 30 * row + 70

abbrev pub sign_class : Sign → List ℕ
sign_class (sign.Take back) = codes "take"
sign_class sign.Set = codes "set"
sign_class sign.Input = codes "input"
sign_class sign.Pick = codes "pick"
sign_class sign.Keep = codes "keep"
sign_class sign.Replace = codes "replace"
sign_class sign.Own = codes "put"

abbrev pub shape_class : Shape → List ℕ
shape_class (shape.Arrow from to) = codes "put"
shape_class (shape.Mark s at) = sign_class s
shape_class shape.Band = codes "change"

abbrev pub entry_class : Shape → Entry → List ℕ
entry_class s e = if is_aux e then codes "aux" else shape_class s

-- a circle around a place, and a rectangle below and beside a place
unfoldable pub circle : List ℕ → ℕ → ℕ → List ℕ
circle tag x y =
    end_to_end (tag ∷ attribute (codes "cx") x ∷ attribute (codes "cy") y ∷
    codes " r=\"4\"/>" ∷ [])

unfoldable pub rectangle : ℕ → ℕ → ℕ → ℕ → List ℕ
rectangle x y wide high =
    end_to_end (codes "<rect" ∷ attribute (codes "x") x ∷ attribute (codes "y") y ∷
    attribute (codes "width") wide ∷ attribute (codes "height") high ∷ codes "/>" ∷ [])

-- a sign on a lane: a dot, and of a scope the paper of a note
abbrev pub dot : ℕ → ℕ → List ℕ
dot x y = circle (codes "<circle") x y

abbrev pub paper : ℕ → ℕ → ℕ → List ℕ
paper x y wide = rectangle x (y - 11) wide 22

unfoldable pub sign_mark : Sign → ℕ → ℕ → ℕ → List ℕ
sign_mark sign.Keep x y wide = paper x y wide
sign_mark sign.Replace x y wide = paper x y wide
sign_mark _ x y wide = dot x y

-- a line from one place to another, whose tag goes on: with a tip, or with an open circle at its
-- end
unfoldable pub line_between : List ℕ → ℕ → ℕ → ℕ → ℕ → List ℕ
line_between tag start top end low =
    end_to_end (tag ∷ attribute (codes "x1") start ∷ attribute (codes "y1") top ∷
    attribute (codes "x2") end ∷ attribute (codes "y2") low ∷ [])

unfoldable pub arrow_line : ℕ → ℕ → ℕ → ℕ → List ℕ
arrow_line start top end low =
    line_between (codes "<line") start top end low ++ codes " marker-end=\"url(#tip)\"/>"

unfoldable pub open_line : ℕ → ℕ → ℕ → ℕ → List ℕ
open_line start top end low = line_between (codes "<line") start top end low
    ++ (codes "/>" ++ circle (codes "<circle class=\"open\"") end low)

-- a message: from its sender in the row of its put to its receiver in the row where it arrives;
-- one that is never taken ends before its receiver, a little below the row of its put
unfoldable pub message_line : ℕ → ℕ → ℕ → ℕ → Option ℕ → List ℕ
message_line columns from to row (Some arrives) =
    arrow_line (lane_x columns from) (row_y row) (lane_x columns to) (row_y arrives)
message_line columns from to row None =
    open_line (lane_x columns from) (row_y row) (before_x columns from to) (row_y row + 9)

-- words at a place; and words on one side of a lane, on its left where `back` says so
unfoldable pub words_in : List ℕ → ℕ → ℕ → List ℕ → List ℕ
words_in tag x y bytes =
    end_to_end (tag ∷ attribute (codes "x") x ∷ attribute (codes "y") y ∷ codes ">" ∷
    xml_words bytes ∷ codes "</text>" ∷ [])

abbrev pub words : ℕ → ℕ → List ℕ → List ℕ
words x y bytes = words_in (codes "<text") x y bytes

unfoldable pub words_beside : Bool → ℕ → ℕ → List ℕ → List ℕ
words_beside back x y said = if back then words_in (codes "<text class=\"back\"") (x - 9) y said
    else words (x + 9) y said

-- whether the label of a sign stands on its left: of a take whose message came from the right
abbrev pub stands_back : Sign → Bool
stands_back (sign.Take back) = back
stands_back _ = false

-- the shape of an entry in a row with its label; the label of a put stands along the beginning of
-- its arrow
unfoldable pub drawing : ℕ → List Role → ℕ → Option ℕ → Shape → List ℕ → List ℕ
drawing columns lanes row arrives (shape.Arrow from to) said =
    words_beside (nat_lt to from) (lane_x columns from) (row_y row - 5) said
    ++ message_line columns from to row arrives
drawing columns lanes row arrives (shape.Mark s at) said =
    sign_mark s (lane_x columns at) (row_y row) (8 * columns + 14)
    ++ words_beside (stands_back s) (lane_x columns at) (row_y row + 4) said
drawing columns lanes row arrives shape.Band said =
    paper 0 (row_y row) (width columns lanes) ++ words 12 (row_y row + 4) said

-- the front of a group of this class, with a title that a reader may see
unfoldable pub group_front : List ℕ → List ℕ → List ℕ
group_front class title =
    end_to_end (codes "<g class=\"" ∷ class ∷ codes "\"><title>" ∷ xml_words title ∷
    codes "</title>" ∷ [])

-- an entry: its class, its whole line as a title, and its shape with the label
unfoldable pub svg_entry : ℕ → List Role → ℕ → Option ℕ → Entry → List ℕ
svg_entry columns lanes row arrives e = group_front (entry_class (shape_of lanes e) e) (line e)
    ++ drawing columns lanes row arrives (shape_of lanes e) (shortened columns (label e))
    ++ codes "</g>\n"

-- the entries in their order, so that an arrow lies under all that stands below its beginning
abbrev pub svg_entries : ℕ → List Role → List Entry → List ℕ
svg_entries columns lanes entries =
    pieces_from (λ row e. svg_entry columns lanes row (arrival entries row e) e) 0 entries

-- the box with a role's name
unfoldable pub name_box : ℕ → ℕ → ℕ → Role → List ℕ
name_box columns y lane r = group_front (codes "role") r.0
    ++ rectangle (half_gap columns * (lane + lane + 1) + 8) y (8 * columns + 8) 26
    ++ words (lane_x columns lane) (y + 17) (shortened columns r.0) ++ codes "</g>\n"

-- the line of a lane, and its box at the top
unfoldable pub lane_line : ℕ → ℕ → List ℕ
lane_line x floor =
    line_between (codes "<line class=\"lane\"") x 38 x floor ++ codes "/>\n"

unfoldable pub svg_lane : ℕ → ℕ → ℕ → Role → List ℕ
svg_lane columns floor lane r =
    lane_line (lane_x columns lane) floor ++ name_box columns 12 lane r

-- the colours, and those for where a person's device prefers a dark ground
unfoldable pub style_text : List ℕ
style_text = codes "<style>text{font:12px monospace;fill:#222}.back{text-anchor:end}"
    ++ codes ".ground{fill:#fff}.lane{stroke:#b8b8b8;stroke-dasharray:5 4}"
    ++ codes ".role rect{fill:#e8eef8;stroke:#42659c}"
    ++ codes ".role text{text-anchor:middle;font-weight:bold}"
    ++ codes ".put line,.put .open{stroke:#1d4f91;stroke-width:1.6}"
    ++ codes ".aux line{stroke:#999;stroke-dasharray:3 3}.aux .open{stroke:#999}"
    ++ codes "g text{paint-order:stroke;stroke:#fff;stroke-width:7px;stroke-linejoin:round}"
    ++ codes ".put circle,.take circle{fill:#1d4f91}.input circle{fill:#2e8540}"
    ++ codes ".set circle{fill:#fff;stroke:#1d4f91;stroke-width:2}"
    ++ codes ".pick circle{fill:#8a3ab9}.aux circle{fill:#999}"
    ++ codes "g .open{fill:#fff}#tip{fill:#1d4f91}#pale{fill:#999}"
    ++ codes ".aux [marker-end]{marker-end:url(#pale)}"
    ++ codes ".keep rect{fill:#f4f4f4;stroke:#999}.replace rect{fill:#ffe2b8;stroke:#c77700}"
    ++ codes ".change rect{fill:#ddf1dd;stroke:#2e8540}"
    ++ codes ".role text,.keep text,.replace text,.change text{stroke:none}\n"

unfoldable pub dark_text : List ℕ
dark_text = codes "@media(prefers-color-scheme:dark){text{fill:#e4e4e4}.ground{fill:#16181d}"
    ++ codes ".lane{stroke:#5c616b}.role rect{fill:#233049;stroke:#7fa8e8}"
    ++ codes ".put line,.put .open{stroke:#7fb0ff}.aux line,.aux .open{stroke:#8a8f99}"
    ++ codes "g text{stroke:#16181d}.put circle,.take circle{fill:#7fb0ff}"
    ++ codes ".set circle{fill:#16181d;stroke:#7fb0ff}.input circle{fill:#5ecb7b}"
    ++ codes ".pick circle{fill:#c792ea}.aux circle{fill:#8a8f99}g .open{fill:#16181d}"
    ++ codes "#tip{fill:#7fb0ff}#pale{fill:#8a8f99}.keep rect{fill:#2a2d34;stroke:#8a8f99}"
    ++ codes ".replace rect{fill:#4a3413;stroke:#e09a3e}"
    ++ codes ".change rect{fill:#1d3a24;stroke:#5ecb7b}}</style>\n"

-- the tip of an arrow, which ends at the rim of the dot of its take, and that of an auxiliary one
unfoldable pub tip_text : List ℕ
tip_text = codes "<defs><marker id=\"tip\" viewBox=\"0 0 10 8\" refX=\"14\" refY=\"4\" "
    ++ codes "markerWidth=\"10\" markerHeight=\"8\" "
    ++ codes "markerUnits=\"userSpaceOnUse\" orient=\"auto\">"
    ++ codes "<path d=\"M0 0L10 4L0 8z\"/></marker>\n"
    ++ codes "<marker id=\"pale\" viewBox=\"0 0 10 8\" refX=\"14\" refY=\"4\" "
    ++ codes "markerWidth=\"10\" markerHeight=\"8\" "
    ++ codes "markerUnits=\"userSpaceOnUse\" orient=\"auto\">"
    ++ codes "<path d=\"M0 0L10 4L0 8z\"/></marker></defs>\n"

-- how high the picture is: the rows, the boxes under them, and the last line
abbrev pub height : ℕ → ℕ
height rows = row_y rows + 62

unfoldable pub svg_tag : ℕ → ℕ → List ℕ
svg_tag wide high =
    end_to_end (codes "<svg xmlns=\"http://www.w3.org/2000/svg\"" ∷
    attribute (codes "width") wide ∷ attribute (codes "height") high ∷
    codes " viewBox=\"0 0 " ∷ decimal wide ∷ codes " " ∷ decimal high ∷ codes "\">\n" ∷ [])

unfoldable pub ground_text : ℕ → ℕ → List ℕ
ground_text wide high =
    end_to_end (codes "<rect class=\"ground\"" ∷ attribute (codes "width") wide ∷
    attribute (codes "height") high ∷ codes "/>\n" ∷ [])

unfoldable pub svg_open : ℕ → ℕ → List ℕ
svg_open wide high =
    svg_tag wide high ++ style_text ++ dark_text ++ tip_text ++ ground_text wide high

abbrev pub svg_head : ℕ → List Role → ℕ → List ℕ
svg_head columns lanes rows = svg_open (width columns lanes) (height rows)
    ++ pieces_from (svg_lane columns (row_y rows)) 0 lanes

unfoldable pub svg_last : ℕ → Option Last → List ℕ
svg_last floor None = []
svg_last floor (Some end) = words 12 (floor + 48) (last_line end) ++ codes "\n"

abbrev pub svg_tail : ℕ → List Role → ℕ → Option Last → List ℕ
svg_tail columns lanes rows end = pieces_from (name_box columns (row_y rows)) 0 lanes
    ++ svg_last (row_y rows) end ++ codes "</svg>\n"

abbrev pub svg_picture : List Role → List Entry → Option Last → List ℕ
svg_picture lanes entries end =
    svg_head (columns_of lanes entries) lanes (length entries)
    ++ svg_entries (columns_of lanes entries) lanes entries
    ++ svg_tail (columns_of lanes entries) lanes (length entries) end
