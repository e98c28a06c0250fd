-- The picture of a trace in letters: a line for each entry.
use Rattle.std.specs.Prelude.{ℕ, ◌+◌, ◌-◌, ◌/◌, List, [], ◌++◌, Bool, length, min, max, Option, Some, None, codes, decimal, nat_le, if◌then◌else◌, flat_map}
use Rattle.dioc_terms.specs.declared.names.Role.{Role}
use Rattle.dioc_terms.specs.declared.entries.Entry.{Entry}
use Rattle.dioc_terms.specs.declared.bundles.Last.{Last}
use Rattle.trace_picture.specs.declared.shapes.Shape.{Shape}
use Rattle.trace_picture.specs.declared.shapes.Shape.TheVariants as shape
use Rattle.trace_picture.specs.Labels.{label, ended_text}
use Rattle.trace_picture.specs.Lanes.{longest_name}
use Rattle.trace_picture.specs.Runs.{repeated, shortened, pieces_from, pieces_below}
use Rattle.trace_picture.specs.Shapes.{shape_of}
use Rattle.trace_picture.specs.Strokes.{cell}

-- up to so many lanes have names above them; more have numbers
abbrev pub most_named : ℕ
most_named = 8

-- whether the lanes have names
abbrev pub are_named : List Role → Bool
are_named lanes = nat_le (length lanes) most_named

-- how many bytes a lane has on each side beyond the three in its middle
unfoldable pub reach_of : List Role → ℕ
reach_of lanes = if are_named lanes then max 2 (min 6 (longest_name 0 lanes / 2))
    else (if nat_le (length lanes) 16 then 1 else 0)

abbrev pub width_of : ℕ → ℕ
width_of reach = reach + reach + 3

-- a word above a lane, in its middle
unfoldable pub heading : ℕ → List ℕ → List ℕ
heading reach word =
    let shown = shortened (width_of reach - 1) word in
    let before = (width_of reach - length shown) / 2 in
    repeated 32 before ++ shown ++ repeated 32 (width_of reach - length shown - before)

unfoldable pub name_heading : ℕ → Role → List ℕ
name_heading reach r = heading reach r.0

unfoldable pub number_heading : ℕ → ℕ → List ℕ
number_heading reach lane = heading reach (decimal (lane + 1))

-- a line that says which role has the lane of this number
unfoldable pub legend_line : ℕ → Role → List ℕ
legend_line lane r = decimal (lane + 1) ++ codes " " ++ r.0 ++ codes "\n"

unfoldable pub head_rows : List Role → List ℕ
head_rows lanes =
    if are_named lanes then flat_map (name_heading (reach_of lanes)) lanes ++ codes "  entries\n"
    else pieces_from legend_line 0 lanes ++ codes "\n"
    ++ pieces_below (number_heading (reach_of lanes)) (length lanes) ++ codes "  entries\n"

-- the lanes as a shape crosses them
unfoldable pub cells : List Role → Shape → List ℕ
cells lanes s = pieces_below (cell (reach_of lanes) s) (length lanes)

-- whose entry has a shape, by the numbers of lanes, counted from 1: `1 -> 2: ` or `2: `
unfoldable pub owner_text : Shape → List ℕ
owner_text (shape.Arrow from to) =
    decimal (from + 1) ++ codes " -> " ++ decimal (to + 1) ++ codes ": "
owner_text (shape.Mark s at) = decimal (at + 1) ++ codes ": "
owner_text shape.Band = []

-- what stands behind the lanes: whose entry it is, where lanes have no names, and what it did
unfoldable pub remark : List Role → Entry → List ℕ
remark lanes e = if are_named lanes then label e else owner_text (shape_of lanes e) ++ label e

-- as many bytes of it are shown
abbrev pub most_remark : ℕ
most_remark = 72

-- behind the lanes
unfoldable pub beside : List ℕ → List ℕ
beside said = codes "  " ++ shortened most_remark said ++ codes "\n"

-- the line of an entry
unfoldable pub entry_row : List Role → Entry → List ℕ
entry_row lanes e = cells lanes (shape_of lanes e) ++ beside (remark lanes e)

-- the line of the trace's last line, where it has one
unfoldable pub foot_row : List Role → Option Last → List ℕ
foot_row lanes None = []
foot_row lanes (Some end) = cells lanes shape.Band ++ (codes "  " ++ ended_text end)

abbrev pub terminal_picture : List Role → List Entry → Option Last → List ℕ
terminal_picture lanes entries end =
    head_rows lanes ++ flat_map (entry_row lanes) entries ++ foot_row lanes end
