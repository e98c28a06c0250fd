-- How a shape crosses a lane in letters.
use Rattle.std.specs.Prelude.{ℕ, List, ◌∷◌, ◌++◌, Bool, ◌&&◌, if◌then◌else◌, nat_eq, nat_lt, nat_le, min, max}
use Rattle.trace_picture.specs.Runs.{repeated}
use Rattle.trace_picture.specs.declared.shapes.Sign.{Sign}
use Rattle.trace_picture.specs.declared.shapes.Sign.TheVariants as sign
use Rattle.trace_picture.specs.declared.shapes.Shape.{Shape}
use Rattle.trace_picture.specs.declared.shapes.Shape.TheVariants as shape
use Rattle.trace_picture.specs.declared.strokes.Side.{Side}
use Rattle.trace_picture.specs.declared.strokes.Side.TheVariants as side

-- `*` a take, `o` an assignment, `i` an input, `?` a decision, `K` a scope that keeps its body,
-- `R` one that a rule replaces, `@` a message to oneself
abbrev pub sign_byte : Sign → ℕ
sign_byte (sign.Take back) = 42
sign_byte sign.Set = 111
sign_byte sign.Input = 105
sign_byte sign.Pick = 63
sign_byte sign.Keep = 75
sign_byte sign.Replace = 82
sign_byte sign.Own = 64

-- whether an arrow comes to the lane from its left, and whether it goes on to its right
abbrev pub comes : ℕ → ℕ → ℕ → Bool
comes from to lane = nat_lt (min from to) lane && nat_le lane (max from to)

abbrev pub goes : ℕ → ℕ → ℕ → Bool
goes from to lane = nat_le (min from to) lane && nat_lt lane (max from to)

-- whether an arrow is drawn on this side of the lane
abbrev pub is_drawn : Side → ℕ → ℕ → ℕ → Bool
is_drawn side.Left from to lane = comes from to lane
is_drawn side.Right from to lane = goes from to lane

-- whether an arrow comes from this side and ends at the lane
abbrev pub ends : Side → ℕ → ℕ → ℕ → Bool
ends side.Left from to lane = nat_lt from to && nat_eq lane to
ends side.Right from to lane = nat_lt to from && nat_eq lane to

-- the tip of an arrow that comes from this side: `>` or `<`
abbrev pub tip_byte : Side → ℕ
tip_byte side.Left = 62
tip_byte side.Right = 60

-- the byte on a side of a lane: `-` of an arrow, `=` of a band, else a space
abbrev pub side_byte : Side → Shape → ℕ → ℕ
side_byte here (shape.Arrow from to) lane = if is_drawn here from to lane then 45 else 32
side_byte here (shape.Mark s at) lane = 32
side_byte here shape.Band lane = 61

-- the one next to it: the tip where an arrow ends
abbrev pub near_byte : Side → Shape → ℕ → ℕ
near_byte here (shape.Arrow from to) lane =
    if ends here from to lane then tip_byte here else side_byte here (shape.Arrow from to) lane
near_byte here other lane = side_byte here other lane

-- the lane's own byte: `|`, or what crosses it
abbrev pub center_byte : Shape → ℕ → ℕ
center_byte (shape.Arrow from to) lane =
    if comes from to lane && goes from to lane then 45 else 124
center_byte (shape.Mark s at) lane = if nat_eq lane at then sign_byte s else 124
center_byte shape.Band lane = 61

-- a lane, with so many bytes more on each side
unfoldable pub cell : ℕ → Shape → ℕ → List ℕ
cell reach s lane = repeated (side_byte side.Left s lane) reach
    ++ near_byte side.Left s lane ∷ center_byte s lane ∷ near_byte side.Right s lane
    ∷ repeated (side_byte side.Right s lane) reach
