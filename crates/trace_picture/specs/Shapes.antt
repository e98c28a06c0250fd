-- What of a picture shows an entry.
use Rattle.std.specs.Prelude.{ℕ, ◌≤◌, List, if◌then◌else◌, nat_eq, nat_lt}
use Rattle.dioc_terms.specs.declared.names.Role.{Role}
use Rattle.dioc_terms.specs.declared.entries.Chosen.{Chosen}
use Rattle.dioc_terms.specs.declared.entries.Chosen.TheVariants as chosen
use Rattle.dioc_terms.specs.declared.entries.Entry.{Entry}
use Rattle.dioc_terms.specs.declared.entries.Entry.TheVariants as entry
use Rattle.trace_picture.specs.Lanes.{lane_of}
use Rattle.trace_picture.specs.declared.shapes.Sign.{Sign}
use Rattle.trace_picture.specs.declared.shapes.Sign.TheVariants as sign
use Rattle.trace_picture.specs.declared.shapes.Shape.{Shape}
use Rattle.trace_picture.specs.declared.shapes.Shape.TheVariants as shape

-- an arrow between two lanes; a sign where a role sends to itself
abbrev pub arrow_between : ℕ → ℕ → Shape
arrow_between from to = if nat_eq from to then shape.Mark sign.Own from else shape.Arrow from to

-- the sign of a take on the lane of its receiver
abbrev pub taken_at : ℕ → ℕ → Shape
taken_at from to = shape.Mark (sign.Take (nat_lt to from)) to

abbrev pub choice_sign : Chosen → Sign
choice_sign chosen.Keep = sign.Keep
choice_sign (chosen.Rule name n) = sign.Replace

-- a put is an arrow, a change a band across all lanes, and anything else a sign on the lane of its
-- role
abbrev pub shape_of : List Role → Entry → Shape
shape_of lanes (entry.Put k n) = arrow_between (lane_of lanes k.from) (lane_of lanes k.to)
shape_of lanes (entry.Take k x) = taken_at (lane_of lanes k.from) (lane_of lanes k.to)
shape_of lanes (entry.Set i r x v) = shape.Mark sign.Set (lane_of lanes r)
shape_of lanes (entry.Input i r x v) = shape.Mark sign.Input (lane_of lanes r)
shape_of lanes (entry.Pick i r b) = shape.Mark sign.Pick (lane_of lanes r)
shape_of lanes (entry.Scope i r c) = shape.Mark (choice_sign c) (lane_of lanes r)
shape_of lanes _ = shape.Band

-- no lane of the shape has a number beyond this
abbrev pub IsWithin : ℕ → Shape → Type 0
IsWithin most (shape.Arrow from to) = (from ≤ most) × (to ≤ most)
IsWithin most (shape.Mark s at) = at ≤ most
IsWithin most shape.Band = Unit {0}
