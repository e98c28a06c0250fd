-- An update that stands in another is less deep.
use Rattle.std.specs.Prelude.{◌≤◌, List, [], ◌∷◌, max}
use Rattle.std.proofs.Common.{arith}
use denote.Param.Weighed.{most}
use Rattle.flat_role.specs.declared.marks.Mark.{Mark}
use Rattle.flat_role.specs.declared.marks.Mark.TheVariants as marks
use Rattle.flat_role.specs.declared.marks.State.{State}
use Rattle.flat_role.specs.declared.marks.State.TheVariants as state
use Rattle.flat_role.specs.declared.marks.Update.TheDeep.{deep-Mark, deep-State}
use Rattle.flat_role.specs.Updates.{deepest, depth_in, depth_of}

no_deeper : (m : Mark) → deep-Mark m ≤ depth_of m
no_deeper (marks.Became update) = omega arith
no_deeper m = omega arith

most_deep : (ms : List Mark) → most deep-Mark ms ≤ deepest ms
most_deep [] = omega arith
most_deep (m ∷ ms) = omega (arith, no_deeper m, most_deep ms)

pub none_deeper : (x : State) → max (deep-State x) 0 ≤ depth_in x
none_deeper (state.Came P) = omega arith
none_deeper (state.Told ms chosen) = omega arith
none_deeper (state.Runs plan progress) = omega (arith, most_deep progress.marks.items)
