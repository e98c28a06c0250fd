use Rattle.std.proofs.Common.{◌≡◌, take}
use Rattle.std.specs.List.{fold}
use Rattle.trace_picture.specs.Lanes.{with_lanes}
use Rattle.trace_picture.proofs.lanes.add_all.Given as goal

abbrev pub invariant-loop-entry : goal.invariant-loop-entry
invariant-loop-entry l = l.seen.keys ≡ fold with_lanes l.fn.seen.keys (take l.entry-index l.entries)
