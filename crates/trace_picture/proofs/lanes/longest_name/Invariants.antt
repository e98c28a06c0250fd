use Rattle.std.proofs.Common.{◌≡◌, take}
use Rattle.trace_picture.specs.Lanes.{longest_name}
use Rattle.trace_picture.proofs.lanes.longest_name.Given as goal

abbrev pub invariant-loop-lane : goal.invariant-loop-lane
invariant-loop-lane l = l.most ≡ longest_name 0 (take l.lane-index l.lanes)
