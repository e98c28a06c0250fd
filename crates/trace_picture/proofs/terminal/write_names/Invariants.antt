use Rattle.std.proofs.Common.{◌≡◌, ◌++◌, take, flat_map}
use Rattle.trace_picture.specs.Terminal.{name_heading, reach_of}
use Rattle.trace_picture.proofs.terminal.write_names.Given as goal

abbrev pub invariant-loop-lane : goal.invariant-loop-lane
invariant-loop-lane l = l.out.items ≡ l.fn.out.items ++ flat_map (name_heading (reach_of l.lanes)) (take l.lane-index l.lanes)
