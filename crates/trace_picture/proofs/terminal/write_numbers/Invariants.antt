use Rattle.std.proofs.Common.{◌≡◌, ◌++◌}
use Rattle.trace_picture.specs.Runs.{pieces_below}
use Rattle.trace_picture.specs.Terminal.{number_heading, reach_of}
use Rattle.trace_picture.proofs.terminal.write_numbers.Given as goal

abbrev pub invariant-loop-lane : goal.invariant-loop-lane
invariant-loop-lane l = l.out.items ≡ l.fn.out.items ++ pieces_below (number_heading (reach_of l.lanes)) l.lane
