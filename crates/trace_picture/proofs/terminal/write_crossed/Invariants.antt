use Rattle.std.proofs.Common.{◌≡◌, ◌++◌}
use Rattle.trace_picture.specs.Runs.{pieces_below}
use Rattle.trace_picture.specs.Strokes.{cell}
use Rattle.trace_picture.proofs.terminal.write_crossed.Given as goal

abbrev pub invariant-loop-lane : goal.invariant-loop-lane
invariant-loop-lane l = l.out.items ≡ l.fn.out.items ++ pieces_below (cell l.reach l.shape) l.lane
