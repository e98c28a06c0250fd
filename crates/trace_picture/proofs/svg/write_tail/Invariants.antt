use Rattle.std.proofs.Common.{◌≡◌, ◌++◌, take}
use Rattle.trace_picture.specs.Runs.{pieces_from}
use Rattle.trace_picture.specs.Svg.{row_y, name_box}
use Rattle.trace_picture.proofs.svg.write_tail.Given as goal

abbrev pub invariant-loop-lane : goal.invariant-loop-lane
invariant-loop-lane l = l.out.items ≡ l.fn.out.items ++ pieces_from (name_box l.frame.columns (row_y l.rows)) 0 (take l.lane l.frame.lanes.now)
