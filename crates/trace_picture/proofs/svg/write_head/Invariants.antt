use Rattle.std.proofs.Common.{◌≡◌, ◌++◌, take}
use Rattle.trace_picture.specs.Runs.{pieces_from}
use Rattle.trace_picture.specs.Svg.{width, height, row_y, svg_open, svg_lane}
use Rattle.trace_picture.proofs.svg.write_head.Given as goal

abbrev pub invariant-loop-lane : goal.invariant-loop-lane
invariant-loop-lane l = l.out.items ≡ (l.fn.out.items ++ svg_open (width l.frame.columns l.frame.lanes.now) (height l.rows)) ++ pieces_from (svg_lane l.frame.columns (row_y l.rows)) 0 (take l.lane l.frame.lanes.now)
