use Rattle.std.proofs.Common.{◌≡◌, ◌++◌, take}
use Rattle.trace_picture.specs.Runs.{pieces_from}
use Rattle.trace_picture.specs.Svg.{svg_entry}
use Rattle.trace_picture.specs.Arrivals.{arrival}
use Rattle.trace_picture.proofs.svg.write_entries.Given as goal

abbrev pub invariant-loop-row : goal.invariant-loop-row
invariant-loop-row l = l.out.items ≡ l.fn.out.items ++ pieces_from (λ row e. svg_entry l.frame.columns l.frame.lanes.now row (arrival l.entries row e) e) 0 (take l.row l.entries)
