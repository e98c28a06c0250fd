use Rattle.std.proofs.Common.{◌≡◌, ◌++◌, take}
use Rattle.trace_picture.specs.Runs.{pieces_from}
use Rattle.trace_picture.specs.Mermaid.{participant}
use Rattle.trace_picture.proofs.mermaid.write_all_participants.Given as goal

abbrev pub invariant-loop-lane : goal.invariant-loop-lane
invariant-loop-lane l = l.out.items ≡ l.fn.out.items ++ pieces_from participant 0 (take l.lane l.lanes)
