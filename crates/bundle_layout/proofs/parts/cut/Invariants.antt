use Rattle.std.proofs.Common.{◌-◌, length}
use Rattle.bundle_layout.proofs.Cutting.{IsCutBy}
use Rattle.bundle_layout.proofs.parts.cut.Given as goal

abbrev pub invariant-loop-at : goal.invariant-loop-at
invariant-loop-at l = IsCutBy l.bytes l.starts l.next l.parts.items l.at

abbrev pub decreases-loop-at : goal.decreases-loop-at
decreases-loop-at l = length l.bytes - l.at
