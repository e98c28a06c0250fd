-- The values so far stand up to the next place.
use Rattle.std.proofs.Common.{length, ◌-◌}
use Rattle.bundle_text.proofs.Found.{ValuesSoFar}
use Rattle.bundle_text.proofs.items.values_at.Given as goal

abbrev pub invariant-loop-alloc : goal.invariant-loop-alloc
invariant-loop-alloc l = ValuesSoFar l.text l.at l.values.items l.next

abbrev pub decreases-loop-alloc : goal.decreases-loop-alloc
decreases-loop-alloc l = length l.text - l.next
