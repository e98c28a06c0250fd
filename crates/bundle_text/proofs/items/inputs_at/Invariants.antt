-- The items so far stand up to the next place.
use Rattle.std.proofs.Common.{length, ◌-◌}
use Rattle.bundle_text.specs.Grammar.{IsInput}
use Rattle.bundle_text.proofs.Repeated.{SoFar}
use Rattle.bundle_text.proofs.items.inputs_at.Given as goal

abbrev pub invariant-loop-alloc : goal.invariant-loop-alloc
invariant-loop-alloc l = SoFar IsInput l.text l.at l.fn.inputs.items l.inputs.items l.next

abbrev pub decreases-loop-alloc : goal.decreases-loop-alloc
decreases-loop-alloc l = length l.text - l.next
