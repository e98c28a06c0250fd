-- The items so far stand up to the next place.
use Rattle.std.proofs.Common.{length, ◌-◌}
use Rattle.bundle_text.specs.Grammar.{IsBound}
use Rattle.bundle_text.proofs.Repeated.{SoFar}
use Rattle.bundle_text.proofs.items.environment_at.Given as goal

abbrev pub invariant-loop-alloc : goal.invariant-loop-alloc
invariant-loop-alloc l = SoFar IsBound l.text l.at l.fn.env.items l.env.items l.next

abbrev pub decreases-loop-alloc : goal.decreases-loop-alloc
decreases-loop-alloc l = length l.text - l.next
