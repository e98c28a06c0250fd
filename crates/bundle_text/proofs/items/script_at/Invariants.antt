-- The items so far stand up to the next place.
use Rattle.std.proofs.Common.{map, length, ◌-◌}
use Rattle.bundle_text.specs.Grammar.{IsTimed}
use Rattle.bundle_text.specs.Readers.{plain_timed}
use Rattle.bundle_text.proofs.Repeated.{SoFar}
use Rattle.bundle_text.proofs.items.script_at.Given as goal

abbrev pub invariant-loop-alloc : goal.invariant-loop-alloc
invariant-loop-alloc l = SoFar (IsTimed l.version) l.text l.at (map plain_timed l.fn.script.items) (map plain_timed l.script.items) l.next

abbrev pub decreases-loop-alloc : goal.decreases-loop-alloc
decreases-loop-alloc l = length l.text - l.next
