-- The roles so far stand up to the next place.
use Rattle.std.proofs.Common.{length, ◌-◌}
use Rattle.dioc_syntax.proofs.Lists.{NamesUpTo}
use Rattle.dioc_syntax.proofs.extras.names_at.Given as goal

abbrev pub invariant-loop-alloc : goal.invariant-loop-alloc
invariant-loop-alloc l = NamesUpTo l.text l.at l.roles.items l.next

abbrev pub decreases-loop-alloc : goal.decreases-loop-alloc
decreases-loop-alloc l = length l.text - l.next
