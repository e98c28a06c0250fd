-- The properties so far stand up to the next place.
use Rattle.std.proofs.Common.{length, ◌-◌}
use Rattle.dioc_syntax.proofs.Lists.{PropertiesUpTo}
use Rattle.dioc_syntax.proofs.extras.pairs_at.Given as goal

abbrev pub invariant-loop-alloc : goal.invariant-loop-alloc
invariant-loop-alloc l = PropertiesUpTo l.text l.at l.props.items l.next

abbrev pub decreases-loop-alloc : goal.decreases-loop-alloc
decreases-loop-alloc l = length l.text - l.next
