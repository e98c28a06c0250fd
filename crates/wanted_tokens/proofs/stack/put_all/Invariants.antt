-- The last goals are on the stack, the first of them on top.
use Rattle.std.proofs.Common.{◌≡◌, ◌++◌, ◌≤◌, drop, length, reverse}
use Rattle.wanted_tokens.proofs.stack.put_all.Given as goal

abbrev pub invariant-goals : goal.invariant-goals
invariant-goals l = (reverse l.stack.items ≡ drop l.left l.wanted ++ reverse l.initial.stack.items) × (l.left ≤ length l.wanted)

abbrev pub decreases-goals : goal.decreases-goals
decreases-goals l = l.left
