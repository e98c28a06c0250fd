-- The values so far are the old ones and the copies so far.
use Rattle.std.proofs.Common.{◌≡◌, ◌++◌, take}
use Rattle.net_core.proofs.starting.add_copies.Given as goal

abbrev pub invariant-loop-value : goal.invariant-loop-value
invariant-loop-value l = l.values.items ≡ l.initial.values.items ++ take l.value-index l.more
