use Rattle.std.proofs.Common.{◌-◌, length}
use Rattle.aioc_tokens.proofs.Packing.{PacksBefore}
use Rattle.aioc_tokens.proofs.packed.packed_tokens.Given as goal

abbrev pub invariant-loop-at : goal.invariant-loop-at
invariant-loop-at l = PacksBefore l.bytes l.starts.items l.sorts.items l.at

abbrev pub decreases-loop-at : goal.decreases-loop-at
decreases-loop-at l = length l.bytes - l.at
