use Rattle.std.proofs.Common.{◌-◌, length}
use Rattle.aioc_tokens.proofs.Walk.{IsBefore}
use Rattle.aioc_tokens.proofs.scan.tokens.Given as goal

abbrev pub invariant-loop-at : goal.invariant-loop-at
invariant-loop-at l = IsBefore l.bytes l.found.items l.at

abbrev pub decreases-loop-at : goal.decreases-loop-at
decreases-loop-at l = length l.bytes - l.at
