use Rattle.std.proofs.Common.{length, ◌-◌}
use Rattle.bundle_layout.proofs.Lengths.{IsQuotedUpTo}
use Rattle.bundle_layout.proofs.parts.quoted_length.Given as goal

abbrev pub invariant-loop-at : goal.invariant-loop-at
invariant-loop-at l = IsQuotedUpTo l.text l.paired l.at

abbrev pub decreases-loop-at : goal.decreases-loop-at
decreases-loop-at l = length l.text - l.at
