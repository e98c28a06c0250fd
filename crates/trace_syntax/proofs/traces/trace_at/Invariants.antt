-- The entries so far stand up to the next place.
use Rattle.std.proofs.Common.{length, ◌-◌}
use Rattle.trace_syntax.proofs.ManyLines.{EntriesUpTo}
use Rattle.trace_syntax.proofs.traces.trace_at.Given as goal

abbrev pub invariant-lines : goal.invariant-lines
invariant-lines l = EntriesUpTo l.text l.at l.entries.items l.next

abbrev pub decreases-lines : goal.decreases-lines
decreases-lines l = length l.text - l.next
