-- The lines so far say the entries so far.
use Rattle.std.proofs.Common.{◌≤◌, ◌+◌, length}
use Rattle.trace_picture.specs.Reading.{ReadsUpTo}
use Rattle.trace_picture.proofs.reading.read_trace_text.Given as goal

abbrev pub invariant-loop-rest : goal.invariant-loop-rest
invariant-loop-rest l = ReadsUpTo l.text l.number l.entries.items l.last l.rest × (l.number + length l.rest ≤ length l.text)

abbrev pub decreases-loop-rest : goal.decreases-loop-rest
decreases-loop-rest l = length l.rest
