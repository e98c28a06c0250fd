-- Each call is at a later place, or reads a tighter form at the same place.
use Rattle.std.proofs.Common.{length, ◌+◌, ◌-◌, ◌*◌}
use Rattle.dioc_syntax.proofs.readers.+reading.Given as goal

abbrev pub decreases-choreo_at : goal.decreases-choreo_at
decreases-choreo_at l = 8 * (length l.reader.now.text.now - l.place.at) + 3

abbrev pub decreases-sequence_at : goal.decreases-sequence_at
decreases-sequence_at l = 8 * (length l.reader.now.text.now - l.place.at) + 2

abbrev pub decreases-step_at : goal.decreases-step_at
decreases-step_at l = 8 * (length l.reader.now.text.now - l.place.at) + 1

abbrev pub decreases-group_at : goal.decreases-group_at
decreases-group_at l = 8 * (length l.reader.now.text.now - l.place.at)

abbrev pub decreases-block_at : goal.decreases-block_at
decreases-block_at l = 8 * (length l.reader.now.text.now - l.place.at)

abbrev pub decreases-otherwise_at : goal.decreases-otherwise_at
decreases-otherwise_at l = 8 * (length l.reader.now.text.now - l.place.at)

abbrev pub decreases-branch_at : goal.decreases-branch_at
decreases-branch_at l = 8 * (length l.reader.now.text.now - l.place.at)

abbrev pub decreases-loop_at : goal.decreases-loop_at
decreases-loop_at l = 8 * (length l.reader.now.text.now - l.place.at)

abbrev pub decreases-scope_at : goal.decreases-scope_at
decreases-scope_at l = 8 * (length l.reader.now.text.now - l.place.at)
