-- Each call has one bundle less.
use Rattle.std.proofs.Common.{length}
use Rattle.object_tests.proofs.flat_turns.tasks.+side_by_side.Given as goal

abbrev pub decreases-side_by_side : goal.decreases-side_by_side
decreases-side_by_side l = length l.bundles.now
