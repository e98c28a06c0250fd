-- Each call has one bundle less.
use Rattle.std.proofs.Common.{length}
use Rattle.object_tests.proofs.flat_turns.tasks.+parts_of.Given as goal

abbrev pub decreases-parts_of : goal.decreases-parts_of
decreases-parts_of l = length l.bundles.now
