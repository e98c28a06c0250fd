-- Each call has one worker less.
use Rattle.std.proofs.Common.{length}
use Rattle.session_pool.proofs.jobs.+all_done.Given as goal

abbrev pub decreases-all_done : goal.decreases-all_done
decreases-all_done g l = length l.jobs.now
