-- Each call has one act fewer.
use Rattle.std.proofs.Common.{length}
use Rattle.flat_role.proofs.plays.+play.Given as goal

abbrev pub decreases-play : goal.decreases-play
decreases-play g l = length l.acts.items
