-- Each call has one role less.
use Rattle.std.proofs.Common.{length}
use Rattle.net_core.proofs.listing.+add_moves.Given as goal

abbrev pub decreases-add_moves : goal.decreases-add_moves
decreases-add_moves g l = length l.cast.now
