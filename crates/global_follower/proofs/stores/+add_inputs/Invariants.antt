-- The list of what is given gets shorter.
use Rattle.std.proofs.Common.{length}
use Rattle.global_follower.proofs.stores.+add_inputs.Given as goal

abbrev pub decreases-add_inputs : goal.decreases-add_inputs
decreases-add_inputs l = length l.given.now
