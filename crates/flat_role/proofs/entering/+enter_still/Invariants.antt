-- The parts of an op stand before it.
use Rattle.flat_role.proofs.entering.+enter_still.Given as goal

abbrev pub decreases-enter_still : goal.decreases-enter_still
decreases-enter_still l = l.place
