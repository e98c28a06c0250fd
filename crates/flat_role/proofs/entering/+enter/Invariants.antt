-- The parts of an op stand before it.
use Rattle.flat_role.proofs.entering.+enter.Given as goal

abbrev pub decreases-enter : goal.decreases-enter
decreases-enter l = l.place
