use Rattle.marked_laws.proofs.Whole.{simulation}
use Rattle.marked_laws.proofs.laws.simulation.Goals as goal

pub returns : goal.returns
returns c = simulation c.term_laws.ensures
