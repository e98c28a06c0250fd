use Rattle.marked_laws.proofs.Whole.{nothing_left}
use Rattle.marked_laws.proofs.laws.nothing_left.Goals as goal

pub returns : goal.returns
returns c = nothing_left c.term_laws.ensures
