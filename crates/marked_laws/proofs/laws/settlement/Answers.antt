use Rattle.marked_laws.proofs.Whole.{settlement}
use Rattle.marked_laws.proofs.laws.settlement.Goals as goal

pub returns : goal.returns
returns c = settlement c.term_laws.ensures
