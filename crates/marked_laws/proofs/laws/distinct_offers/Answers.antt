use Rattle.marked_laws.proofs.Whole.{distinct_offers}
use Rattle.marked_laws.proofs.laws.distinct_offers.Goals as goal

pub returns : goal.returns
returns c = distinct_offers c.term_laws.ensures
