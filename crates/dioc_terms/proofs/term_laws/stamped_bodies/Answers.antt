use Rattle.dioc_terms.proofs.TermLemmas.{stamped-bodies}
use Rattle.dioc_terms.proofs.term_laws.stamped_bodies.Goals as goal

pub returns : goal.returns
returns c = stamped-bodies
