use Rattle.dioc_terms.proofs.TermLemmas.{casts-are_roles}
use Rattle.dioc_terms.proofs.term_laws.casts_are_roles.Goals as goal

pub returns : goal.returns
returns c = casts-are_roles
