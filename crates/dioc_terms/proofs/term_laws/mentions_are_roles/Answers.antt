use Rattle.dioc_terms.proofs.TermLemmas.{mentions-are_roles}
use Rattle.dioc_terms.proofs.term_laws.mentions_are_roles.Goals as goal

pub returns : goal.returns
returns c = mentions-are_roles
