use Rattle.dioc_terms.specs.EqualityLemmas.{equality-decides}
use Rattle.dioc_terms.proofs.equality.equality_decides.Goals as goal

pub returns : goal.returns
returns c = equality-decides
