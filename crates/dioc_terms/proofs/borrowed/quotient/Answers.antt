use Rattle.std.proofs.Common.{rules}
use Rattle.dioc_terms.proofs.borrowed.quotient.Goals as goal

pub returns : goal.returns
returns c = search rules depth 2
