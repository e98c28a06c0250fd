use Rattle.std.proofs.Common.{rules}
use Rattle.dioc_terms.proofs.entries.Entry.is_aux.Goals as goal

pub returns-in_default : goal.returns-in_default
returns-in_default c = search rules depth 2
