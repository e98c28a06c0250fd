use Rattle.std.proofs.Common.{rules}
use Rattle.dioc_terms.proofs.stamps.+stamp.Goals as goal

pub returns-in-Scope : goal.returns-in-Scope
returns-in-Scope t c = search rules depth 2
