use Rattle.std.proofs.Common.{rules}
use Rattle.dioc_terms.proofs.processes.KeyPartialEq.eq.Goals as goal

pub returns-then-eq-3 : goal.returns-then-eq-3
returns-then-eq-3 c = search rules depth 2
