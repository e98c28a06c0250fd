use Rattle.std.proofs.Common.{arith, rules}
use Rattle.dioc_syntax.proofs.found.sequence_of.Goals as goal

pub overflow_add-depth : goal.overflow_add-depth
overflow_add-depth c = omega arith

pub returns-clause-choreo : goal.returns-clause-choreo
returns-clause-choreo c = search rules depth 2
