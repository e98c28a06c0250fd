use Rattle.std.proofs.Common.{arith}
use Rattle.dioc_syntax.proofs.found.parallel_of.Goals as goal

pub overflow_add-depth : goal.overflow_add-depth
overflow_add-depth c = omega arith
