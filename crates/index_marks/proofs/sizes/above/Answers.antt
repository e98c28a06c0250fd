use Rattle.std.proofs.Common.{arith}
use Rattle.index_marks.proofs.sizes.above.Goals as goal

pub returns : goal.returns
returns c = omega arith
