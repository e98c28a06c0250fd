use Rattle.std.proofs.Common.{arith}
use Rattle.load_gen.proofs.draws.draw.Goals as goal

pub returns : goal.returns
returns c = omega arith
