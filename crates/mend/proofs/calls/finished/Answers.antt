use Rattle.std.proofs.Common.{arith, rules}
use Rattle.mend.proofs.calls.finished.Goals as goal

pub number-requires : goal.number-requires
number-requires c = omega arith

pub returns-in-Ok : goal.returns-in-Ok
returns-in-Ok c = search rules depth 2
