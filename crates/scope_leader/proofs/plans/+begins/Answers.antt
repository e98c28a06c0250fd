use Rattle.std.proofs.lemmas.Grind.{common_steps}
use Rattle.std.proofs.Common.{arith}
use Rattle.scope_leader.proofs.plans.+begins.Goals as goal

pub returns-else-is_told : goal.returns-else-is_told
returns-else-is_told t c = grind (arith, common_steps)
