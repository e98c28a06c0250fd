use Rattle.std.proofs.lemmas.Grind.{common_steps}
use Rattle.std.proofs.Common.{arith}
use Rattle.wanted_tokens.proofs.stack.put_all.Goals as goal

pub goals-preserved : goal.goals-preserved
goals-preserved c = grind (arith, common_steps)
