use Rattle.std.proofs.lemmas.Grind.{common_steps}
use Rattle.std.proofs.Common.{arith}
use Rattle.rule_checks.proofs.bounds.few_through.Goals as goal

pub loop-timed-preserved : goal.loop-timed-preserved
loop-timed-preserved c = grind (arith, common_steps)
