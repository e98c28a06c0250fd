use Rattle.std.proofs.lemmas.Grind.{common_steps}
use Rattle.std.proofs.Common.{arith}
use Rattle.aioc_top.proofs.commands.project.write_roles.Goals as goal

pub returns : goal.returns
returns c = grind (arith, common_steps)
