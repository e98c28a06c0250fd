use Rattle.std.proofs.lemmas.Grind.{common_steps}
use Rattle.std.proofs.Common.{arith}
use Rattle.index_marks.proofs.indices.+add_all.Goals as goal

pub returns-in_ok-add_all-in-Seq-2-clause-added : goal.returns-in_ok-add_all-in-Seq-2-clause-added
returns-in_ok-add_all-in-Seq-2-clause-added t c = grind (arith, common_steps)
