-- The messages of the parts are counted one part after the other.
use Rattle.std.proofs.Common.{arith}
use Rattle.std.proofs.lemmas.Grind.{common_steps}
use Rattle.mend.proofs.numbering.+number.Goals as goal

pub returns-in_ok-between-in-Seq-clause-few : goal.returns-in_ok-between-in-Seq-clause-few
returns-in_ok-between-in-Seq-clause-few t c = grind (arith, common_steps)

pub returns-in_ok-between-in-Seq-clause-next : goal.returns-in_ok-between-in-Seq-clause-next
returns-in_ok-between-in-Seq-clause-next t c = grind (arith, common_steps)

pub returns-in_ok-between-in-Seq-clause-numbered : goal.returns-in_ok-between-in-Seq-clause-numbered
returns-in_ok-between-in-Seq-clause-numbered t c = grind (arith, common_steps)

pub returns-in_ok-between-in-Par-clause-few : goal.returns-in_ok-between-in-Par-clause-few
returns-in_ok-between-in-Par-clause-few t c = grind (arith, common_steps)

pub returns-in_ok-between-in-Par-clause-next : goal.returns-in_ok-between-in-Par-clause-next
returns-in_ok-between-in-Par-clause-next t c = grind (arith, common_steps)

pub returns-in_ok-between-in-Par-clause-numbered : goal.returns-in_ok-between-in-Par-clause-numbered
returns-in_ok-between-in-Par-clause-numbered t c = grind (arith, common_steps)

pub returns-in_ok-between-in-If-clause-few : goal.returns-in_ok-between-in-If-clause-few
returns-in_ok-between-in-If-clause-few t c = grind (arith, common_steps)

pub returns-in_ok-between-in-If-clause-next : goal.returns-in_ok-between-in-If-clause-next
returns-in_ok-between-in-If-clause-next t c = grind (arith, common_steps)

pub returns-in_ok-between-in-If-clause-numbered : goal.returns-in_ok-between-in-If-clause-numbered
returns-in_ok-between-in-If-clause-numbered t c = grind (arith, common_steps)

pub returns-in-Com-clause-few : goal.returns-in-Com-clause-few
returns-in-Com-clause-few t c = grind (arith, common_steps)

pub returns-in-Com-clause-next : goal.returns-in-Com-clause-next
returns-in-Com-clause-next t c = grind (arith, common_steps)

pub returns-in-Com-clause-numbered : goal.returns-in-Com-clause-numbered
returns-in-Com-clause-numbered t c = grind (arith, common_steps)

pub returns-in-While-clause-few : goal.returns-in-While-clause-few
returns-in-While-clause-few t c = grind (arith, common_steps)

pub returns-in-Scope-clause-few : goal.returns-in-Scope-clause-few
returns-in-Scope-clause-few t c = grind (arith, common_steps)
