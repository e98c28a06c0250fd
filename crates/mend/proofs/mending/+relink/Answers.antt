-- What joining spends, and that no more is needed for a part than for the whole.
use Rattle.std.proofs.Common.{arith}
use Rattle.std.proofs.lemmas.Grind.{common_steps}
use Rattle.mend.proofs.Sizes.{join_grows, relinked_grows}
use Rattle.mend.proofs.mending.+relink.Goals as goal

pub returns-in_err-relink-in-Seq-clause-stop : goal.returns-in_err-relink-in-Seq-clause-stop
returns-in_err-relink-in-Seq-clause-stop t c = grind (arith, common_steps, join_grows, relinked_grows)

pub returns-in_err-relink-in-Seq-2-clause-stop : goal.returns-in_err-relink-in-Seq-2-clause-stop
returns-in_err-relink-in-Seq-2-clause-stop t c = grind (arith, common_steps, join_grows, relinked_grows)

pub returns-in_ok-relink-in-Seq-2-clause-stop : goal.returns-in_ok-relink-in-Seq-2-clause-stop
returns-in_ok-relink-in-Seq-2-clause-stop t c = grind (arith, common_steps, join_grows, relinked_grows)

pub returns-in_ok-relink-in-Seq-2-clause-spent : goal.returns-in_ok-relink-in-Seq-2-clause-spent
returns-in_ok-relink-in-Seq-2-clause-spent t c = grind (arith, common_steps)

pub returns-in_ok-relink-in-Seq-2-clause-made : goal.returns-in_ok-relink-in-Seq-2-clause-made
returns-in_ok-relink-in-Seq-2-clause-made t c = grind (arith, common_steps)

pub returns-in_err-relink-in-Par-clause-stop : goal.returns-in_err-relink-in-Par-clause-stop
returns-in_err-relink-in-Par-clause-stop t c = grind (arith, common_steps, relinked_grows)

pub returns-in_ok-relink-in-Par-clause-stop : goal.returns-in_ok-relink-in-Par-clause-stop
returns-in_ok-relink-in-Par-clause-stop t c = grind (arith, common_steps, relinked_grows)

pub returns-in_ok-relink-in-Par-clause-spent : goal.returns-in_ok-relink-in-Par-clause-spent
returns-in_ok-relink-in-Par-clause-spent t c = grind (arith, common_steps)

pub returns-in_err-relink-in-If-clause-stop : goal.returns-in_err-relink-in-If-clause-stop
returns-in_err-relink-in-If-clause-stop t c = grind (arith, common_steps, relinked_grows)

pub returns-in_ok-relink-in-If-clause-stop : goal.returns-in_ok-relink-in-If-clause-stop
returns-in_ok-relink-in-If-clause-stop t c = grind (arith, common_steps, relinked_grows)

pub returns-in_ok-relink-in-If-clause-spent : goal.returns-in_ok-relink-in-If-clause-spent
returns-in_ok-relink-in-If-clause-spent t c = grind (arith, common_steps)

pub returns-in_ok-relink-in-Par-clause-made : goal.returns-in_ok-relink-in-Par-clause-made
returns-in_ok-relink-in-Par-clause-made t c = grind (arith, common_steps)

pub returns-in_ok-relink-in-If-clause-made : goal.returns-in_ok-relink-in-If-clause-made
returns-in_ok-relink-in-If-clause-made t c = grind (arith, common_steps)
