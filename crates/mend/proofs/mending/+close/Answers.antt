-- What closing spends, and that no more is needed for a part than for the whole.
use Rattle.std.proofs.Common.{arith}
use Rattle.std.proofs.lemmas.Grind.{common_steps}
use Rattle.mend.proofs.Sizes.{closed_grows}
use Rattle.mend.proofs.mending.+close.Goals as goal

pub returns-in_ok-close-in-If-clause-spent : goal.returns-in_ok-close-in-If-clause-spent
returns-in_ok-close-in-If-clause-spent t c = grind (arith, common_steps)

pub returns-in_err-close-in-If-clause-stop : goal.returns-in_err-close-in-If-clause-stop
returns-in_err-close-in-If-clause-stop t c = grind (arith, common_steps, closed_grows)

pub returns-in_ok-close-in-If-clause-stop : goal.returns-in_ok-close-in-If-clause-stop
returns-in_ok-close-in-If-clause-stop t c = grind (arith, common_steps, closed_grows)

pub returns-in_ok-close-in-If-clause-made : goal.returns-in_ok-close-in-If-clause-made
returns-in_ok-close-in-If-clause-made t c = grind (arith, common_steps)

pub returns-in_err-close-in-Par-clause-stop : goal.returns-in_err-close-in-Par-clause-stop
returns-in_err-close-in-Par-clause-stop t c = grind (arith, common_steps, closed_grows)

pub returns-in_ok-close-in-Par-clause-stop : goal.returns-in_ok-close-in-Par-clause-stop
returns-in_ok-close-in-Par-clause-stop t c = grind (arith, common_steps, closed_grows)

pub returns-in_ok-close-in-Par-clause-spent : goal.returns-in_ok-close-in-Par-clause-spent
returns-in_ok-close-in-Par-clause-spent t c = grind (arith, common_steps)
