-- What opening spends, and that no more is needed for a part than for the whole.
use Rattle.std.proofs.Common.{arith}
use Rattle.std.proofs.lemmas.Grind.{common_steps}
use Rattle.mend.proofs.Sizes.{opened_grows}
use Rattle.mend.proofs.mending.+open.Goals as goal

pub returns-in_err-open-in-Par-clause-stop : goal.returns-in_err-open-in-Par-clause-stop
returns-in_err-open-in-Par-clause-stop t c = grind (arith, common_steps, opened_grows)

pub returns-in_ok-open-in-Par-clause-stop : goal.returns-in_ok-open-in-Par-clause-stop
returns-in_ok-open-in-Par-clause-stop t c = grind (arith, common_steps, opened_grows)

pub returns-in_ok-open-in-Par-clause-spent : goal.returns-in_ok-open-in-Par-clause-spent
returns-in_ok-open-in-Par-clause-spent t c = grind (arith, common_steps)

pub returns-in_ok-open-in-Par-clause-made : goal.returns-in_ok-open-in-Par-clause-made
returns-in_ok-open-in-Par-clause-made t c = grind (arith, common_steps)
