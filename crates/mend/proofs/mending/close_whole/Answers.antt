use Rattle.std.proofs.Common.{rules}
use Rattle.mend.proofs.mending.close_whole.Goals as goal

pub returns-in-Some-clause-made : goal.returns-in-Some-clause-made
returns-in-Some-clause-made c = search rules depth 2

pub returns-in-Some-clause-stop : goal.returns-in-Some-clause-stop
returns-in-Some-clause-stop c = search rules depth 2
