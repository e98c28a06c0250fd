use Rattle.mend.proofs.laws.drops_to_input.Goals as goal
use Rattle.mend.proofs.Dropping.{drops-to_input}

pub returns : goal.returns
returns c = drops-to_input
