use Rattle.dpoc_process.proofs.LeafLemmas.{advances-are_steps}
use Rattle.dpoc_process.proofs.laws.advances_are_steps.Goals as goal

pub returns : goal.returns
returns c = advances-are_steps
