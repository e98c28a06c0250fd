use Rattle.std.proofs.Common.{rules}
use Rattle.connectedness.proofs.summaries.in_choice.Goals as goal

pub returns-else-named : goal.returns-else-named
returns-else-named c = search rules depth 2
