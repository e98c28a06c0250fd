use Rattle.std.proofs.Common.{rules}
use Rattle.connectedness.proofs.summaries.in_parallel.Goals as goal

pub returns-then-left-3 : goal.returns-then-left-3
returns-then-left-3 c = search rules depth 2

pub returns-else-left-3 : goal.returns-else-left-3
returns-else-left-3 c = search rules depth 2
