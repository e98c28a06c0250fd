use Rattle.std.proofs.Common.{rules}
use Rattle.projection.proofs.named.names_itself.Goals as goal

pub returns-else-eq-2 : goal.returns-else-eq-2
returns-else-eq-2 c = search rules depth 2
