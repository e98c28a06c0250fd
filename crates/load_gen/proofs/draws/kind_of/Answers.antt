use Rattle.std.proofs.Common.{rules}
use Rattle.load_gen.proofs.draws.kind_of.Goals as goal

pub returns-in-0 : goal.returns-in-0
returns-in-0 c = search rules depth 2

pub returns-in-1 : goal.returns-in-1
returns-in-1 c = search rules depth 2

pub returns-in-2 : goal.returns-in-2
returns-in-2 c = search rules depth 2

pub returns-in_default : goal.returns-in_default
returns-in_default c = search rules depth 2
