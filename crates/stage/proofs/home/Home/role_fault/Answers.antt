use Rattle.std.proofs.Common.{rules}
use Rattle.stage.proofs.home.Home.role_fault.Goals as goal

pub returns-clause-first : goal.returns-clause-first
returns-clause-first c = search rules depth 2
