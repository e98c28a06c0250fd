use Rattle.std.proofs.Common.{rules}
use Rattle.scope_leader.proofs.plans.begin_with.Goals as goal

pub returns-in-Ok : goal.returns-in-Ok
returns-in-Ok c = search rules depth 2
