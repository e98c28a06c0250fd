use Rattle.std.proofs.Common.{rules}
use Rattle.scope_leader.proofs.plans.plan_update.Goals as goal

pub returns-clause-own : goal.returns-clause-own
returns-clause-own c = search rules depth 2

pub returns-clause-tell : goal.returns-clause-tell
returns-clause-tell c = search rules depth 2
