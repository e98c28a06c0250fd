use Rattle.std.proofs.Common.{rules}
use Rattle.aioc_io.proofs.plan.Plan.begin_call.Goals as goal

pub returns-then-contains-clause-planned : goal.returns-then-contains-clause-planned
returns-then-contains-clause-planned c = search rules depth 2

pub returns-clause-planned : goal.returns-clause-planned
returns-clause-planned c = search rules depth 2
