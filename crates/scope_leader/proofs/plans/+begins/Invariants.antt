use Rattle.std.proofs.Common.{length}
use Rattle.scope_leader.proofs.plans.+begins.Given as goal

abbrev pub decreases-begins : goal.decreases-begins
decreases-begins l = length l.roles.now
