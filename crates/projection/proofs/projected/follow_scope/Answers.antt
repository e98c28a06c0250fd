use Rattle.std.proofs.Common.{rules}
use Rattle.projection.proofs.projected.follow_scope.Goals as goal

pub returns-then-not-has_ended : goal.returns-then-not-has_ended
returns-then-not-has_ended c = search rules depth 2
