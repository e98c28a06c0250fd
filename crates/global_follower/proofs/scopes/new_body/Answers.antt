use Rattle.std.proofs.Common.{rules}
use Rattle.global_follower.proofs.scopes.new_body.Goals as goal

pub returns-else-not-is_next : goal.returns-else-not-is_next
returns-else-not-is_next c = search rules depth 2
