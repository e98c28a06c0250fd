use Rattle.std.proofs.Common.{rules}
use Rattle.global_follower.proofs.shown.is_take.Goals as goal

pub returns-then-is_key_of : goal.returns-then-is_key_of
returns-then-is_key_of c = search rules depth 2

pub returns-else-is_key_of : goal.returns-else-is_key_of
returns-else-is_key_of c = search rules depth 2
