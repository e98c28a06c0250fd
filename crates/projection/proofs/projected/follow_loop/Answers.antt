use Rattle.std.proofs.Common.{rules}
use Rattle.projection.proofs.projected.follow_loop.Goals as goal

pub returns : goal.returns
returns c = search rules depth 2
