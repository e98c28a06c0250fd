use Rattle.std.proofs.Common.{rules}
use Rattle.net_core.proofs.listing.change_moves.Goals as goal

pub returns : goal.returns
returns c = search rules depth 2
