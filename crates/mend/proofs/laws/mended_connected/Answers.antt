use Rattle.mend.proofs.laws.mended_connected.Goals as goal
use Rattle.mend.proofs.Connecting.{mended-connected}

pub returns : goal.returns
returns c = mended-connected c.roles_at_ends.ensures c.mentions_are_roles.ensures
