use Rattle.mend.proofs.laws.stays_as_it_is.Goals as goal
use Rattle.mend.proofs.Connecting.{stays-as_it_is}

pub returns : goal.returns
returns c = stays-as_it_is c.roles_at_ends.ensures
