use Rattle.mend.proofs.Unmending.{plays-without}
use Rattle.mend.proofs.laws.plays_without.Goals as goal

pub returns : goal.returns
returns c =
    plays-without c.mentions_are_roles.ensures c.casts_are_roles.ensures c.stamped_bodies.ensures c.roles_at_ends.ensures
    c.mended_connected.ensures
