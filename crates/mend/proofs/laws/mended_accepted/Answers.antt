use Rattle.mend.proofs.Accepted.{mended-accepted}
use Rattle.mend.proofs.laws.mended_accepted.Goals as goal

pub returns : goal.returns
returns c =
    mended-accepted c.mentions_are_roles.ensures c.casts_are_roles.ensures c.gaps_are_found.ensures c.mended_connected.ensures
