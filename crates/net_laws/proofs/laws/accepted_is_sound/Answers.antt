use Rattle.net_laws.proofs.Accepted.{accepted_sound}
use Rattle.net_laws.proofs.laws.accepted_is_sound.Goals as goal

pub returns : goal.returns
returns c = accepted_sound c.accepted_may_run.ensures
