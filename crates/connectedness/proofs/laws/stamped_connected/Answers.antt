use Rattle.connectedness.proofs.Lemmas.{stamped-connected}
use Rattle.connectedness.proofs.laws.stamped_connected.Goals as goal

pub returns : goal.returns
returns c = stamped-connected c.stamped_bodies.ensures
