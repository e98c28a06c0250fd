use Rattle.net_drive.proofs.Exactness.{driven_exactly}
use Rattle.net_drive.proofs.laws.driven_exactly.Goals as goal

pub returns : goal.returns
returns c = let k = c.known.ensures in
    driven_exactly c.term_laws.ensures k.offered k.readiness k.auxiliary k.simulation k.settlement
