use Rattle.net_drive.proofs.Exactness.{driven_runs}
use Rattle.net_drive.proofs.laws.driven_runs.Goals as goal

pub returns : goal.returns
returns c = let k = c.known.ensures in
    driven_runs c.term_laws.ensures k.offered k.readiness k.auxiliary
