use Rattle.net_drive.proofs.Exactness.{strays_are_exact}
use Rattle.net_drive.proofs.laws.strays_are_exact.Goals as goal

pub returns : goal.returns
returns c = let k = c.known.ensures in
    strays_are_exact c.term_laws.ensures k.offered k.readiness k.auxiliary
