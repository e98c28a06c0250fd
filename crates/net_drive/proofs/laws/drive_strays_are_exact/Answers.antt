use Rattle.net_drive.proofs.DriveStrays.{drive_strays_are_exact}
use Rattle.net_drive.proofs.Exactness.{driven_exactly}
use Rattle.net_drive.proofs.laws.drive_strays_are_exact.Goals as goal

pub returns : goal.returns
returns c = let k = c.known.ensures in
    drive_strays_are_exact (driven_exactly c.term_laws.ensures k.offered k.readiness k.auxiliary k.simulation k.settlement)
