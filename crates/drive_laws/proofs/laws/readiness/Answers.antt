use Rattle.drive_laws.proofs.Lost.{readiness}
use Rattle.drive_laws.proofs.laws.readiness.Goals as goal

pub returns : goal.returns
returns c = readiness c.term_laws.ensures
