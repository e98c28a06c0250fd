use Rattle.drive_laws.proofs.Lost.{auxiliary_ends}
use Rattle.drive_laws.proofs.laws.auxiliary_ends.Goals as goal

pub returns : goal.returns
returns c = auxiliary_ends c.term_laws.ensures
