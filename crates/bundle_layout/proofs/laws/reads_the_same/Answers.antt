use Rattle.bundle_layout.proofs.Readings.{same_reading}
use Rattle.bundle_layout.proofs.laws.reads_the_same.Goals as goal

pub returns : goal.returns
returns c = same_reading
