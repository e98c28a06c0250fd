use Rattle.bundle_layout.proofs.Readings.{same_lexemes}
use Rattle.bundle_layout.proofs.laws.same_lexemes.Goals as goal

pub returns : goal.returns
returns c = same_lexemes
