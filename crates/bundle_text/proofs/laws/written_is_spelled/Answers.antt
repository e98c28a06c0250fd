use Rattle.bundle_text.proofs.BundleAgain.{written_spelled}
use Rattle.bundle_text.proofs.laws.written_is_spelled.Goals as goal

pub returns : goal.returns
returns c = written_spelled
