use Rattle.bundle_text.proofs.Formed.{spelled_formed}
use Rattle.bundle_text.proofs.BundleAgain.{written_reads}
use Rattle.bundle_text.proofs.laws.read_is_written.Goals as goal

pub returns : goal.returns
returns c = λ bytes b is. written_reads b (spelled_formed bytes b is)
