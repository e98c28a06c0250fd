use Rattle.bundle_text.proofs.BundleAgain.{written_reads}
use Rattle.bundle_text.proofs.laws.written_is_read.Goals as goal

pub returns : goal.returns
returns c = written_reads
