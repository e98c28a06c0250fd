use Rattle.rule_syntax.proofs.RoundTrip.{written_reads}
use Rattle.rule_syntax.proofs.laws.written_is_read.Goals as goal

pub returns : goal.returns
returns c = written_reads
