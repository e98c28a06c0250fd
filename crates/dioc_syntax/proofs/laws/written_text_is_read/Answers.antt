use Rattle.dioc_syntax.proofs.RoundTrip.{written_text}
use Rattle.dioc_syntax.proofs.laws.written_text_is_read.Goals as goal

pub returns : goal.returns
returns c = written_text
