use Rattle.trace_text.proofs.LinesAgain.{line_again}
use Rattle.trace_text.proofs.laws.written_is_read.Goals as goal

pub returns : goal.returns
returns c = line_again
