use Rattle.trace_text.proofs.LinesAgain.{run_again}
use Rattle.trace_text.proofs.laws.written_run_is_read.Goals as goal

pub returns : goal.returns
returns c = run_again
