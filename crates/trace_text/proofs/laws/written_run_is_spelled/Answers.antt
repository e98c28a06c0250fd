use Rattle.trace_text.proofs.Standing.{run_lexemes}
use Rattle.trace_text.proofs.laws.written_run_is_spelled.Goals as goal

pub returns : goal.returns
returns c = run_lexemes
