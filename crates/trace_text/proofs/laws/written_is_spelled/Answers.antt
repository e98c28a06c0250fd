use Rattle.trace_text.proofs.Standing.{line_lexemes}
use Rattle.trace_text.proofs.laws.written_is_spelled.Goals as goal

pub returns : goal.returns
returns c = line_lexemes
