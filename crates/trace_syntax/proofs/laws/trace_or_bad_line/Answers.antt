use Rattle.trace_syntax.proofs.TraceLaws.{trace_or_bad_line}
use Rattle.trace_syntax.proofs.laws.trace_or_bad_line.Goals as goal

pub returns : goal.returns
returns c = trace_or_bad_line
