use Rattle.trace_syntax.proofs.TraceLaws.{one_line}
use Rattle.trace_syntax.proofs.laws.one_line.Goals as goal

pub returns : goal.returns
returns c = one_line
