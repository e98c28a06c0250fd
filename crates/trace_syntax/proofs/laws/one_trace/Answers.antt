use Rattle.trace_syntax.proofs.TraceLaws.{one_trace}
use Rattle.trace_syntax.proofs.laws.one_trace.Goals as goal

pub returns : goal.returns
returns c = one_trace
