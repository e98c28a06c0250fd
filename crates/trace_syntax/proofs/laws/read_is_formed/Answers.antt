use Rattle.trace_syntax.proofs.ReadFormed.{read_is_formed}
use Rattle.trace_syntax.proofs.laws.read_is_formed.Goals as goal

pub returns : goal.returns
returns c = read_is_formed
