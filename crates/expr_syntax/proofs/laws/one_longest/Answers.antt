use Rattle.expr_syntax.proofs.RoundTrip.{one_longest}
use Rattle.expr_syntax.proofs.laws.one_longest.Goals as goal

pub returns : goal.returns
returns c = one_longest
