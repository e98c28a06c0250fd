use Rattle.rule_syntax.proofs.Unique.{one_change}
use Rattle.rule_syntax.proofs.laws.one_change.Goals as goal

pub returns : goal.returns
returns c = one_change
