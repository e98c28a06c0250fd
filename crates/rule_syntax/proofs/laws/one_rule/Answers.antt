use Rattle.rule_syntax.proofs.Unique.{one_rule}
use Rattle.rule_syntax.proofs.laws.one_rule.Goals as goal

pub returns : goal.returns
returns c = one_rule
