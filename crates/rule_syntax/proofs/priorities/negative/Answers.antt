use Rattle.std.proofs.Common.{rules}
use Rattle.rule_syntax.proofs.priorities.negative.Goals as goal

pub returns : goal.returns
returns c = search rules depth 2
