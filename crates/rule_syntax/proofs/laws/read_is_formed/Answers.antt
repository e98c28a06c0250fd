use Rattle.rule_syntax.proofs.Formed.{read_formed}
use Rattle.rule_syntax.proofs.laws.read_is_formed.Goals as goal

pub returns : goal.returns
returns c = read_formed
