use Rattle.dioc_terms.proofs.RuleLemmas.{adds-go_on}
use Rattle.dioc_terms.proofs.rule_laws.adds_go_on.Goals as goal

pub returns : goal.returns
returns c = adds-go_on
