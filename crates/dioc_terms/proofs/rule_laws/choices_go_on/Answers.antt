use Rattle.dioc_terms.proofs.RuleLemmas.{choices-go_on}
use Rattle.dioc_terms.proofs.rule_laws.choices_go_on.Goals as goal

pub returns : goal.returns
returns c = choices-go_on
