use Rattle.dioc_terms.proofs.ValueLemmas.{conditions-join-nothing}
use Rattle.dioc_terms.proofs.evaluation.conditions_join_nothing.Goals as goal

pub returns : goal.returns
returns c = conditions-join-nothing
