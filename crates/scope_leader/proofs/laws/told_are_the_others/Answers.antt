use Rattle.scope_leader.proofs.PlanLemmas.{told-are_the_others}
use Rattle.scope_leader.proofs.laws.told_are_the_others.Goals as goal

pub returns : goal.returns
returns c = told-are_the_others
