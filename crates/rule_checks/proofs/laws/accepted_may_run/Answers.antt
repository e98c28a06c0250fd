use Rattle.rule_checks.proofs.MayRunLemmas.{accepted-may_run}
use Rattle.rule_checks.proofs.laws.accepted_may_run.Goals as goal

pub returns : goal.returns
returns c = accepted-may_run c.mentions_are_roles.ensures c.casts_are_roles.ensures c.gaps_are_found.ensures
