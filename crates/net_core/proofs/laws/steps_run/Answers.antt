-- Each part is a lemma over the laws of terms.
use Rattle.net_core.proofs.RunLemmas.{steps_run}
use Rattle.net_core.proofs.laws.steps_run.Goals as goal

pub returns : goal.returns
returns c = steps_run c.term_laws.ensures c.offers_are_steps.ensures
