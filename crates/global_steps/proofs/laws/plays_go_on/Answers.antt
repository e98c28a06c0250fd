use Rattle.global_steps.proofs.Lemmas.{plays-go_on}
use Rattle.global_steps.proofs.laws.plays_go_on.Goals as goal

pub returns : goal.returns
returns c = plays-go_on
