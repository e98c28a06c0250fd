use Rattle.process_steps.proofs.Lemmas.{steps-show_their_acts}
use Rattle.process_steps.proofs.laws.steps_show_their_acts.Goals as goal

pub returns : goal.returns
returns c = steps-show_their_acts
