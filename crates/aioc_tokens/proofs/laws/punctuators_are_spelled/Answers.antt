use Rattle.aioc_tokens.proofs.Readings.{punctuator_spelled}
use Rattle.aioc_tokens.proofs.laws.punctuators_are_spelled.Goals as goal

pub returns : goal.returns
returns c = punctuator_spelled
