use Rattle.aioc_tokens.proofs.Readings.{one_reading}
use Rattle.aioc_tokens.proofs.laws.one_reading.Goals as goal

pub returns : goal.returns
returns c = one_reading
