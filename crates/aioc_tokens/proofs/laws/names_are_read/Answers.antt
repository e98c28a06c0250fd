use Rattle.aioc_tokens.proofs.Readings.{name_read_exactly}
use Rattle.aioc_tokens.proofs.laws.names_are_read.Goals as goal

pub returns : goal.returns
returns c = name_read_exactly
