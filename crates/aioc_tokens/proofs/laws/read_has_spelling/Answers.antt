use Rattle.aioc_tokens.proofs.Readings.{read_spelling}
use Rattle.aioc_tokens.proofs.laws.read_has_spelling.Goals as goal

pub returns : goal.returns
returns c = read_spelling
