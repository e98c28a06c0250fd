use Rattle.aioc_tokens.proofs.Readings.{word_spelled}
use Rattle.aioc_tokens.proofs.laws.words_are_spelled.Goals as goal

pub returns : goal.returns
returns c = word_spelled
