use Rattle.aioc_tokens.proofs.Unique.{tokens_or_bad_byte}
use Rattle.aioc_tokens.proofs.laws.tokens_or_bad_byte.Goals as goal

pub returns : goal.returns
returns c = λ text tokens bad. tokens_or_bad_byte 0 text tokens bad
