use Rattle.aioc_tokens.proofs.Unique.{one_bad_byte}
use Rattle.aioc_tokens.proofs.laws.one_bad_byte.Goals as goal

pub returns : goal.returns
returns c = λ text bad other. one_bad_byte 0 text bad other
