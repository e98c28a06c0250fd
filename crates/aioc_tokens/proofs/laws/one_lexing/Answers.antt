use Rattle.aioc_tokens.proofs.Unique.{one_lexing}
use Rattle.aioc_tokens.proofs.laws.one_lexing.Goals as goal

pub returns : goal.returns
returns c = λ text tokens others. one_lexing 0 text tokens others
