use Rattle.aioc_tokens.proofs.Written.{spelled_lexemes}
use Rattle.aioc_tokens.proofs.laws.spelled_is_read.Goals as goal

pub returns : goal.returns
returns c = spelled_lexemes
