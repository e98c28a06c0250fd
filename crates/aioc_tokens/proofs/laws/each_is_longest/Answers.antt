use Rattle.aioc_tokens.proofs.Order.{lexes_longest}
use Rattle.aioc_tokens.proofs.laws.each_is_longest.Goals as goal

pub returns : goal.returns
returns c = lexes_longest
