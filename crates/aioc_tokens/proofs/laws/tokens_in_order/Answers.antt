use Rattle.aioc_tokens.proofs.Order.{lexes_ordered}
use Rattle.aioc_tokens.proofs.laws.tokens_in_order.Goals as goal

pub returns : goal.returns
returns c = lexes_ordered
