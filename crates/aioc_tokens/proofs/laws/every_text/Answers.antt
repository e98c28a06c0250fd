use Rattle.aioc_tokens.proofs.Every.{every_way}
use Rattle.aioc_tokens.proofs.laws.every_text.Goals as goal

pub returns : goal.returns
returns c = every_way
