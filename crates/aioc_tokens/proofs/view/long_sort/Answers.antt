use Rattle.std.proofs.Common.{rules}
use Rattle.aioc_tokens.proofs.view.long_sort.Goals as goal

pub returns-in-None : goal.returns-in-None
returns-in-None c = search rules depth 2
