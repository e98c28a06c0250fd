use Rattle.std.proofs.Common.{rules}
use Rattle.dioc_terms.proofs.names.is_name.Goals as goal

pub returns-then-are_words : goal.returns-then-are_words
returns-then-are_words c = search rules depth 2
