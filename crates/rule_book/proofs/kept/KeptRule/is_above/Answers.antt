use Rattle.std.proofs.Common.{rules}
use Rattle.rule_book.proofs.kept.KeptRule.is_above.Goals as goal

pub returns-in-Some : goal.returns-in-Some
returns-in-Some c = search rules depth 2
