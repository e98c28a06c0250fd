use Rattle.std.proofs.Common.{rules}
use Rattle.rule_book.proofs.kept.KeptRule.fits.Goals as goal

pub returns-then-are_among : goal.returns-then-are_among
returns-then-are_among c = search rules depth 2

pub returns-else-are_among : goal.returns-else-are_among
returns-else-are_among c = search rules depth 2
