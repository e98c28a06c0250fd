use Rattle.std.proofs.Common.{rules}
use Rattle.rule_checks.proofs.bounds.few.Goals as goal

pub returns-then-count-most-clause-refused : goal.returns-then-count-most-clause-refused
returns-then-count-most-clause-refused c = search rules depth 2
