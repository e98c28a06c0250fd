use Rattle.std.proofs.Common.{rules}
use Rattle.mend.proofs.checks.free_rule.Goals as goal

pub returns-clause-ok : goal.returns-clause-ok
returns-clause-ok c = search rules depth 2

pub returns-clause-refused : goal.returns-clause-refused
returns-clause-refused c = search rules depth 2
