use Rattle.std.proofs.Common.{rules}
use Rattle.rule_checks.proofs.checks.admit_change.Goals as goal

pub returns-in-Add-clause-ok : goal.returns-in-Add-clause-ok
returns-in-Add-clause-ok c = search rules depth 2

pub returns-in-Add-clause-refused : goal.returns-in-Add-clause-refused
returns-in-Add-clause-refused c = search rules depth 2
