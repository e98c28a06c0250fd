use Rattle.std.proofs.Common.{rules}
use Rattle.rule_checks.proofs.checks.+first_to_self.Goals as goal

pub returns-in-While : goal.returns-in-While
returns-in-While t c = search rules depth 2
