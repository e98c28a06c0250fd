use Rattle.std.proofs.Common.{rules}
use Rattle.role_monitor.proofs.hearing.hear.Goals as goal

pub returns-in_default-epoch_level-clause-heard : goal.returns-in_default-epoch_level-clause-heard
returns-in_default-epoch_level-clause-heard c = search rules depth 2
