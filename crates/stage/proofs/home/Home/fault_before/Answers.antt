use Rattle.std.proofs.Common.{rules}
use Rattle.stage.proofs.home.Home.fault_before.Goals as goal

pub returns-then-visible_len-after-clause-first : goal.returns-then-visible_len-after-clause-first
returns-then-visible_len-after-clause-first c = search rules depth 2

pub returns-clause-first : goal.returns-clause-first
returns-clause-first c = search rules depth 2
