use Rattle.std.proofs.Common.{rules}
use Rattle.dpoc_process.proofs.makers.leader_end.Goals as goal

pub returns-in-Ok : goal.returns-in-Ok
returns-in-Ok c = search rules depth 2
