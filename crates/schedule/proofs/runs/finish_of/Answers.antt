use Rattle.std.proofs.Common.{rules}
use Rattle.schedule.proofs.runs.finish_of.Goals as goal

pub returns-clause-finish : goal.returns-clause-finish
returns-clause-finish g c = search rules depth 2
