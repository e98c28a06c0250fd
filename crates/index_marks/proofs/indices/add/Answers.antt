use Rattle.std.proofs.Common.{rules}
use Rattle.index_marks.proofs.indices.add.Goals as goal

pub returns-clause-new : goal.returns-clause-new
returns-clause-new c = search rules depth 2

pub returns-clause-added : goal.returns-clause-added
returns-clause-added c = search rules depth 2
