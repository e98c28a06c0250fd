use Rattle.std.proofs.Common.{rules}
use Rattle.index_marks.proofs.marks.+mark_from.Goals as goal

pub returns-in-Scope-clause-marks : goal.returns-in-Scope-clause-marks
returns-in-Scope-clause-marks t c = search rules depth 2
