use Rattle.std.proofs.Common.{refl}
use Rattle.index_marks.proofs.marks.mark_one.Goals as goal

pub returns-clause-next : goal.returns-clause-next
returns-clause-next c = refl
