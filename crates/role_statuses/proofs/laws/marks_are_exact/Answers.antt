use Rattle.role_statuses.proofs.RoleLemmas.{marks-are_exact}
use Rattle.role_statuses.proofs.laws.marks_are_exact.Goals as goal

pub returns : goal.returns
returns c = marks-are_exact
