use Rattle.role_statuses.proofs.KeptTestLemmas.{kept-is_tested}
use Rattle.role_statuses.proofs.laws.kept_is_tested.Goals as goal

pub returns : goal.returns
returns c = kept-is_tested
