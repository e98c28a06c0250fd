use Rattle.bundle_text.proofs.Formed.{spelled_formed}
use Rattle.bundle_text.proofs.laws.spelled_is_formed.Goals as goal

pub returns : goal.returns
returns c = spelled_formed
