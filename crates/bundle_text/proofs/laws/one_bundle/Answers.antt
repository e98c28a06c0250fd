use Rattle.bundle_text.proofs.Unique.{one_bundle}
use Rattle.bundle_text.proofs.laws.one_bundle.Goals as goal

pub returns : goal.returns
returns c = one_bundle
