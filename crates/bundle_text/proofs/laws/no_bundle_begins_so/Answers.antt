use Rattle.bundle_text.proofs.Begins.{no_bundle}
use Rattle.bundle_text.proofs.laws.no_bundle_begins_so.Goals as goal

pub returns : goal.returns
returns c = no_bundle
