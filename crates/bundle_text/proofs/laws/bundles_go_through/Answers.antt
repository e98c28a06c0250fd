use Rattle.bundle_text.proofs.SectionsThrough.{whole_goes}
use Rattle.bundle_text.proofs.laws.bundles_go_through.Goals as goal

pub returns : goal.returns
returns c = whole_goes
