use Rattle.bundle_layout.proofs.Readings.{same_tokens}
use Rattle.bundle_layout.proofs.laws.same_tokens.Goals as goal

pub returns : goal.returns
returns c = same_tokens
