use Rattle.std.proofs.Common.{rules}
use Rattle.flat_code.proofs.forms.follow_choice.Goals as goal

pub returns : goal.returns
returns c = search rules depth 2
