use Rattle.std.proofs.Common.{rules}
use Rattle.flat_code.proofs.forms.around.Goals as goal

pub returns-in_ok-copy-in-WhileLead : goal.returns-in_ok-copy-in-WhileLead
returns-in_ok-copy-in-WhileLead c = search rules depth 2
