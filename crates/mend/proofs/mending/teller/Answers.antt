use Rattle.std.proofs.Common.{rules}
use Rattle.mend.proofs.mending.teller.Goals as goal

pub returns-in_ok-copy-in-Com : goal.returns-in_ok-copy-in-Com
returns-in_ok-copy-in-Com c = search rules depth 2
