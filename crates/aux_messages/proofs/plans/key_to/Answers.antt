use Rattle.std.proofs.Common.{rules}
use Rattle.aux_messages.proofs.plans.key_to.Goals as goal

pub returns : goal.returns
returns c = search rules depth 2
