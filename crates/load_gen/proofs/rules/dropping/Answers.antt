use Rattle.std.proofs.Common.{rules}
use Rattle.load_gen.proofs.rules.dropping.Goals as goal

pub returns : goal.returns
returns c = search rules depth 2
