use Rattle.std.proofs.Common.{rules}
use Rattle.load_gen.proofs.blocks.turns.Goals as goal

pub returns-in-Ok : goal.returns-in-Ok
returns-in-Ok c = search rules depth 2
