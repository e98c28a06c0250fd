-- The list gets shorter.
use Rattle.std.proofs.Common.{length}
use Rattle.load_gen.proofs.texts.+group.Given as goal

abbrev pub decreases-group : goal.decreases-group
decreases-group l = length l.kinds.now
