-- The list gets shorter.
use Rattle.std.proofs.Common.{length}
use Rattle.load_gen.proofs.texts.+groups.Given as goal

abbrev pub decreases-groups : goal.decreases-groups
decreases-groups l = length l.kinds.now
