-- The list gets shorter.
use Rattle.std.proofs.Common.{length}
use Rattle.load_gen.proofs.texts.+roles_after.Given as goal

abbrev pub decreases-roles_after : goal.decreases-roles_after
decreases-roles_after l = length l.kinds.now
