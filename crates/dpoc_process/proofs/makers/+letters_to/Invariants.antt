use Rattle.std.proofs.Common.{length}
use Rattle.dpoc_process.proofs.makers.+letters_to.Given as goal

abbrev pub decreases-letters_to : goal.decreases-letters_to
decreases-letters_to l = length l.others.now
