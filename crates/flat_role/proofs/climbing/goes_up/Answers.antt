-- Any other mark says that something was done.
use Rattle.flat_role.proofs.ClimbLemmas.{stays_below}
use Rattle.flat_role.proofs.climbing.goes_up.Goals as goal

pub returns-in_default : goal.returns-in_default
returns-in_default c me P = stays_below me P c.args.over c.args.mark.now c.in_default.not-Untouched
