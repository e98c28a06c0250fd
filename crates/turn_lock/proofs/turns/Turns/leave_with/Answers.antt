use Rattle.std.proofs.lemmas.Grind.{common_steps}
use Rattle.std.proofs.Common.{arith}
use Rattle.turn_lock.proofs.turns.Turns.leave_with.Goals as goal

pub bring_home-requires-clause-count : goal.bring_home-requires-clause-count
bring_home-requires-clause-count g c = grind (arith, common_steps)
