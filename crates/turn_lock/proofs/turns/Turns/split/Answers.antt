use Rattle.std.proofs.Common.{arith, rules}
use Rattle.turn_lock.proofs.Steps.{splits}
use Rattle.turn_lock.proofs.turns.Turns.split.Goals as goal

pub split_seat-second-requires : goal.split_seat-second-requires
split_seat-second-requires g c = (
  c.requires.of,
  omega (arith, c.args.self.now.sized.0),
  splits g.H.Chronicle.items g.H.Chronicle.base g.H.Chronicle.owner g.H.Chronicle.at g.H.Chronicle.grows g.met.H.Chronicle.stays g.met.H.Chronicle.goes_on _ _ c.args.seat.token.me.0 c.requires.made.0 c.args.seat.single c.args.seat.waits.1,
)

pub invariant_of-result-2 : goal.invariant_of-result-2
invariant_of-result-2 g c = search rules depth 2

pub invariant_of-result : goal.invariant_of-result
invariant_of-result g c = search rules depth 2
