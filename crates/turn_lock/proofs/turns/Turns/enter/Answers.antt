use Rattle.std.proofs.Common.{rules, Some}
use Rattle.turn_lock.proofs.Seats.{has_slot}
use Rattle.turn_lock.proofs.turns.Turns.enter.Goals as goal

pub exchange-requires : goal.exchange-requires
exchange-requires g c =
    let found = c.take_turn-word.ensures.took in
    (search rules, (Some found.0, has_slot c.take_turn-word.new.token.me _ (Some found.0) found.1))
