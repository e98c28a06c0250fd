-- What the lock says of a seat that enters, said of its role.
use Rattle.std.proofs.Common.{sym, subst}
use Rattle.stage.proofs.SeatLemmas.{still_stands}
use Rattle.stage.specs.Homes.{HomeState, IsSoundHome}
use Rattle.stage.specs.Seats.{StillStands}
use Rattle.turn_lock.specs.Words.{view}
use Rattle.stage.proofs.stage.Stage.enter.Goals as goal

pub returns-clause-still : goal.returns-clause-still
returns-clause-still g c =
    let same = c.home-home.ensures.value in
    let entered = c.enter-turn.ensures in
    subst (λ (h : HomeState). StillStands (view c.args.seat) h.history) (sym same)
    (still_stands (view c.args.seat) c.enter-turn.result.home entered.base c.others_leave_alone.ensures entered.begins entered.own entered.met (subst IsSoundHome same c.is_sound.ensures))
