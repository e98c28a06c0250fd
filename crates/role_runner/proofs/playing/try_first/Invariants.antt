-- The seat has only looked on, and the role's state is tied to it.
use Rattle.role_runner.specs.Plays.{CanPlay}
use Rattle.stage.specs.Seats.{LookedOn}
use Rattle.turn_lock.specs.Words.{view}
use Rattle.role_runner.proofs.playing.try_first.Given as goal

abbrev pub invariant-loop : goal.invariant-loop
invariant-loop g l = record {
  can : CanPlay l.actor l.seat l.state;
  looked : LookedOn (view l.fn.seat) (view l.seat);
}
