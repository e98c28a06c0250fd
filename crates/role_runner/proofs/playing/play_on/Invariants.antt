-- The seat went on, and the role's state is tied to it.
use Rattle.role_runner.specs.Plays.{CanPlay}
use Rattle.role_runner.specs.Ties.{WentOn}
use Rattle.turn_lock.specs.Words.{view}
use Rattle.role_runner.proofs.playing.play_on.Given as goal

abbrev pub invariant-loop : goal.invariant-loop
invariant-loop g l = record {
  can : CanPlay l.actor l.seat l.state;
  went : WentOn (view l.fn.seat) (view l.seat);
}
