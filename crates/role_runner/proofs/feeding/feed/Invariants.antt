-- The seat is still the feeder's, and went on.
use Rattle.role_runner.specs.Ties.{WentOn}
use Rattle.stage.specs.Holds.{IsFeeder}
use Rattle.stage.specs.Stages.{IsSeatIn}
use Rattle.turn_lock.specs.Words.{view}
use Rattle.role_runner.proofs.feeding.feed.Given as goal

abbrev pub invariant-loop : goal.invariant-loop
invariant-loop g l = record {
  of : IsSeatIn l.stage l.seat;
  feeder : IsFeeder (view l.seat);
  went : WentOn (view l.fn.seat) (view l.seat);
}
