-- The threads so far were started with the seats so far; those that are left open the places behind them.
use Rattle.std.proofs.Common.{◌≡◌, ◌+◌, ◌≤◌, ℕ, IfSome, length, slice_get}
use Rattle.dioc_terms.specs.Plain.{plain}
use Rattle.role_runner.specs.Jobs.{EachAt, OpensJob}
use Rattle.role_runner.specs.Starts.{IsStarted}
use Rattle.role_runner.proofs.starting.start_all.Given as goal

abbrev pub invariant-loop-seat : goal.invariant-loop-seat
invariant-loop-seat g l = record {
  all : length l.started.items ≡ length l.yielded;
  room : length l.started.items + length l.seat-iterator.rest.items ≤ l.started.cap;
  opens : (j : ℕ) → IfSome (slice_get l.seat-iterator.rest.items j) (OpensJob l.stage (plain l.bundle) (length l.started.items + j));
  starts : EachAt (IsStarted l.stage (plain l.bundle)) l.yielded l.started.items;
}
