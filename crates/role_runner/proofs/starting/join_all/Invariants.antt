-- What came of the threads so far.
use Rattle.std.proofs.Common.{◌≡◌, ◌+◌, ◌≤◌, length}
use Rattle.role_runner.specs.Jobs.{EachAt}
use Rattle.role_runner.specs.Starts.{Gives}
use Rattle.role_runner.proofs.starting.join_all.Given as goal

abbrev pub invariant-loop-one : goal.invariant-loop-one
invariant-loop-one g l = record {
  all : length l.jobs.items ≡ length l.yielded;
  gives : EachAt (λ i. Gives) l.yielded l.jobs.items;
  room : length l.jobs.items + length l.one-iterator.rest.items ≤ l.jobs.cap;
}
