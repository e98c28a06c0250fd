-- The seats of the jobs so far.
use Rattle.std.proofs.Common.{◌≡◌, ◌+◌, ◌≤◌, map, length}
use Rattle.role_runner.proofs.threads.close_jobs.Given as goal

abbrev pub invariant-loop-job : goal.invariant-loop-job
invariant-loop-job l = record {
  seats : l.back.items ≡ map (λ job. job.seat) l.yielded;
  room : length l.back.items + length l.job-iterator.rest.items ≤ l.back.cap;
}
