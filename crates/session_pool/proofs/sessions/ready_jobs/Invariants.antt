-- A part was cut off for each worker so far.
use Rattle.std.proofs.Common.{◌≡◌, ◌≤◌, ◌+◌, ◌-◌, [], length, All}
use Rattle.ticket_table.specs.Views.{holding}
use Rattle.ticket_table.specs.Words.{IsDrawerOf, view}
use Rattle.session_pool.specs.Jobs.{HasClaimedNothing}
use Rattle.session_pool.proofs.sessions.ready_jobs.Given as goal

abbrev pub invariant-jobs : goal.invariant-jobs
invariant-jobs g l =
    IsDrawerOf l.tickets l.first × (view l.first ≡ holding (l.workers + 1 - length l.jobs.items) []) × (length l.jobs.items ≤ l.workers) × All (HasClaimedNothing l.tickets) l.jobs.items

abbrev pub decreases-jobs : goal.decreases-jobs
decreases-jobs g l = l.workers - length l.jobs.items
