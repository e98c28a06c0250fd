-- What was gathered of the workers so far; the others are done too.
use Rattle.std.proofs.Common.{length}
use Rattle.std.specs.List.{AllByRecursion}
use Rattle.session_pool.specs.Jobs.{IsWorkDone, expected}
use Rattle.session_pool.proofs.Gathering.{Gathered}
use Rattle.session_pool.proofs.sessions.collect.Given as goal

abbrev pub invariant-loop-job : goal.invariant-loop-job
invariant-loop-job g l =
    Gathered g.T.Made.seen l.tickets (expected g.T.Made.made_of l.order) (length l.yielded) l.first l.places.items × AllByRecursion (IsWorkDone g.T.Made.seen l.tickets (expected g.T.Made.made_of l.order)) l.job-iterator.rest.items
