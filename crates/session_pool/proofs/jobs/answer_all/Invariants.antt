-- Of each session that was claimed so far the right was made.
use Rattle.std.proofs.Common.{◌≡◌, ◌≤◌, ◌-◌, length}
use Rattle.std.specs.List.{AllByRecursion}
use Rattle.ticket_table.specs.Words.{IsDrawerOf, drawn_by, parts_of}
use Rattle.session_pool.specs.Jobs.{IsRight, expected, numbers_of}
use Rattle.session_pool.proofs.jobs.answer_all.Given as goal

abbrev pub invariant-sessions : goal.invariant-sessions
invariant-sessions g l =
    IsDrawerOf l.tickets l.job.drawer × (parts_of l.job.drawer ≡ 1) × (drawn_by l.job.drawer ≡ numbers_of l.job.made.items)
    × (length l.job.made.items ≤ length l.order.bundles.now) × AllByRecursion (IsRight g.T.Made.seen (expected g.T.Made.made_of l.order)) l.job.made.items

abbrev pub decreases-sessions : goal.decreases-sessions
decreases-sessions g l = length l.order.bundles.now - length l.job.made.items
