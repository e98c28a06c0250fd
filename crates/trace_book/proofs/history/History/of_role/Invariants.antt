-- The entries so far are those of the role in the front so far.
use Rattle.std.proofs.Common.{◌≡◌, filter, take}
use Rattle.trace_book.specs.Histories.{is_of}
use Rattle.trace_book.proofs.history.History.of_role.Given as goal

abbrev pub invariant-loop-entry : goal.invariant-loop-entry
invariant-loop-entry l = l.history.entries ≡ filter (is_of l.role) (take l.entry-index l.entries)
