-- The entries so far are the visible ones of the front so far.
use Rattle.std.proofs.Common.{◌≡◌, take}
use Rattle.dioc_terms.specs.Messages.{visible}
use Rattle.trace_book.proofs.history.History.visible.Given as goal

abbrev pub invariant-loop-entry : goal.invariant-loop-entry
invariant-loop-entry l = l.history.entries ≡ visible (take l.entry-index l.entries)
