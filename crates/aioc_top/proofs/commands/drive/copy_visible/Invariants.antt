-- The copies so far are the visible entries of the front so far.
use Rattle.std.proofs.Common.{◌≡◌, take}
use Rattle.dioc_terms.specs.Messages.{visible}
use Rattle.aioc_top.proofs.commands.drive.copy_visible.Given as goal

abbrev pub invariant-loop-entry : goal.invariant-loop-entry
invariant-loop-entry l = l.copies.entries ≡ visible (take l.entry-index l.entries)
