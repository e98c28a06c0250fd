-- The visible entries so far were counted.
use Rattle.std.proofs.Common.{◌≡◌, ◌≤◌, length, take}
use Rattle.dioc_terms.specs.Messages.{visible}
use Rattle.aioc_top.proofs.commands.replay.visible_len.Given as goal

abbrev pub invariant-loop-entry : goal.invariant-loop-entry
invariant-loop-entry l = (l.count ≡ length (visible (take l.entry-index l.entries))) × (l.count ≤ l.entry-index)
