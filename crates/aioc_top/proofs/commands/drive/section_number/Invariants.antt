-- The number is that of the entries so far and of those that are left.
use Rattle.std.proofs.Common.{◌≡◌, ◌+◌, drop}
use Rattle.aioc_top.specs.Replies.{section_number}
use Rattle.aioc_top.proofs.commands.drive.section_number.Given as goal

abbrev pub invariant-loop-entry : goal.invariant-loop-entry
invariant-loop-entry l = record {
  place : l.place ≡ l.entry-index;
  left : section_number l.entries l.number ≡ l.place + section_number (drop l.entry-index l.entries) l.left;
}
