-- The copies so far are the changes so far, and there is room for all.
use Rattle.std.proofs.Common.{◌≡◌, ◌≤◌, length, take}
use Rattle.mend.proofs.copies.copy_script.Given as goal

abbrev pub invariant-loop-timed : goal.invariant-loop-timed
invariant-loop-timed l = record {
  copies : l.copies.items ≡ take l.timed-index l.script;
  count : length l.copies.items ≡ l.timed-index;
  room : length l.script ≤ l.copies.cap;
}
