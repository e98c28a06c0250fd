-- The copies so far are the items so far, and there is room for all.
use Rattle.std.proofs.Common.{◌≡◌, ◌≤◌, length, take}
use Rattle.dioc_terms.proofs.lists.Items.copy.Given as goal

abbrev pub invariant-loop-item : goal.invariant-loop-item
invariant-loop-item g l = record {
  copies : l.copies.items ≡ take l.item-index l.items;
  count : length l.copies.items ≡ l.item-index;
  room : length l.items ≤ l.copies.cap;
}
