-- The copies so far are the inputs so far, and there is room for all.
use Rattle.std.proofs.Common.{◌≡◌, ◌≤◌, length, take}
use Rattle.mend.proofs.copies.copy_inputs.Given as goal

abbrev pub invariant-loop-input : goal.invariant-loop-input
invariant-loop-input l = record {
  copies : l.copies.items ≡ take l.input-index l.inputs;
  count : length l.copies.items ≡ l.input-index;
  room : length l.inputs ≤ l.copies.cap;
}
