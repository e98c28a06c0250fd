-- The front and the back are still there.
use Rattle.std.proofs.Common.{◌≡◌, ◌+◌, ◌-◌, drop, length, take}
use Rattle.flat_role.proofs.relisting.remove_between.Given as goal

abbrev pub invariant-loop : goal.invariant-loop
invariant-loop l = record {
  front : take l.front l.acts.items ≡ take l.front l.fn.acts.items;
  back : drop (length l.acts.items - l.back) l.acts.items ≡ drop (length l.fn.acts.items - l.back) l.fn.acts.items;
  count : length l.acts.items + l.counter ≡ l.kept + length l.fn.acts.items;
}
