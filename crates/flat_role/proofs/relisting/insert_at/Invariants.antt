-- Those that are left, put behind the front, make the whole.
use Rattle.std.proofs.Common.{◌≡◌, ◌≤◌, ◌++◌, drop, length, take}
use Rattle.flat_role.proofs.relisting.insert_at.Given as goal

abbrev pub invariant-loop-act : goal.invariant-loop-act
invariant-loop-act l = record {
  whole : take l.place l.acts.items ++ (l.left.items ++ drop l.place l.acts.items)
      ≡ take l.place l.fn.acts.items ++ (l.fn.fresh.items ++ drop l.place l.fn.acts.items);
  inside : l.place ≤ length l.acts.items;
}

abbrev pub decreases-loop-act : goal.decreases-loop-act
decreases-loop-act l = length l.left.items
