-- As many of the places as were put in stand where the one was.
use Rattle.std.proofs.Common.{◌≡◌, ◌+◌, ◌++◌, drop, take}
use Rattle.std.specs.Vec.{vec_capacity}
use Rattle.flat_role.proofs.active.give_way.Given as goal

abbrev pub invariant-loop-i : goal.invariant-loop-i
invariant-loop-i l = record {
  given : l.active.items ≡ take l.at l.fn.active.items ++ (take l.i l.news ++ drop (l.at + 1) l.fn.active.items);
  capacity : vec_capacity l.active ≡ vec_capacity l.fn.active;
}
