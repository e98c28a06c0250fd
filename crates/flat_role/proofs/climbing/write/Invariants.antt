-- The marks of the construct as far as the loop has come.
use Rattle.std.proofs.Common.{◌≡◌, length}
use Rattle.flat_role.proofs.ClimbLemmas.{AreWiped}
use Rattle.flat_role.proofs.climbing.write.Given as goal

abbrev pub invariant-loop-at : goal.invariant-loop-at
invariant-loop-at l = record {
  as_long : length l.marks.items ≡ length l.initial.marks.items;
  wiped : AreWiped l.initial.marks.items l.marks.items l.low l.at;
}
