-- So far no role is marked, and there is room for all.
use Rattle.std.proofs.Common.{◌≡◌, ◌≤◌, length, map, take, false}
use Rattle.stage.proofs.opening.no_marks.Given as goal

abbrev pub invariant-loop-role : goal.invariant-loop-role
invariant-loop-role l = record {
  marks : l.marks.items ≡ map (λ q. false) (take l._role-index l.cast);
  count : length l.marks.items ≡ l._role-index;
  room : length l.cast ≤ l.marks.cap;
}
