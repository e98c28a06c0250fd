use Rattle.std.proofs.Common.{◌≡◌, ◌-◌, ◌≤◌, length}
use Rattle.text_places.specs.Marks.{mark_of, is_marked, passing}
use Rattle.text_places.proofs.marks.find_mark.Given as goal

abbrev pub invariant-loop-at : goal.invariant-loop-at
invariant-loop-at l = record {
  after : l.from ≤ l.at;
  few : l.seen ≤ l.at;
  seen : l.seen ≡ passing (is_marked (mark_of l.mark) l.text) l.from (l.at - l.from);
}

abbrev pub decreases-loop-at : goal.decreases-loop-at
decreases-loop-at l = length l.text - l.at
