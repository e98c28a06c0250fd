-- The first seat knows how many seats there are so far, and each of the others has the next number. There is room for all.
use Rattle.std.proofs.Common.{◌≡◌, ◌≤◌, suc, length, map, All}
use Rattle.stage.proofs.SeatingLemmas.{first_of}
use Rattle.stage.specs.declared.marks.Marks.{Marks}
use Rattle.stage.specs.Held.{IsNewWith}
use Rattle.stage.specs.Seats.{Base, later_views}
use Rattle.turn_lock.specs.Views.{first_view}
use Rattle.turn_lock.specs.Words.{view, known, IsSeatOf}
use Rattle.stage.proofs.seating.make_seats.Given as goal

abbrev pub invariant-loop-role : goal.invariant-loop-role
invariant-loop-role l = record {
  first : IsSeatOf l.turns l.first;
  others : All (λ s. IsSeatOf l.turns s) l.seats.items;
  made : (view l.first).made ≡ suc l._role-index;
  count : length l.seats.items ≡ l._role-index;
  room : length l.cast ≤ l.seats.cap;
  views : (base : Base) → view l.fn.first ≡ first_view base
      → (view l.first ≡ first_of base l._role-index) × (map view l.seats.items ≡ later_views base 1 l._role-index);
  knows : (marks : Marks) → IsNewWith marks (known l.fn.first)
      → IsNewWith marks (known l.first) × All (λ s. IsNewWith marks (known s)) l.seats.items;
}
