-- Who stands for all drawers has each ticket once.
use Rattle.std.proofs.Common.{◌≡◌, ℕ, ◌<◌, ◌≤◌, List, sym, ap, ◌∙◌, arith}
use mathlib.Core.Option.{some, some-injective}
use lib.ListN.{get_elem?}
use Rattle.atomic_table.specs.Table.{State, Final, Seen}
use Rattle.ticket_table.specs.declared.views.View.{View}
use Rattle.ticket_table.specs.Counts.{total, times}
use Rattle.ticket_table.specs.Rule.{TicketRule}
use Rattle.ticket_table.proofs.Totals.{total_rest, total_alone, times_none}

-- how often the one drawer has a ticket is how often all have it
alone : (parts id : ℕ) (v : View) → v.parts ≡ parts → (s : State (Unit {0}) View) → (r : TicketRule parts s) → get_elem? s.views id ≡ some v
    → (n : ℕ) → total (λ (u : View). times n u.drawn) s.views ≡ times n v.drawn
alone parts id v all s r at n =
    total_alone (λ (u : View). times n u.drawn) s.views id v at
    (λ j u ne there.
    let t = total_rest (λ (x : View). x.parts) s.views id j v u ne at there in
    let w = r.whole in
    let f = r.few j u there in
    times_none n u.drawn (omega arith))

pub closed_once : (parts id : ℕ) (v : View) (ws : List ℕ) (xs : List (Unit {0})) → v.parts ≡ parts → Final (Seen (TicketRule parts) id v) ws xs
    → (count : ℕ) → get_elem? ws 0 ≡ some count
    → ((n : ℕ) → n < count → times n v.drawn ≡ 1) × ((n : ℕ) → count ≤ n → times n v.drawn ≡ 0)
closed_once parts id v ws xs all last count found =
    let s = last.0 in
    let r = last.1.0 in
    let at = last.1.1 in
    let is : r.next ≡ count = some-injective r.next count (sym (ap (λ (l : List ℕ). get_elem? l 0) r.word) ∙ (ap (λ (l : List ℕ). get_elem? l 0) last.2 ∙ found)) in (
      λ n lt. sym (alone parts id v all s r at n) ∙ r.once n (omega arith),
      λ n le. sym (alone parts id v all s r at n) ∙ r.none n (omega arith),
    )
