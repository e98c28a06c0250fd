-- The rule of the tickets, which holds between any two steps, and what a draw tells its drawer. The
-- one word is the next ticket.
use Rattle.std.specs.Prelude.{◌≡◌, ℕ, ◌*◌, ◌<◌, ◌≤◌, [], ◌∷◌, length}
use mathlib.Core.Option.{some}
use lib.ListN.{get_elem?}
use Rattle.atomic_table.specs.Table.{State, Me, Step}
use Rattle.ticket_table.specs.declared.views.View.{View}
use Rattle.ticket_table.specs.Counts.{total, times}
use Rattle.ticket_table.specs.Views.{with_ticket}

-- how many tickets a part may draw
abbrev pub most_of_part : ℕ
most_of_part = 2147483648

abbrev pub most_parts : ℕ
most_parts = 4294967296

-- of views that have so many parts together
pub record TicketRule (parts : ℕ) (s : State (Unit {0}) View) : Type 0 where
  pub next : ℕ
  pub word : s.words ≡ next ∷ []
  pub most : parts ≤ most_parts
  pub whole : total (λ (v : View). v.parts) s.views ≡ parts
  pub count : total (λ (v : View). length v.drawn) s.views ≡ next
  -- each ticket below the word was drawn once, and no other was
  pub once : (n : ℕ) → n < next → total (λ (v : View). times n v.drawn) s.views ≡ 1
  pub none : (n : ℕ) → next ≤ n → total (λ (v : View). times n v.drawn) s.views ≡ 0
  -- a view draws no more than its parts may, and without a part none
  pub few : (j : ℕ) (v : View) → get_elem? s.views j ≡ some v
      → length v.drawn ≤ v.parts * most_of_part

-- the number found is the drawer's, and is no less than the count of those that it had
pub record Drew (step : Step (Unit {0})) (before : Me (Unit {0}) View) (found : ℕ)
    (after : Me (Unit {0}) View) : Type 0 where
  pub drawn : after ≡ (with_ticket before.0 found, before.1)
  pub beyond : length before.0.drawn ≤ found
