-- What contracts read of a lock, a seat and a turn.
use Rattle.std.specs.Prelude.{◌≡◌, ℕ, ◌<◌, List, length, IfSome, slice_get}
use Rattle.turn_lock.specs.declared.chronicle.Chronicle.{Ghosts}
use Rattle.turn_lock.specs.declared.views.Claim.{Claim}
use Rattle.turn_lock.specs.declared.views.View.{View}
use Rattle.turn_lock.specs.declared.views.Known.{Known}
use Rattle.turn_lock.specs.declared.turns.Turns.{Turns}
use Rattle.turn_lock.specs.declared.turns.Seat.{Seat}
use Rattle.turn_lock.specs.declared.turns.Turn.{Turn}
use Rattle.turn_lock.specs.Items.{claim}
use Rattle.turn_lock.specs.Views.{number, mine}

module _ {H I B M : Type 0} {g : Ghosts H I B M} where
  -- what the seat knows of the lock
  abbrev pub view : Seat H I B M g → View I B
  view seat = seat.token.me.0.view

  -- the same of the seat that has the turn
  abbrev pub turn_view : Turn H I B M g → View I B
  turn_view turn = turn.hold.token.me.0.view

  -- what the seat knows of the lock and the mark
  abbrev pub known : Seat H I B M g → Known I B M
  known seat = seat.token.me.0

  -- the same of the seat that has the turn
  abbrev pub turn_known : Turn H I B M g → Known I B M
  turn_known turn = turn.hold.token.me.0

  abbrev pub IsSeatOf : Turns H I B M → Seat H I B M g → Type 0
  IsSeatOf turns seat = seat.token.table_id ≡ turns.table.shared.table_id

  abbrev pub IsTurnOf : Turns H I B M → Turn H I B M g → Type 0
  IsTurnOf turns turn = turn.hold.token.table_id ≡ turns.table.shared.table_id

  -- the seat's number, and its own items
  abbrev pub claim_of : Seat H I B M g → Claim I
  claim_of seat = claim (number (view seat)) (mine (view seat))

  -- one of the seats has made as many as there are here, and this holds of what it knows
  abbrev pub FirstIs : (View I B → Type 0) → List (Seat H I B M g) → Type 0
  FirstIs P seats =
      (place : ℕ) × (place < length seats)
      × IfSome (slice_get seats place) (λ s. ((view s).made ≡ length seats) × P (view s))
