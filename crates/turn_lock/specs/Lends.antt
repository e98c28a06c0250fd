-- What a turn ends as, where a `&mut` to its value is returned.
use Rattle.std.specs.Borrow.{Lends, Fml, MutBor, RattleType}
use Rattle.turn_lock.specs.declared.chronicle.Chronicle.{Ghosts}
use Rattle.turn_lock.specs.declared.turns.Turn.{Turn}
use Rattle.turn_lock.specs.contracts.turns.Turn.{the_row}

abbrev pub with_home : {H I B M : Type 0} {g : Ghosts H I B M} → Turn H I B M g → H
    → Turn H I B M g
with_home turn home = record turn { home = home }

module _ (H I B M : RattleType) (g : Ghosts H.Denot I.Denot B.Denot M.Denot) where
  -- the turn has the value that is written last
  abbrev pub LendsHome : MutBor (Turn H.Denot I.Denot B.Denot M.Denot g) → MutBor H.Denot → Fml
  LendsHome turn home = Lends (the_row H I B M g) H turn home (with_home turn.now)
