-- What contracts read of a stage.
use Rattle.std.specs.Prelude.{◌≡◌}
use Rattle.dioc_terms.specs.declared.entries.Entry.{Entry}
use Rattle.turn_lock.specs.declared.chronicle.Chronicle.{Ghosts}
use Rattle.turn_lock.specs.declared.turns.Seat.{Seat}
use Rattle.turn_lock.specs.Words.{IsSeatOf}
use Rattle.stage.specs.declared.marks.Marks.{Marks}
use Rattle.stage.specs.declared.stage.Stage.{Stage}
use Rattle.stage.specs.Homes.{HomeState}
use Rattle.stage.specs.Seats.{Base}

-- the seat is of the stage's lock
abbrev pub IsSeatIn : {g : Ghosts HomeState Entry Base Marks} → Stage
    → Seat HomeState Entry Base Marks g → Type 0
IsSeatIn stage seat = IsSeatOf stage.turns seat

-- the lock of both is the same, so the seats of one are those of the other
abbrev pub IsSameStage : Stage → Stage → Type 0
IsSameStage one other = one.turns ≡ other.turns
