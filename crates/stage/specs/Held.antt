-- What one hold found under the lock and what it left there, the marks included, as the seat knows
-- it.
use Rattle.std.specs.Prelude.{◌≡◌, ◌≢◌, ◌+◌, Option, Some, None}
use Rattle.dioc_terms.specs.declared.entries.Entry.{Entry}
use Rattle.turn_lock.specs.declared.views.Known.{Known}
use Rattle.stage.specs.declared.faults.CommitFault.{CommitFault}
use Rattle.stage.specs.declared.faults.CommitFault.TheVariants as fault
use Rattle.stage.specs.declared.marks.Marks.{Marks}
use Rattle.stage.specs.Homes.{HomeState, IsSoundHome, with_entry}
use Rattle.stage.specs.Marks.{MarksGrow, marks_of}
use Rattle.stage.specs.Seats.{Base}

-- what a seat knows of a stage's lock
abbrev pub KnownHere : Type 0
KnownHere = Known Entry Base Marks

-- the seat has had no hold, and knows these marks
abbrev pub IsNewWith : Marks → KnownHere → Type 0
IsNewWith marks k = (k.turns ≡ 0) × (k.at ≡ Some marks)

-- The seat, which knew k and knows l, has had one hold more: it found `home`, where the marks that
-- the seat knew still stand, and left `next`.
pub record HeldOnce (k l : KnownHere) (home next : HomeState) : Type 0 where
  pub base : k.view.base ≡ Some (home.bundle, home.limit)
  pub sound : IsSoundHome home
  pub grown : (m : Marks) → k.at ≡ Some m → MarksGrow m (marks_of home)
  pub one_more : l.turns ≡ k.turns + 1
  pub found : l.found ≡ Some (marks_of home)
  pub left : l.at ≡ Some (marks_of next)
  pub seen : l.view.seen ≡ next.history

-- A commit was refused for this fault in one hold, which changed nothing. It is the first fault of
-- what was found, and where memory ran out that has none.
pub record RefusedOnce (fault_of : HomeState → Option CommitFault) (k l : KnownHere)
    (f : CommitFault) : Type 0 where
  pub home : HomeState
  pub held : HeldOnce k l home home
  pub first : f ≢ fault.Memory → fault_of home ≡ Some f
  pub short : f ≡ fault.Memory → fault_of home ≡ None

-- a commit added one entry in one hold: what was found has no fault, and no mark was changed
pub record AddedOnce (fault_of : HomeState → Option CommitFault) (k l : KnownHere) : Type 0 where
  pub home : HomeState
  pub entry : Entry
  pub held : HeldOnce k l home (with_entry home entry)
  pub free : fault_of home ≡ None
