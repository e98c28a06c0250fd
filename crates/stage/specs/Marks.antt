-- The marks of a home, and what they become.
use Rattle.std.specs.Prelude.{◌≡◌, ℕ, true, Some, slice_get, slice_set}
use Rattle.std.specs.Option.{option_or}
use Rattle.dioc_terms.specs.declared.names.Role.{Role}
use Rattle.stage.specs.declared.faults.Why.{Why}
use Rattle.stage.specs.declared.marks.Marks.{Marks}
use Rattle.stage.specs.Homes.{HomeState}
use Rattle.stage.specs.Owners.{cast_place}

abbrev pub marks_of : HomeState → Marks
marks_of home = record { finished = home.finished; stopped = home.stopped }

-- the role is marked as finished, at its place of the cast; one that isn't there is marked nowhere
abbrev pub with_finished : HomeState → Role → HomeState
with_finished home q =
    record home { finished = slice_set home.finished (cast_place home.bundle.cast q) true }

-- a stop mark is kept: the first stays
abbrev pub with_stop : HomeState → Why → HomeState
with_stop home why = record home { stopped = option_or home.stopped (Some why) }

-- each mark that stood still stands
pub record MarksGrow (m n : Marks) : Type 0 where
  pub stop : (why : Why) → m.stopped ≡ Some why → n.stopped ≡ Some why
  pub finish : (place : ℕ) → slice_get m.finished place ≡ Some true
      → slice_get n.finished place ≡ Some true

abbrev pub marks_stay : (m : Marks) → MarksGrow m m
marks_stay m = record { stop = λ why h. h; finish = λ place h. h }

abbrev pub marks_go_on : (a b c : Marks) → MarksGrow a b → MarksGrow b c → MarksGrow a c
marks_go_on a b c first next =
    record {
      stop = λ why h. next.stop why (first.stop why h);
      finish = λ place h. next.finish place (first.finish place h);
    }
