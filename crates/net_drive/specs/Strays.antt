-- The first entry of a visible trace that keeps it from being driven.
use Rattle.std.specs.Prelude.{◌≡◌, ◌↔◌, ℕ, suc, List, [], ◌∷◌, ◌++◌, length, true, not, Option, Some, None, IsSome}
use Rattle.std.specs.List.{list_all}
use Rattle.std.specs.Option.{option_map_or}
use Rattle.dioc_terms.specs.declared.entries.Entry.{Entry}
use Rattle.dioc_terms.specs.Messages.{is_aux}
use Rattle.dioc_terms.specs.Plain.{PlainBundle}
use Rattle.global_steps.specs.Follow.{play}
use Rattle.global_steps.specs.Settled.{IsSettled}
use Rattle.marked_laws.specs.Laws.{IsSound}
use Rattle.net_drive.specs.Driven.{driven}

-- the choreography plays the trace, and it is settled
abbrev pub IsDrivable : PlainBundle → List Entry → Type 0
IsDrivable b trace = IsSome (play b trace) × IsSettled b trace

-- entry n, counted from 1, is the first that makes a trace that isn't both played and settled
pub record IsDriveStray (b : PlainBundle) (trace : List Entry) (n : ℕ) : Type 0 where
  pub before : List Entry
  pub entry : Entry
  pub later : List Entry
  pub splits : trace ≡ before ++ entry ∷ later
  pub number : n ≡ suc (length before)
  pub drivable : IsDrivable b before
  pub strays : IsDrivable b (before ++ entry ∷ []) → ⊥

-- the number, from 1, of the first entry with which the trace has no driven history, from those
-- before it
abbrev pub drive_stray_from : PlainBundle → List Entry → List Entry → Option ℕ
drive_stray_from b before [] = None
drive_stray_from b before (e ∷ es) =
    option_map_or (λ _. drive_stray_from b (before ++ e ∷ []) es) (driven b (before ++ e ∷ []))
    (Some (suc (length before)))

abbrev pub drive_stray : PlainBundle → List Entry → Option ℕ
drive_stray b trace = drive_stray_from b [] trace

-- Strays of driven traces are exact: of a trace of visible entries none is counted exactly where it
-- has a driven history, and the number that is counted is exactly that of the first stray.
pub record DriveStraysAreExact : Type 0 where
  pub none : (b : PlainBundle) (trace : List Entry) → IsSound b
      → list_all (λ e. not (is_aux e)) trace ≡ true
      → (drive_stray b trace ≡ None) ↔ IsSome (driven b trace)
  pub some : (b : PlainBundle) (trace : List Entry) (n : ℕ) → IsSound b
      → list_all (λ e. not (is_aux e)) trace ≡ true
      → (drive_stray b trace ≡ Some n) ↔ IsDriveStray b trace n
