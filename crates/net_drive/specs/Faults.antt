-- Why a run isn't resumed to its last entry, and why a trace isn't driven.
use Rattle.std.specs.Prelude.{◌≡◌, ◌≤◌, ◌<◌, ℕ, List, length, take, Some}
use Rattle.dioc_terms.specs.declared.entries.Entry.{Entry}
use Rattle.dioc_terms.specs.Plain.{PlainBundle}
use Rattle.net_drive.specs.declared.resuming.ResumeFault.{ResumeFault}
use Rattle.net_drive.specs.declared.resuming.ResumeFault.TheVariants as fault
use Rattle.net_drive.specs.declared.traces.DriveFault.{DriveFault}
use Rattle.net_drive.specs.declared.traces.DriveFault.TheVariants as drive_fault
use Rattle.net_drive.specs.Strays.{IsDriveStray, drive_stray}
use Rattle.net_drive.specs.Resumed.{IsFirstStray, IsNetAfter, run_stray}

module _ {R : Type 0} where
  -- there are more entries than the limit, and the net is the one after as many as that
  abbrev pub FullAt : PlainBundle → List Entry → ℕ → ResumeFault R → Type 0
  FullAt b entries limit (fault.Full net) =
      (limit < length entries) × IsNetAfter b (take limit entries) limit net
  FullAt b entries limit _ = Unit {0}

  -- the entry of this number is within the limit, and the first that the network can't do
  abbrev pub StraysAt : PlainBundle → List Entry → ℕ → ResumeFault R → Type 0
  StraysAt b entries limit (fault.Stray n) = (n ≤ limit) × IsFirstStray b entries n
  StraysAt b entries limit _ = Unit {0}

  -- the number is that of the first stray among as many entries as the limit allows
  abbrev pub StrayCounted : PlainBundle → List Entry → ℕ → ResumeFault R → Type 0
  StrayCounted b entries limit (fault.Stray n) = run_stray b (take limit entries) ≡ Some n
  StrayCounted b entries limit _ = Unit {0}

-- the entry of this number is the first that makes a trace that isn't both played and settled
abbrev pub LostAt : PlainBundle → List Entry → DriveFault → Type 0
LostAt b trace (drive_fault.Stray n) = IsDriveStray b trace n
LostAt b trace _ = Unit {0}

-- the number is that of the first entry with which the trace has no driven history
abbrev pub LostCounted : PlainBundle → List Entry → DriveFault → Type 0
LostCounted b trace (drive_fault.Stray n) = drive_stray b trace ≡ Some n
LostCounted b trace _ = Unit {0}
