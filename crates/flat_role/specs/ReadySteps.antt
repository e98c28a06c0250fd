-- What was made ready of an act of a role over code.
use Rattle.std.specs.Prelude.{◌≡◌, ℕ, Bool, false, List, Option, None, Some}
use Rattle.dioc_terms.specs.declared.names.Role.{Role}
use Rattle.dioc_terms.specs.declared.entries.Act.{Act}
use Rattle.dioc_terms.specs.Processes.{Process}
use Rattle.dioc_terms.specs.Stores.{Store}
use Rattle.dioc_terms.specs.Values.{is_true}
use Rattle.dpoc_process.specs.Acting.{acting}
use Rattle.dpoc_process.specs.Growth.{Nothing, value_at, write_at}
use Rattle.dpoc_process.specs.declared.runs.Shown.{Shown}
use Rattle.dpoc_process.specs.KeptGrowth.{write_of}
use Rattle.dpoc_process.specs.KeptReady.{IsShownFor}
use Rattle.flat_code.specs.declared.plan.Plan.{Plan}
use Rattle.flat_role.specs.declared.marks.Mark.{Mark as KeptMark}
use Rattle.flat_role.specs.declared.progress.Progress.{Progress}
use Rattle.flat_role.specs.declared.steps.Chosen.{Chosen}
use Rattle.flat_role.specs.declared.steps.Own.{Own}
use Rattle.flat_role.specs.declared.leaves.Next.{Next}
use Rattle.flat_role.specs.Leaves.{IsNext, front, is_first}
use Rattle.flat_role.specs.PlanMarks.{plan_marks, static_at}
use Rattle.flat_role.specs.Progress.{runs_by}
use Rattle.flat_role.specs.Replacing.{IsRoomWhen}
use Rattle.flat_role.specs.Updates.{IsChosenAt, fresh_by}

-- what is made ready of the part R
pub record IsOwn (me : Role) (s : Store) (R : Process) (own : Own) : Type 0 where
  pub write : write_of own.write ≡ write_at (value_at s R) R
  pub pick : own.pick ≡ is_true (value_at s R)

-- what is made ready of the part of the process that does the act, at a place where nothing was
-- done yet or where something was
pub record IsOwnOf (me : Role) (s : Store) (a : Act) (P : Process) (fresh : Bool) (own : Own)
    : Type 0 where
  pub part : Process
  pub acts : acting me a P ≡ Some part
  pub made : IsOwn me s part own
  pub room : IsRoomWhen fresh me part own.room

-- it writes nothing, picks nothing, and puts no other process in its place
pub record IsIdle (held : Option Own) : Type 0 where
  pub own : Own
  pub is : held ≡ Some own
  pub write : write_of own.write ≡ Nothing
  pub pick : own.pick ≡ false
  pub room : own.room ≡ None

-- it is kept
pub record IsKeptOwn (me : Role) (s : Store) (a : Act) (P : Process) (fresh : Bool)
    (held : Option Own) : Type 0 where
  pub own : Own
  pub is : held ≡ Some own
  pub made : IsOwnOf me s a P fresh own

-- what is shown of an act of the process P, of the part of it that acts
pub record IsShownBy (me : Role) (s : Store) (a : Act) (P : Process) (p : Shown) : Type 0 where
  pub part : Process
  pub acts : acting me a P ≡ Some part
  pub shown : IsShownFor me (value_at s part) part p

-- this is next of the part of the process that does the act, at a place where nothing was done yet
-- or where something was
pub record IsNextOf (me : Role) (a : Act) (P : Process) (fresh : Bool) (n : Next) : Type 0 where
  pub part : Process
  pub acts : acting me a P ≡ Some part
  pub stands : IsNext me n part
  pub first : is_first n ≡ fresh

-- the process that acts at a place
abbrev pub front_at : Role → Plan → List KeptMark → ℕ → Process
front_at me plan marks place =
    front me (plan_marks me plan marks place) (static_at plan place)

-- it is ready for this act
abbrev pub IsChosenFor : Role → Plan → Progress → Act → Option Chosen → Type 0
IsChosenFor me plan progress a None = ⊥
IsChosenFor me plan progress a (Some chosen) =
    (chosen.act.value ≡ a) × IsChosenAt me plan progress a chosen.at

-- the place that does it is the first that offers it, and all that its act needs was made ready
pub record IsReadyBy (me : Role) (plan : Plan) (progress : Progress) (s : Store) (a : Act)
    (own : Own) : Type 0 where
  pub chosen : IsChosenFor me plan progress a progress.chosen
  pub made : IsOwnOf me s a (runs_by me plan progress) (fresh_by progress progress.chosen) own

-- and it is kept
pub record IsKeptReady (me : Role) (plan : Plan) (progress : Progress) (s : Store) (a : Act)
    (held : Option Own) : Type 0 where
  pub own : Own
  pub kept : held ≡ Some own
  pub made : IsReadyBy me plan progress s a own
