-- How far a role over code has come.
use Rattle.std.specs.Prelude.{◌≡◌, ◌≤◌, ◌++◌, ◌∷◌, ℕ, List, Bool, true, false, length, map, vec_capacity}
use Rattle.std.specs.List.{list_any}
use Rattle.dioc_terms.specs.declared.names.Role.{Role}
use Rattle.dioc_terms.specs.declared.entries.Act.{Act}
use Rattle.dioc_terms.specs.Processes.{Process}
use Rattle.flat_code.specs.Codes.{process_of}
use Rattle.flat_code.specs.declared.plan.Plan.{Plan}
use Rattle.dioc_terms.specs.contracts.names.Role as contracts
use Rattle.std.specs.Coded.{Coded-set, Unit-prop, Π_prop}
use Rattle.flat_role.specs.declared.marks.Mark.{Mark as KeptMark}
use Rattle.flat_role.specs.declared.marks.Mark.TheVariants as kept_marks
use Rattle.flat_role.specs.declared.progress.Progress.{Progress}
use Rattle.flat_role.specs.PlanMarks.{mark_in, plan_layout, plan_len, plan_marks, static_at}
use Rattle.process_steps.specs.Steps.{is_offered}
use Rattle.role_statuses.specs.Flat.{Marks}
use Rattle.role_statuses.specs.Kept.{IsKept, running}
use Rattle.role_statuses.specs.ListLaws.{active, spot_at}
use Rattle.role_statuses.specs.PlaceLaws.{status_at}
use Rattle.role_statuses.specs.Spots.{acts_of}
use Rattle.role_statuses.specs.Statuses.{leaves}

-- the marks, as laws on marks see them
abbrev pub marks_by : Role → Plan → Progress → Marks
marks_by me plan progress = plan_marks me plan progress.marks.items

-- the process that runs
abbrev pub runs_by : Role → Plan → Progress → Process
runs_by me plan progress = running me (marks_by me plan progress) (process_of plan.code)

-- an update there is one of this role
abbrev pub IsOf : Role → KeptMark → Type 0
IsOf me (kept_marks.Became update) = update.value.role ≡ me
IsOf me m = Unit {0}

IsOf-prop : (me : Role) (m : KeptMark) → IsProp (IsOf me m)
IsOf-prop me (kept_marks.Became update) = Coded-set contracts.the_row.coded update.value.role me
IsOf-prop me m = Unit-prop

-- and so are all that these marks hold
abbrev pub AreOf : Role → List KeptMark → Type 0
AreOf me marks = (place : ℕ) → IsOf me (mark_in marks place)

pub AreOf-prop : (me : Role) (marks : List KeptMark) → IsProp (AreOf me marks)
AreOf-prop me marks = Π_prop (λ place. IsOf-prop me (mark_in marks place))

-- a mark for each place, which hang together; the places that can act, from left to right; and room
-- for as many places as there are
pub record IsProgress (me : Role) (plan : Plan) (progress : Progress) : Type 0 where
  pub as_long : length progress.marks.items ≡ plan_len plan
  pub kept : IsKept me (marks_by me plan progress) (process_of plan.code)
  pub listed : progress.active.items
      ≡ active me (marks_by me plan progress) (process_of plan.code)
  pub room : plan_len plan ≤ vec_capacity progress.active
  pub spare : plan_len plan ≤ vec_capacity progress.fresh
  pub mine : AreOf me progress.marks.items

-- the acts that a place offers, by its own mark and static process
abbrev pub acts_there : Role → Plan → Marks → ℕ → List Act
acts_there me plan marks place = leaves me (status_at marks place) (static_at plan place)

-- those that these places offer
abbrev pub acts_at : Role → Plan → Progress → List ℕ → List Act
acts_at me plan progress ps =
    acts_of (map (spot_at me (plan_layout plan) (marks_by me plan progress)) ps)

-- whether a place offers the act
abbrev pub offers_there : Role → Plan → Marks → Act → ℕ → Bool
offers_there me plan marks a place = is_offered a (acts_there me plan marks place)

-- the first place that offers the act, and where it stands in the list of those that can act
pub record IsFound (me : Role) (plan : Plan) (progress : Progress) (a : Act)
    (at place : ℕ) : Type 0 where
  pub before : List ℕ
  pub behind : List ℕ
  pub stands : progress.active.items ≡ before ++ place ∷ behind
  pub is_at : at ≡ length before
  pub none_before : list_any (offers_there me plan (marks_by me plan progress) a) before ≡ false
  pub offers : offers_there me plan (marks_by me plan progress) a place ≡ true
