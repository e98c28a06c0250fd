-- What an act does at the place that does it, and to the whole.
use Rattle.std.specs.Prelude.{◌≡◌, ◌++◌, ℕ, List, Bool, true, false, Option}
use Rattle.dioc_terms.specs.declared.names.Role.{Role}
use Rattle.dioc_terms.specs.declared.entries.Act.{Act}
use Rattle.dioc_terms.specs.Attempts.{Does}
use Rattle.dioc_terms.specs.Processes.{Process}
use Rattle.dioc_terms.specs.Stores.{Store}
use Rattle.dioc_terms.specs.Values.{is_true}
use Rattle.dpoc_process.specs.Growth.{value_at}
use Rattle.dpoc_process.specs.Handed.{Handed, Brings, given_like}
use Rattle.dpoc_process.specs.RoleLaws.{local}
use Rattle.dpoc_process.specs.RoleSteps.{IsStep}
use Rattle.flat_code.specs.Codes.{process_of}
use Rattle.flat_code.specs.declared.plan.Plan.{Plan}
use Rattle.flat_role.specs.declared.marks.Mark.{Mark as KeptMark}
use Rattle.flat_role.specs.declared.marks.Mark.TheVariants as kept_marks
use Rattle.flat_role.specs.declared.progress.Progress.{Progress}
use Rattle.flat_role.specs.declared.steps.Own.{Own}
use Rattle.flat_role.specs.KeptMarks.{meant}
use Rattle.flat_role.specs.Leaves.{front, is_leaf}
use Rattle.flat_role.specs.MovedMarks.{runs_update, stays_itself}
use Rattle.flat_role.specs.PlanMarks.{low_at, mark_in, plan_layout, plan_len, plan_marks, static_at}
use Rattle.flat_role.specs.Progress.{marks_by, runs_by}
use Rattle.flat_role.specs.Replacing.{IsRoomFor, IsRoomWhen, replaces}
use Rattle.flat_role.specs.Updates.{is_fresh}
use Rattle.process_steps.specs.Steps.{Deed, Given}
use Rattle.role_statuses.specs.Entering.{entered, stop}
use Rattle.role_statuses.specs.Flat.{Marks, mark_of}
use Rattle.role_statuses.specs.Kept.{IsKept, kept, running}
use Rattle.role_statuses.specs.ListLaws.{places_of}
use Rattle.role_statuses.specs.Local.{write}
use Rattle.role_statuses.specs.Moves.{move}
use Rattle.role_statuses.specs.PlaceLaws.{IsPlaceStep, status_at, stepped}
use Rattle.role_statuses.specs.Spots.{spots}
use Rattle.role_statuses.specs.Statuses.{Status, is_over}

-- what acts at a place
abbrev pub front_in : Role → Plan → List KeptMark → ℕ → Process
front_in me plan marks place =
    front me (meant me (static_at plan place) (mark_in marks place)) (static_at plan place)

-- the place comes to this status
pub record ComesTo (me : Role) (plan : Plan) (old new : List KeptMark) (place : ℕ) (over : Bool)
    (y : Status) : Type 0 where
  pub written : plan_marks me plan new ≡ write (plan_marks me plan old) (low_at plan place) place
      (static_at plan place)
      (mark_of me y (static_at plan place))
  pub over_is : over ≡ is_over me y (static_at plan place)

-- a place of the code acts, and goes on itself
pub record IsGoing (me : Role) (plan : Plan) (marks : List KeptMark) (place : ℕ) (s : Store)
    (pick : Bool) (h : Handed) (a : Act) (d : Deed) (y : Status) : Type 0 where
  pub leaf : is_leaf (meant me (static_at plan place) (mark_in marks place)) (static_at plan place)
      ≡ true
  pub own_mark : runs_update (mark_in marks place) ≡ false
  pub picks : pick ≡ is_true (value_at s (front_in me plan marks place))
  pub stays : stays_itself (mark_in marks place) (static_at plan place) h ≡ true
  pub moves : move me s (status_at (plan_marks me plan marks) place) (static_at plan place) a
      (given_like h) ≡ Does d y

-- with all that was made ready of it
pub record IsActingBy (me : Role) (plan : Plan) (marks : List KeptMark) (place : ℕ) (s : Store)
    (own : Own) (h : Handed) (a : Act) (d : Deed) (y : Status) : Type 0 where
  pub goes : IsGoing me plan marks place s own.pick h a d y
  pub room : IsRoomWhen (is_fresh (mark_in marks place)) me (front_in me plan marks place) own.room

-- another process comes in its place
pub record IsReplacedBy (me : Role) (plan : Plan) (marks : List KeptMark) (place : ℕ) (own : Own)
    (h : Handed) : Type 0 where
  pub untouched : mark_in marks place ≡ kept_marks.Untouched
  pub room : IsRoomFor me (static_at plan place) own.room
  pub replaced : replaces (static_at plan place) h ≡ true

-- the places that can act where it goes on
abbrev pub entered_places : Role → Plan → List KeptMark → Option ℕ → List ℕ
entered_places me plan marks stop =
    places_of (entered me (plan_layout plan) (plan_marks me plan marks) stop)

-- the marks once the place has come to this status, and the constructs around it have followed
abbrev pub marks_after : Role → Plan → Progress → ℕ → Status → Marks
marks_after me plan progress place y =
    stepped me (plan_layout plan) (plan_len plan) (marks_by me plan progress) place
    (low_at plan place)
    (static_at plan place)
    y

-- where it goes on then
abbrev pub stop_after : Role → Plan → Progress → ℕ → Status → Option ℕ
stop_after me plan progress place y =
    stop me (plan_layout plan) (is_over me y (static_at plan place)) (plan_len plan)
    (write (marks_by me plan progress) (low_at plan place) place (static_at plan place)
    (mark_of me y (static_at plan place)))
    place

-- the place did the act, and has this as its marks and its store: it came to a status with which
-- the marks around it hang together, and the whole did what the definition says
pub record IsActed (me : Role) (plan : Plan) (progress : Progress) (s t : Store) (a : Act)
    (h : Handed) (place : ℕ) (marks : List KeptMark) (over : Bool) : Type 0 where
  pub y : Status
  pub comes : ComesTo me plan progress.marks.items marks place over y
  pub keeps : IsKept me (marks_after me plan progress place y) (process_of plan.code)
  pub lists : (S : IsPlaceStep me (plan_layout plan) (plan_len plan) (marks_by me plan progress)
      (process_of plan.code) a place)
      → spots me 0 (kept (marks_after me plan progress place y) 0 (process_of plan.code))
      (process_of plan.code) ≡ S.before ++ (entered me (plan_layout plan)
      (marks_after me plan progress place y) (stop_after me plan progress place y) ++ S.behind)
  pub steps : (given : Given) → Brings (local me (runs_by me plan progress) s) a h given
      → IsStep (local me (runs_by me plan progress) s) a given
      (local me (running me (marks_after me plan progress place y) (process_of plan.code)) t)
