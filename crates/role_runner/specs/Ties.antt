-- What ties a role's own state, outside the lock, to its seat, and what a call leaves of both.
use Rattle.std.specs.Prelude.{◌≡◌, ◌≢◌, ℕ, Bool, true, false, Option, Some}
use Rattle.dioc_terms.specs.declared.entries.Act.{Act}
use Rattle.dioc_terms.specs.declared.entries.Entry.{Entry}
use Rattle.dioc_terms.specs.declared.names.Role.{Role}
use Rattle.dioc_terms.specs.Equality.{member}
use Rattle.dioc_terms.specs.Plain.{PlainBundle}
use Rattle.dpoc_process.specs.declared.runs.Got.{Got}
use Rattle.dpoc_process.specs.Handed.{handed, Brings, IsEnabled}
use Rattle.dpoc_process.specs.LocalStates.{LocalState}
use Rattle.dpoc_process.specs.RoleSteps.{IsStep}
use Rattle.process_steps.specs.Steps.{Given}
use Rattle.role_runner.specs.declared.acting.Tried.{Tried}
use Rattle.role_runner.specs.declared.acting.Tried.TheVariants.{Behind, Done, Refused}
use Rattle.stage.specs.Faults.{act_fault}
use Rattle.stage.specs.declared.faults.CommitFault.{CommitFault}
use Rattle.stage.specs.declared.faults.CommitFault.TheVariants.{Full, Memory, NotYet}
use Rattle.stage.specs.Holds.{SawLimit}
use Rattle.stage.specs.Homes.{HomeState}
use Rattle.stage.specs.Owners.{cast_place}
use Rattle.stage.specs.Roles.{RoleStandsAt}
use Rattle.stage.specs.Seats.{Base, HasMet, LookedOn, RefusedFor}
use Rattle.turn_lock.specs.declared.views.View.{View}
use Rattle.turn_lock.specs.Views.{number}

-- the seat has this number, in a stage of this bundle
pub record IsSeated (bundle : PlainBundle) (place : ℕ) (v : View Entry Base) : Type 0 where
  pub limit : ℕ
  pub base : v.base ≡ Some (bundle, limit)
  pub number_is : number v ≡ place
  pub met : HasMet v

-- The seat is that of a role of the cast, in a stage of this bundle. The role's own state is where
-- the role stands after what the seat has seen.
pub record IsTied (bundle : PlainBundle) (q : Role) (v : View Entry Base) (local : LocalState)
    : Type 0
  where
    pub limit : ℕ
    pub base : v.base ≡ Some (bundle, limit)
    pub in_cast : member q bundle.cast ≡ true
    pub number_is : number v ≡ cast_place bundle.cast q
    pub met : HasMet v
    pub role : local.role ≡ q
    pub stands : RoleStandsAt bundle v.seen q local.process local.store

-- a seat went on: it is in the same lock, under the same number, knows of as many seats, and has
-- met its own entries
pub record WentOn (v w : View Entry Base) : Type 0 where
  pub base : w.base ≡ v.base
  pub number_is : number w ≡ number v
  pub made : w.made ≡ v.made
  pub met : HasMet w

-- What a try of an act leaves of a seat and of its role's state: they are tied, but where the role
-- is behind what it has committed. A try that was refused for a full history has seen it so.
pub record Leaves (bundle : PlainBundle) (q : Role) (v w : View Entry Base) (tried : Tried)
    (local : LocalState) : Type 0 where
  pub went : WentOn v w
  pub tied : tried ≢ Behind → IsTied bundle q w local
  pub full : tried ≡ Refused Full → SawLimit w

-- of a try that was refused, what holds of the fault
abbrev pub IfRefused : Tried → (CommitFault → Type 0) → Type 0
IfRefused (Refused f) P = P f
IfRefused _ P = Unit {0}

-- a refused try left the role as it was; if memory wasn't wanting, the act was refused in one hold
pub record IsRefusedTry (a : Act) (v w : View Entry Base) (old new : LocalState) (f : CommitFault)
    : Type 0 where
  pub same : new ≡ old
  pub held : f ≢ Memory → RefusedFor (act_fault a) v w f

-- the act may come later, and nothing else is amiss
abbrev pub is_not_yet : Tried → Bool
is_not_yet (Refused NotYet) = true
is_not_yet _ = false

-- the seat was refused for this fault in a hold, and has only looked on before it and since
pub record RefusedIn (fault_of : HomeState → Option CommitFault) (v w : View Entry Base)
    (f : CommitFault) : Type 0 where
  pub before : View Entry Base
  pub after : View Entry Base
  pub came : LookedOn v before
  pub refused : RefusedFor fault_of before after f
  pub left : LookedOn after w

-- the seat went on until it was refused for this fault in a hold, and has only looked on since
pub record LeftFor (fault_of : HomeState → Option CommitFault) (v w : View Entry Base)
    (f : CommitFault) : Type 0 where
  pub before : View Entry Base
  pub after : View Entry Base
  pub came : WentOn v before
  pub refused : RefusedFor fault_of before after f
  pub left : LookedOn after w

-- A commit of the act was made: with what came the role can do it, and where it has, its state is
-- tied to the seat.
pub record IsCommitted (bundle : PlainBundle) (q : Role) (v w : View Entry Base) (s : LocalState)
    (a : Act) (got : Got) : Type 0 where
  pub enabled : IsEnabled s a (handed got)
  pub given : Given
  pub brings : Brings s a (handed got) given
  pub leaves : (next : LocalState) → IsStep s a given next → Leaves bundle q v w Done next

-- a commit of the act was refused for this fault, and the role's state is tied to the seat still
pub record IsUncommitted (bundle : PlainBundle) (q : Role) (v w : View Entry Base) (s : LocalState)
    (a : Act) (f : CommitFault) : Type 0 where
  pub leaves : Leaves bundle q v w (Refused f) s
  pub tried : IsRefusedTry a v w s s f
