-- What the thread of a seat begins with, what it leaves, and how the jobs of all roles end.
use Rattle.std.specs.Prelude.{◌≡◌, ◌≤◌, ℕ, ◌==◌, List, [], Bool, false, ◌&&◌, not, Option, Some, None, IfSome, if◌then◌else◌, length, slice_get}
use Rattle.std.specs.List.{list_all, list_any}
use Rattle.dioc_terms.specs.declared.entries.Entry.{Entry}
use Rattle.dioc_terms.specs.declared.names.Role.{Role}
use Rattle.dioc_terms.specs.declared.bundles.Bundle.{Bundle}
use Rattle.dioc_terms.specs.Plain.{PlainBundle, plain}
use Rattle.flat_role.specs.declared.states.FlatRole.{FlatRole}
use Rattle.flat_role.specs.FlatStates.{local_of}
use Rattle.marked_laws.specs.Laws.{IsSound}
use Rattle.process_steps.specs.Steps.{ended}
use Rattle.role_runner.specs.declared.threads.Ending.{Ending}
use Rattle.role_runner.specs.declared.threads.Ending.TheVariants as ending
use Rattle.role_runner.specs.declared.threads.Job.{Job}
use Rattle.role_runner.specs.Ties.{IsSeated, IsTied, WentOn}
use Rattle.stage.specs.contracts.home.HomeChronicle.TheImpl.{ghosts}
use Rattle.stage.specs.declared.stage.Stage.{Stage}
use Rattle.stage.specs.declared.marks.Marks.{Marks}
use Rattle.stage.specs.Homes.{HomeState}
use Rattle.stage.specs.Seats.{Base}
use Rattle.turn_lock.specs.declared.turns.Seat.{Seat}
use Rattle.turn_lock.specs.declared.views.View.{View}
use Rattle.stage.specs.Stages.{IsSeatIn}
use Rattle.turn_lock.specs.Words.{view}

abbrev pub HomeSeat : Type 0
HomeSeat = Seat HomeState Entry Base Marks ghosts

-- The seat has seen nothing, and is of the stage and under the number of the place: that of a role,
-- or the feeder's behind them
pub record OpensJob (stage : Stage) (bundle : PlainBundle) (place : ℕ) (seat : HomeSeat) : Type 0
  where
    pub of : IsSeatIn stage seat
    pub seated : IsSeated bundle place (view seat)
    pub fresh : (view seat).seen ≡ []
    pub within : place ≤ length bundle.cast

-- a thread can begin with each of the seats, at its place, in a run of a sound bundle
pub record CanOpen (stage : Stage) (bundle : Bundle) (seats : List HomeSeat) : Type 0 where
  pub sound : IsSound (plain bundle)
  pub few : length bundle.cast ≤ 4294967295
  pub each : (i : ℕ) → IfSome (slice_get seats i) (OpensJob stage (plain bundle) i)

-- the state is that of the role at the place, and tied to the view
pub record IsOfRole (bundle : PlainBundle) (place : ℕ) (v : View Entry Base) (state : FlatRole)
    : Type 0 where
  pub role : Role
  pub at : slice_get bundle.cast place ≡ Some role
  pub tied : IsTied bundle role v (local_of state)

-- the seat went on, and a state, where there is one, is tied to it
pub record EndsJob (stage : Stage) (bundle : PlainBundle) (place : ℕ) (seat : HomeSeat) (job : Job)
    : Type 0 where
  pub of : IsSeatIn stage job.seat
  pub went : WentOn (view seat) (view job.seat)
  pub tied : IfSome job.state (IsOfRole bundle place (view job.seat))

-- the elements of two lists at each place
abbrev pub EachAt : {A B : Type 0} → (ℕ → A → B → Type 0) → List A → List B → Type 0
EachAt {A = A} {B = B} P xs ys =
    (i : ℕ) (x : A) (y : B) → slice_get xs i ≡ Some x → slice_get ys i ≡ Some y → P i x y

abbrev pub is_done_state : Option FlatRole → Bool
is_done_state None = false
is_done_state (Some state) = ended (local_of state).process

abbrev pub has_done_state : Job → Bool
has_done_state job = is_done_state job.state

-- the seat of a job has seen so many entries
abbrev pub has_seen : ℕ → Job → Bool
has_seen limit job = length (view job.seat).seen == limit

abbrev pub is_going : Option FlatRole → Bool
is_going None = false
is_going (Some state) = not (ended (local_of state).process)

-- the role has its state, its process has not ended, and its seat has seen so many entries
abbrev pub is_cut : ℕ → Job → Bool
is_cut limit job = is_going job.state && has_seen limit job

-- how the jobs of all roles came to their end
abbrev pub ending_in : ℕ → List Job → Ending
ending_in limit jobs =
    if list_all has_done_state jobs then ending.Ended else if list_any (is_cut limit) jobs then
    ending.Limit else ending.Memory
