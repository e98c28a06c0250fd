-- What the commits of scopes and of changes, and the marks, ask of their seat, and what they leave
-- it.
use Rattle.std.specs.Prelude.{◌≡◌, ℕ, List, length, Option, Some}
use Rattle.std.specs.List.{position}
use Rattle.dioc_terms.specs.declared.entries.Act.{Act}
use Rattle.dioc_terms.specs.declared.entries.Act.TheVariants as act
use Rattle.dioc_terms.specs.declared.entries.Entry.{Entry}
use Rattle.dioc_terms.specs.declared.names.Role.{Role}
use Rattle.dioc_terms.specs.declared.processes.ScopeHead.{ScopeHead}
use Rattle.dioc_terms.specs.Stores.{Store}
use Rattle.process_steps.specs.Steps.{Deed, Given, entry_of}
use Rattle.turn_lock.specs.declared.views.View.{View}
use Rattle.turn_lock.specs.Views.{number}
use Rattle.stage.specs.Begins.{CanBegin, begin_in, update_in}
use Rattle.stage.specs.Changes.{next_entry}
use Rattle.stage.specs.Faults.{comes_now, feeder_fault, role_fault}
use Rattle.stage.specs.Homes.{HasEnded, HomeState, IsCut}
use Rattle.stage.specs.Owners.{cast_place}
use Rattle.stage.specs.Seats.{Base, Added, Committed, IsFound, LookedOn}

-- the seat is that of the head's leader, which can begin the scope after what the seat has seen,
-- with this store
abbrev pub CanCommitScope : View Entry Base → ScopeHead → Store → Type 0
CanCommitScope v head s =
    (base : Base) → v.base ≡ Some base
    → (number v ≡ cast_place base.0.cast head.leader) × CanBegin base.0 v.seen head s

-- A commit began the scope of this head: the update is the one that the book of the home that was
-- found chooses for it, none where the scope keeps its body, and the entry shows it.
pub record CommittedScope (v w : View Entry Base) (head : ScopeHead) (s : Store)
    (update : Option (ℕ × ℕ)) : Type 0 where
  pub given : Given
  pub deed : Deed
  pub done : Committed role_fault v w head.leader (act.Scope head.index) given deed
  pub chosen : update ≡ update_in done.added.home head s
  pub shows : entry_of deed ≡ begin_in done.added.home head s

-- the seat is the feeder's
abbrev pub IsFeeder : View Entry Base → Type 0
IsFeeder v = (base : Base) → v.base ≡ Some base → number v ≡ length base.0.cast

-- a commit made the script's next change of the home that was found
pub record CommittedChange (v w : View Entry Base) : Type 0 where
  pub entry : Entry
  pub added : Added feeder_fault v w entry
  pub next : next_entry added.home ≡ Some entry

-- the seat is that of the role, whose process has ended after what the seat has seen
abbrev pub HasFinished : View Entry Base → Role → Type 0
HasFinished v q =
    (base : Base) → v.base ≡ Some base
    → (number v ≡ cast_place base.0.cast q) × HasEnded base.0 v.seen q

-- what the seat has seen has as many entries as it may, and the network has not ended after it
abbrev pub SawLimit : View Entry Base → Type 0
SawLimit v = (base : Base) → v.base ≡ Some base → IsCut base.0 base.1 v.seen

-- the seat has looked on, and has seen the whole history of the home that was found
pub record SawHome (v w : View Entry Base) : Type 0 where
  pub looked : LookedOn v w
  pub home : HomeState
  pub found : IsFound v w.seen home

-- the seat has looked on, and this is where the first of the acts stands whose commit the home that
-- was found doesn't refuse since it may not come yet
pub record FoundFirst (v w : View Entry Base) (acts : List Act) (first : Option ℕ) : Type 0 where
  pub looked : LookedOn v w
  pub home : HomeState
  pub found : IsFound v w.seen home
  pub first_is : first ≡ position (comes_now home) acts
