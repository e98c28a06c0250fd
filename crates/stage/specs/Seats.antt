-- What a commit asks of its seat, and what a call of a stage leaves it.
use Rattle.std.specs.Prelude.{◌≡◌, ◌≢◌, ℕ, zero, suc, List, [], ◌∷◌, ◌++◌, false, Option, Some, None}
use Rattle.dioc_terms.specs.declared.entries.Act.{Act}
use Rattle.dioc_terms.specs.declared.entries.Entry.{Entry}
use Rattle.dioc_terms.specs.declared.names.Role.{Role}
use Rattle.dioc_terms.specs.declared.processes.Key.{Key}
use Rattle.dioc_terms.specs.Attempts.{Does}
use Rattle.dioc_terms.specs.Messages.{doer}
use Rattle.dioc_terms.specs.Plain.{PlainBundle, setting}
use Rattle.dioc_terms.specs.Processes.{Process}
use Rattle.dioc_terms.specs.Stores.{Store}
use Rattle.network_steps.specs.Network.{given_at}
use Rattle.process_steps.specs.Steps.{Deed, Given, Alone, entry_of, step, store_after}
use Rattle.turn_lock.specs.declared.views.Claim.{Claim}
use Rattle.turn_lock.specs.declared.views.View.{View}
use Rattle.turn_lock.specs.Items.{BeginsWith, Shares, claim, items_of}
use Rattle.turn_lock.specs.Views.{number, mine}
use Rattle.stage.specs.declared.faults.CommitFault.{CommitFault}
use Rattle.stage.specs.declared.faults.CommitFault.TheVariants as fault
use Rattle.stage.specs.Homes.{HomeState, IsSoundHome, with_entry}
use Rattle.stage.specs.Owners.{cast_place, owner_in}
use Rattle.stage.specs.Roles.{RoleStandsAt, CanDo, CanTake, own_deed}

-- the base of a stage's lock: its bundle, and how many entries its history may have
abbrev pub Base : Type 0
Base = PlainBundle × ℕ

-- the seat is that of the role, in a lock of this base
abbrev pub SitsFor : View Entry Base → Base → Role → Type 0
SitsFor v base q = (v.base ≡ Some base) × (number v ≡ cast_place base.0.cast q)

-- the seat is that of the role, which can do the deed after what the seat has seen
abbrev pub CanCommit : View Entry Base → Role → Act → Given → Deed → Type 0
CanCommit v q a given d =
    (base : Base) → v.base ≡ Some base
    → (number v ≡ cast_place base.0.cast q) × CanDo base.0 v.seen q a given d

-- the seat is that of the role, which offers the take of the key after what the seat has seen, and
-- keeps what comes in this variable, if in one
abbrev pub CanReceive : View Entry Base → Role → Key → Option (List ℕ) → Type 0
CanReceive v q k x =
    (base : Base) → v.base ≡ Some base
    → (number v ≡ cast_place base.0.cast q) × CanTake base.0 v.seen q k x

-- the seat is that of the role whose entry this is, which can do it alone after what the seat has
-- seen
pub record CanCommitOwn (v : View Entry Base) (e : Entry) : Type 0 where
  pub role : Role
  pub act : Act
  pub deed : Deed
  pub is_own : own_deed e ≡ Some deed
  pub who : doer e ≡ Some role
  pub can : CanCommit v role act Alone deed

-- The history begins with what the seat has seen, and others alone have acted since: the seat's
-- own entries are all of its number, and its role stands where it stood.
pub record StillStands (v : View Entry Base) (H : List Entry) : Type 0 where
  pub begins : BeginsWith H v.seen
  pub own : (base : Base) → v.base ≡ Some base
      → items_of (owner_in base.0.cast) (number v) H ≡ mine v
  pub stands : (base : Base) (q : Role) (P : Process) (s : Store) → SitsFor v base q
      → RoleStandsAt base.0 v.seen q P s → RoleStandsAt base.0 H q P s

-- the entries of the seat's number in what it has seen are its own
abbrev pub HasMet : View Entry Base → Type 0
HasMet v =
    (base : Base) → v.base ≡ Some base
    → items_of (owner_in base.0.cast) (number v) v.seen ≡ mine v

-- the seat is as it was, but for what it has seen
pub record LookedOn (v w : View Entry Base) : Type 0 where
  pub same_base : w.base ≡ v.base
  pub same_number : number w ≡ number v
  pub same_made : w.made ≡ v.made
  pub same_mine : mine w ≡ mine v
  pub still : StillStands v w.seen

-- a home with this history, found under the lock of the seat
pub record IsFound (v : View Entry Base) (H : List Entry) (home : HomeState) : Type 0 where
  pub base : v.base ≡ Some (home.bundle, home.limit)
  pub history : home.history ≡ H
  pub sound : IsSoundHome home

-- A commit was refused for this fault: it is the first one of the home that was found, if it isn't
-- want of memory. The seat has looked on, and added nothing.
pub record RefusedFor (fault_of : HomeState → Option CommitFault) (v w : View Entry Base)
    (f : CommitFault) : Type 0 where
  pub looked : LookedOn v w
  pub home : HomeState
  pub found : IsFound v w.seen home
  pub first : f ≢ fault.Memory → fault_of home ≡ Some f

-- A commit added the entry: the home that was found has no fault, and the seat has added the entry,
-- its own, right behind what was found.
pub record Added (fault_of : HomeState → Option CommitFault) (v w : View Entry Base) (e : Entry)
    : Type 0 where
  pub same_base : w.base ≡ v.base
  pub same_number : number w ≡ number v
  pub same_made : w.made ≡ v.made
  pub one_more : mine w ≡ mine v ++ e ∷ []
  pub home : HomeState
  pub found : IsFound v home.history home
  pub free : fault_of home ≡ None
  pub begins : BeginsWith home.history v.seen
  pub seen : w.seen ≡ home.history ++ e ∷ []
  pub own : items_of (owner_in home.bundle.cast) (number w) w.seen ≡ mine w
  pub after : IsSoundHome (with_entry home e)

-- A commit did the deed: it added the deed's entry. What came to the act is what the network of the
-- home that was found has for it, and the role stands where its step took it.
pub record Committed (fault_of : HomeState → Option CommitFault) (v w : View Entry Base) (q : Role)
    (a : Act) (given : Given) (d : Deed) : Type 0 where
  pub added : Added fault_of v w (entry_of d)
  pub came : given ≡ given_at (setting added.home.bundle) added.found.sound.network q a
  pub moved : (base : Base) (P : Process) (s : Store) → SitsFor v base q
      → RoleStandsAt base.0 v.seen q P s
      → (Q : Process) × (step q s P a given ≡ Does d Q)
      × RoleStandsAt base.0 w.seen q Q (store_after d s)

-- a commit added what the role of this entry did alone
pub record CommittedOwn (fault_of : HomeState → Option CommitFault) (v w : View Entry Base)
    (e : Entry) : Type 0 where
  pub role : Role
  pub act : Act
  pub deed : Deed
  pub is_own : own_deed e ≡ Some deed
  pub who : doer e ≡ Some role
  pub done : Committed fault_of v w role act Alone deed

-- the stage was closed: its home had this history, and each entry of it is in one claim
pub record IsClosed (v : View Entry Base) (H : List Entry) (claims : List (Claim Entry)) : Type 0
  where
    pub home : HomeState
    pub found : IsFound v H home
    pub shares : Shares (owner_in home.bundle.cast) H claims

-- of the seat of a new stage that has this number
abbrev pub later_view : Base → ℕ → View Entry Base
later_view base n =
    record {
      base = Some base;
      claims = claim n [] ∷ [];
      seen = [];
      holds = false;
      made = 0;
      others_seen = [];
    }

abbrev pub later_views : Base → ℕ → ℕ → List (View Entry Base)
later_views base n zero = []
later_views base n (suc count) = later_view base n ∷ later_views base (suc n) count

-- of the seats of a new stage, numbered from 0: the first, which knows how many there are, and so
-- many others
abbrev pub opening_views : Base → ℕ → List (View Entry Base)
opening_views base count =
    record {
      base = Some base;
      claims = claim 0 [] ∷ [];
      seen = [];
      holds = false;
      made = suc count;
      others_seen = [];
    }
    ∷ later_views base 1 count
