-- How the roles of a stage end, said of what their seats have seen.
use Rattle.std.specs.Prelude.{◌≡◌, ℕ, List, [], ◌∷◌, length, false, Some, slice_get}
use Rattle.dioc_terms.specs.declared.entries.Entry.{Entry}
use Rattle.dioc_terms.specs.declared.names.Role.{Role}
use Rattle.dioc_terms.specs.Plain.{PlainBundle}
use Rattle.dioc_terms.specs.Processes.{Process}
use Rattle.dioc_terms.specs.Stores.{Store}
use Rattle.network_steps.specs.Network.{Network, network_run}
use Rattle.process_steps.specs.Steps.{ended}
use Rattle.role_runner.specs.Ties.{WentOn}
use Rattle.stage.specs.Homes.{HasEnded}
use Rattle.stage.specs.Roles.{RoleStandsAt}
use Rattle.stage.specs.Seats.{Base}
use Rattle.turn_lock.specs.declared.views.View.{View}

-- all seats went on, each at its place
abbrev pub AllWent : List (View Entry Base) → List (View Entry Base) → Type 0
AllWent [] [] = Unit {0}
AllWent (v ∷ vs) (w ∷ ws) = WentOn v w × AllWent vs ws
AllWent _ _ = ⊥

-- the network of the bundle can do the entries, one after another
pub record IsRun (b : PlainBundle) (H : List Entry) : Type 0 where
  pub network : Network
  pub runs : network_run b H ≡ Some network

-- each role's process has ended after what its seat has seen
abbrev pub AllEnded : PlainBundle → List (View Entry Base) → Type 0
AllEnded b views =
    (i : ℕ) (q : Role) (v : View Entry Base) → slice_get b.cast i ≡ Some q
    → slice_get views i ≡ Some v → HasEnded b v.seen q

-- some role's seat has seen as many entries as there may be, and the role's process has not ended
-- after them
pub record SomeCut (b : PlainBundle) (limit : ℕ) (views : List (View Entry Base)) : Type 0 where
  pub place : ℕ
  pub role : Role
  pub view : View Entry Base
  pub at : slice_get b.cast place ≡ Some role
  pub here : slice_get views place ≡ Some view
  pub full : length view.seen ≡ limit
  pub process : Process
  pub store : Store
  pub stands : RoleStandsAt b view.seen role process store
  pub goes : ended process ≡ false
