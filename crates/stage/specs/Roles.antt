-- Where a role stands after a history, and what it can do there.
use Rattle.std.specs.Prelude.{◌≡◌, ℕ, List, Bool, true, false, Option, Some, None}
use Rattle.dioc_terms.specs.declared.names.Role.{Role}
use Rattle.dioc_terms.specs.declared.entries.Act.{Act}
use Rattle.dioc_terms.specs.declared.entries.Act.TheVariants as act
use Rattle.dioc_terms.specs.declared.entries.Entry.{Entry}
use Rattle.dioc_terms.specs.declared.entries.Entry.TheVariants as entry
use Rattle.dioc_terms.specs.declared.processes.Key.{Key}
use Rattle.dioc_terms.specs.Attempts.{Does}
use Rattle.dioc_terms.specs.Messages.{doer}
use Rattle.dioc_terms.specs.Plain.{PlainBundle}
use Rattle.dioc_terms.specs.Processes.{Process}
use Rattle.dioc_terms.specs.Stores.{Store}
use Rattle.process_steps.specs.Steps.{Deed, Sets, Inputs, Picks, Given, Alone, entry_of, is_offered, offers, step}
use Rattle.network_steps.specs.Network.{Network, network_run}

-- in the network after the history the role has this process and this store
pub record RoleStandsAt (b : PlainBundle) (H : List Entry) (q : Role) (P : Process)
    (s : Store) : Type 0 where
  pub network : Network
  pub runs : network_run b H ≡ Some network
  pub process : network.processes q ≡ P
  pub store : network.stores q ≡ s

-- the role can do the deed there, where this comes to its act from outside
pub record CanDo (b : PlainBundle) (H : List Entry) (q : Role) (a : Act) (given : Given) (d : Deed)
    : Type 0 where
  pub process : Process
  pub store : Store
  pub stands : RoleStandsAt b H q process store
  pub next : Process
  pub does : step q store process a given ≡ Does d next

-- the role offers the take of the key there, and keeps what comes in this variable, if in one
pub record CanTake (b : PlainBundle) (H : List Entry) (q : Role) (k : Key) (x : Option (List ℕ))
    : Type 0 where
  pub process : Process
  pub store : Store
  pub stands : RoleStandsAt b H q process store
  pub offers : is_offered (act.Take k) (offers q process) ≡ true
  pub shows : (given : Given) (d : Deed) (P : Process)
      → step q store process (act.Take k) given ≡ Does d P → entry_of d ≡ entry.Take k x

-- what a role does alone, by its entry
abbrev pub own_deed : Entry → Option Deed
own_deed (entry.Set i r x v) = Some (Sets i r x v)
own_deed (entry.Input i r x v) = Some (Inputs i r x v)
own_deed (entry.Pick i r b) = Some (Picks i r b)
own_deed _ = None

abbrev pub is_assignment : Entry → Bool
is_assignment (entry.Set i r x v) = true
is_assignment _ = false

abbrev pub is_input : Entry → Bool
is_input (entry.Input i r x v) = true
is_input _ = false

abbrev pub is_pick : Entry → Bool
is_pick (entry.Pick i r b) = true
is_pick _ = false

-- a role does this alone, and can do it there
pub record CanAdd (b : PlainBundle) (H : List Entry) (e : Entry) : Type 0 where
  pub role : Role
  pub act : Act
  pub deed : Deed
  pub is_own : own_deed e ≡ Some deed
  pub who : doer e ≡ Some role
  pub can : CanDo b H role act Alone deed
