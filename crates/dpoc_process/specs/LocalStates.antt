-- A role with what it does and what it holds: all of a run that is its own.
use Rattle.std.specs.Prelude.{◌≡◌, ℕ, List, ◌++◌, false, Some, drop, slice_get, take}
use Rattle.dioc_terms.specs.declared.names.Role.{Role}
use Rattle.dioc_terms.specs.declared.entries.Act.{Act}
use Rattle.dioc_terms.specs.Attempts.{Attempt}
use Rattle.dioc_terms.specs.Processes.{Process}
use Rattle.dioc_terms.specs.Stores.{Store}
use Rattle.process_steps.specs.Steps.{Deed, Given, is_offered, offers, step, store_after}

pub record LocalState : Type 0 where
  pub role : Role
  pub process : Process
  pub store : Store

-- the acts that the role can do next
abbrev pub offered : LocalState → List Act
offered s = offers s.role s.process

-- these acts are all of those but some, which stand one behind the other at this place
abbrev pub LacksAt : ℕ → List Act → List Act → Type 0
LacksAt at acts all = (news : List Act) × (all ≡ take at acts ++ (news ++ drop at acts))

-- the act has this number among these, counted from 0: it stands there, and not before
pub record IsNumbered (number : ℕ) (a : Act) (acts : List Act) : Type 0 where
  pub stands : slice_get acts number ≡ Some a
  pub first : is_offered a (take number acts) ≡ false

-- its step by an act
abbrev pub step_at : LocalState → Act → Given → Attempt Deed Process
step_at s a given = step s.role s.store s.process a given

-- the role once this is done
abbrev pub local_done : LocalState → Deed → Process → LocalState
local_done s d P = record { role = s.role; process = P; store = store_after d s.store }
