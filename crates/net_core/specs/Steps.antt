-- What a step of a net and a change of the script are, and their faults.
use Rattle.std.specs.Prelude.{◌≡◌, ℕ, [], ◌∷◌, ◌++◌, length, nat_le, Option, Some, None, option_and_then, slice_get}
use Rattle.dioc_terms.specs.declared.names.Role.{Role}
use Rattle.dioc_terms.specs.declared.entries.Act.{Act}
use Rattle.dioc_terms.specs.Plain.{setting}
use Rattle.network_steps.specs.Network.{NextNetwork, act_step, network_ended}
use Rattle.network_steps.specs.declared.moves.StepFault.{StepFault}
use Rattle.net_laws.specs.Net.{first_fault, is_offered_by}
use Rattle.network_steps.specs.Schedule.{is_ready}
use Rattle.net_core.specs.Nets.{NetState, network_of}

-- the first fault of a step, none where it can be done
abbrev pub fault_of : NetState → Role → Act → Option StepFault
fault_of net q a =
    first_fault (network_ended net.bundle.cast (network_of net))
    (nat_le net.limit (length net.history))
    (is_offered_by net.bundle (network_of net) q a) (is_ready (network_of net) a)

-- the same of the role at a place of the cast, none where no role stands there
abbrev pub fault_at : NetState → ℕ → Act → Option StepFault
fault_at net place a = option_and_then (λ q. fault_of net q a) (slice_get net.bundle.cast place)

-- the net went on by this outcome
pub record GoesOn (old : NetState) (outcome : NextNetwork) (new : NetState) : Type 0 where
  pub history : new.history ≡ old.history ++ outcome.entry ∷ []
  pub network : network_of new ≡ outcome.network
  pub bundle : new.bundle ≡ old.bundle
  pub limit : new.limit ≡ old.limit

-- the net has made the step of this act of this role
pub record IsStepOf (old : NetState) (q : Role) (a : Act) (new : NetState) : Type 0 where
  pub outcome : NextNetwork
  pub no_fault : fault_of old q a ≡ None
  pub steps : act_step (setting old.bundle) (network_of old) q a ≡ Some outcome
  pub goes : GoesOn old outcome new

-- the net has made the step of this act of the role at this place of the cast
pub record IsStepAt (old : NetState) (place : ℕ) (a : Act) (new : NetState) : Type 0 where
  pub role : Role
  pub here : slice_get old.bundle.cast place ≡ Some role
  pub is : IsStepOf old role a new
