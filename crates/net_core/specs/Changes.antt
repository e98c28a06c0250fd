-- What a change of the script is for a net, and its faults.
use Rattle.std.specs.Prelude.{◌≡◌, ℕ, length, nat_le, nat_lt, Option, Some, None, if◌then◌else◌, slice_get}
use Rattle.dioc_terms.specs.declared.bundles.Timed.{Timed}
use Rattle.dioc_terms.specs.Plain.{setting}
use Rattle.network_steps.specs.Network.{NextNetwork, change_step}
use Rattle.net_core.specs.declared.faults.ChangeFault.{ChangeFault}
use Rattle.net_core.specs.declared.faults.ChangeFault.TheVariants.{Full, NoMore, NotYet}
use Rattle.net_core.specs.Nets.{NetState, network_of}
use Rattle.net_core.specs.Steps.{GoesOn}

-- the first fault of the script's next change, with so many visible entries: there is none, or it
-- isn't due
abbrev pub script_fault : Option Timed → ℕ → Option ChangeFault
script_fault None visible = Some NoMore
script_fault (Some timed) visible = if nat_lt visible timed.after then Some NotYet else None

-- the first fault of a change, none where it can be done
abbrev pub change_fault : NetState → Option ChangeFault
change_fault net =
    if nat_le net.limit (length net.history) then Some Full else script_fault
    (slice_get net.bundle.script (network_of net).changes) (network_of net).visible

-- the net has made the script's next change
pub record IsChangeOf (old new : NetState) : Type 0 where
  pub outcome : NextNetwork
  pub no_fault : change_fault old ≡ None
  pub steps : change_step (setting old.bundle) (network_of old) ≡ Some outcome
  pub goes : GoesOn old outcome new
