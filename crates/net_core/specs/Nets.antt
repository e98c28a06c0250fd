-- What a net shows: its bundle, the entries so far, and how many there may be.
use Rattle.std.specs.Prelude.{◌≡◌, ◌≤◌, ℕ, List, length, Some, unwrap_or}
use Rattle.dioc_terms.specs.declared.entries.Entry.{Entry}
use Rattle.dioc_terms.specs.Plain.{PlainBundle}
use Rattle.marked_laws.specs.Laws.{IsSound}
use Rattle.network_steps.specs.Network.{Network, network_run, network_start}

pub record NetState : Type 0 where
  pub bundle : PlainBundle
  pub history : List Entry
  pub limit : ℕ

-- the network of a bundle after a history
abbrev pub network_at : PlainBundle → List Entry → Network
network_at b history = unwrap_or (network_run b history) (network_start b)

abbrev pub network_of : NetState → Network
network_of net = network_at net.bundle net.history

-- what holds of every net: its bundle may run, and its history is a run of it within the limit
pub record IsSoundRun (net : NetState) : Type 0 where
  pub sound : IsSound net.bundle
  pub runs : network_run net.bundle net.history ≡ Some (network_of net)
  pub within : length net.history ≤ net.limit
