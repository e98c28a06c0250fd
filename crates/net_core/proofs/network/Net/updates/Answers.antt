-- The number of updates is the network's.
use Rattle.std.proofs.Common.{sym, ap, ◌∙◌}
use Rattle.dioc_terms.specs.Plain.{plain}
use Rattle.network_steps.specs.Network.{Network}
use Rattle.net_core.proofs.NetLemmas.{network_is}
use Rattle.net_core.specs.Nets.{NetState, network_of}
use Rattle.net_core.proofs.network.Net.updates.Goals as goal

pub returns : goal.returns
returns g c =
    let is = c.self.invariant in
    is.updates ∙ ap (λ (N : Network). N.updates) (sym (network_is (plain c.self.inside.of.value) c.self.inside.history.entries is.network is.runs))
    ∙ ap (λ (net : NetState). (network_of net).updates) c.self.view_is
