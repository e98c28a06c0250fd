-- What is pending in the mail is pending in the network.
use Rattle.std.proofs.Common.{ap, ◌∙◌}
use Rattle.std.specs.Prelude.{map}
use Rattle.dioc_terms.specs.Plain.{plain}
use Rattle.network_steps.specs.Schedule.{is_ready}
use Rattle.net_core.proofs.PlacesLemmas.{there_is}
use Rattle.net_core.specs.KeptParts.{body_seen, due_seen}
use Rattle.net_core.specs.Nets.{NetState, network_of}
use Rattle.net_core.specs.Standing.{Parts}
use Rattle.net_core.proofs.network.Net.is_ready.Goals as goal

pub returns : goal.returns
returns g c =
    let i = c.self.inside in
    let parts : Parts = record { cast = i.cast; locals = map g.R.Runs.local i.roles.items; mail = i.mail; book = i.book; bodies = map body_seen i.bodies; coming = map due_seen i.coming.items; updates = i.updates; history = i.history.entries } in
    c.is_there.ensures ∙ there_is (plain i.of.value) i.limit parts c.self.invariant c.args.act.now
    ∙ ap (λ (net : NetState). is_ready (network_of net) c.args.act.now) c.self.view_is
