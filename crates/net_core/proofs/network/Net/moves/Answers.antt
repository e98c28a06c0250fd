-- The moves that are listed are those of the network.
use Rattle.std.proofs.Common.{◌&&◌, not, sym, ap, ◌∙◌}
use Rattle.std.specs.Prelude.{map}
use Rattle.dioc_terms.specs.Plain.{plain, setting}
use Rattle.network_steps.specs.Network.{network_ended}
use Rattle.network_steps.specs.Schedule.{change_due, moves}
use Rattle.net_core.proofs.ListLemmas.{moves_listed}
use Rattle.net_core.specs.KeptParts.{body_seen, due_seen}
use Rattle.net_core.specs.Nets.{NetState, network_of}
use Rattle.net_core.specs.Standing.{Parts}
use Rattle.net_core.proofs.network.Net.moves.Goals as goal

pub returns-in-Ok : goal.returns-in-Ok
returns-in-Ok g c =
    let i = c.self.inside in
    let parts : Parts = record { cast = i.cast; locals = map g.R.Runs.local i.roles.items; mail = i.mail; book = i.book; bodies = map body_seen i.bodies; coming = map due_seen i.coming.items; updates = i.updates; history = i.history.entries } in
    c.in-Ok.ensures
    ∙ moves_listed (plain i.of.value) i.limit parts c.self.invariant c.is_change_due-due.result
    (c.is_change_due-due.ensures
    ∙ ap (λ (net : NetState). change_due net.bundle.script (network_of net).changes (network_of net).visible && not (network_ended net.bundle.cast (network_of net))) (sym c.self.view_is))
    ∙ ap (λ (net : NetState). moves (setting net.bundle) (network_of net)) c.self.view_is
