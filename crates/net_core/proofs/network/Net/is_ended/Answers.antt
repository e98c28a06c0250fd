-- Each role has ended and no message is pending, exactly where the network has ended.
use Rattle.std.proofs.Common.{true, false, refl, ap, ◌∙◌}
use Rattle.std.specs.Prelude.{eqb, map}
use Rattle.std.proofs.lemmas.Bool.{false_from_ne_true}
use Rattle.std.proofs.lemmas.Bool.Decides.{Decides-eqb}
use Rattle.std.specs.List.{list_all}
use Rattle.dioc_terms.specs.Plain.{plain}
use Rattle.process_steps.specs.Steps.{ended}
use Rattle.net_core.proofs.NetLemmas.{ended_is}
use Rattle.net_core.specs.KeptParts.{body_seen, due_seen}
use Rattle.net_core.specs.Nets.{NetState, network_of}
use Rattle.net_core.specs.Standing.{Parts}
use Rattle.network_steps.specs.Network.{network_ended}
use Rattle.net_core.proofs.network.Net.is_ended.Goals as goal

pub returns-then-len-eq0 : goal.returns-then-len-eq0
returns-then-len-eq0 g c =
    let i = c.self.inside in
    let parts : Parts = record { cast = i.cast; locals = map g.R.Runs.local i.roles.items; mail = i.mail; book = i.book; bodies = map body_seen i.bodies; coming = map due_seen i.coming.items; updates = i.updates; history = i.history.entries } in
    c.all_done.ensures ∙ ap (list_all (λ state. ended (g.R.Runs.local state).process)) c.as_slice.ensures.value
    ∙ ended_is g.R.Runs.local (plain i.of.value) i.limit parts c.self.invariant i.roles.items true refl ((λ e. c.len.ensures.none.0 c.if-len-eq0.true), (λ h. refl))
    ∙ ap (λ (net : NetState). network_ended net.bundle.cast (network_of net)) c.self.view_is

pub returns-else-len-eq0 : goal.returns-else-len-eq0
returns-else-len-eq0 g c =
    let i = c.self.inside in
    let parts : Parts = record { cast = i.cast; locals = map g.R.Runs.local i.roles.items; mail = i.mail; book = i.book; bodies = map body_seen i.bodies; coming = map due_seen i.coming.items; updates = i.updates; history = i.history.entries } in
    false_from_ne_true (eqb c.len.result 0) (λ t. c.if-len-eq0.false ((Decides-eqb c.len.result 0).0 t))
    ∙ ended_is g.R.Runs.local (plain i.of.value) i.limit parts c.self.invariant i.roles.items false refl ((λ e. cc), (λ h. absurd (c.if-len-eq0.false (c.len.ensures.none.1 h))))
    ∙ ap (λ (net : NetState). network_ended net.bundle.cast (network_of net)) c.self.view_is
