-- The first of the changes is the script's next change.
use Rattle.std.proofs.Common.{◌≡◌, ◌&&◌, not, length, sym, ap, ◌∙◌}
use Rattle.std.specs.Prelude.{map}
use Rattle.dioc_terms.specs.Messages.{visible}
use Rattle.dioc_terms.specs.Plain.{plain}
use Rattle.network_steps.specs.Network.{network_ended}
use Rattle.network_steps.specs.Schedule.{change_due}
use Rattle.net_core.proofs.ListLemmas.{due_listed}
use Rattle.net_core.specs.KeptParts.{body_seen, due_seen}
use Rattle.net_core.specs.MovesIn.{is_first_due}
use Rattle.net_core.specs.Nets.{NetState, network_of}
use Rattle.net_core.specs.Standing.{Parts}
use Rattle.net_core.proofs.network.Net.is_change_due.Goals as goal

pub returns-then-due : goal.returns-then-due
returns-then-due g c =
    let i = c.self.inside in
    let parts : Parts = record { cast = i.cast; locals = map g.R.Runs.local i.roles.items; mail = i.mail; book = i.book; bodies = map body_seen i.bodies; coming = map due_seen i.coming.items; updates = i.updates; history = i.history.entries } in
    let first : c.is_first_due-due.result ≡ is_first_due (map due_seen i.coming.items) (length (visible i.history.entries)) =
    c.is_first_due-due.ensures ∙ ap (is_first_due (map due_seen i.coming.items)) c.visible_len.ensures in
    let ends : c.is_ended-ended.result ≡ network_ended c.args.self.now.bundle.cast (network_of c.args.self.now) = c.is_ended-ended.ensures in
    sym (ap (λ t. t && not c.is_ended-ended.result) c.if-due.true)
    ∙ (λ j. first j && not (ends j))
    ∙ ap (λ (net : NetState). is_first_due (map due_seen i.coming.items) (length (visible i.history.entries)) && not (network_ended net.bundle.cast (network_of net))) (sym c.self.view_is)
    ∙ due_listed (plain i.of.value) i.limit parts c.self.invariant
    ∙ ap (λ (net : NetState). change_due net.bundle.script (network_of net).changes (network_of net).visible && not (network_ended net.bundle.cast (network_of net))) c.self.view_is

pub returns-else-due : goal.returns-else-due
returns-else-due g c =
    let i = c.self.inside in
    let parts : Parts = record { cast = i.cast; locals = map g.R.Runs.local i.roles.items; mail = i.mail; book = i.book; bodies = map body_seen i.bodies; coming = map due_seen i.coming.items; updates = i.updates; history = i.history.entries } in
    let first : c.is_first_due-due.result ≡ is_first_due (map due_seen i.coming.items) (length (visible i.history.entries)) =
    c.is_first_due-due.ensures ∙ ap (is_first_due (map due_seen i.coming.items)) c.visible_len.ensures in
    let ends : c.is_ended-ended.result ≡ network_ended c.args.self.now.bundle.cast (network_of c.args.self.now) = c.is_ended-ended.ensures in
    c.if-due.false ∙ sym (ap (λ t. t && not c.is_ended-ended.result) c.if-due.false)
    ∙ (λ j. first j && not (ends j))
    ∙ ap (λ (net : NetState). is_first_due (map due_seen i.coming.items) (length (visible i.history.entries)) && not (network_ended net.bundle.cast (network_of net))) (sym c.self.view_is)
    ∙ due_listed (plain i.of.value) i.limit parts c.self.invariant
    ∙ ap (λ (net : NetState). change_due net.bundle.script (network_of net).changes (network_of net).visible && not (network_ended net.bundle.cast (network_of net))) c.self.view_is
