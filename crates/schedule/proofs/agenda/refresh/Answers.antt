-- The role that acted is the one at its place of the cast, and the others are as they were.
use Rattle.std.proofs.Common.{◌≡◌, Some, slice_get, sym, ap, ◌∙◌, subst}
use Rattle.net_core.specs.Nets.{network_of}
use Rattle.schedule.proofs.ActedLemmas.{did_at, doer_here, has_acted}
use Rattle.schedule.specs.declared.roles.ReadyRole.{ReadyRole}
use Rattle.schedule.specs.Agendas.{DidAt, ready_in, ready_seen}
use Rattle.schedule.proofs.agenda.refresh.Goals as goal

pub act_on-requires-clause-here : goal.act_on-requires-clause-here
act_on-requires-clause-here g c =
    let net = c.args.net.now in
    subst (λ (ready : ReadyRole). slice_get net.bundle.cast c.args.doer ≡ Some ready.role) c.index-agenda-doer.is
    (doer_here net.bundle.cast (network_of net) c.args.doer c.args.place c.args.agenda.now c.requires c.index-agenda-doer.result c.index-agenda-doer.is)

pub act_on-requires-clause-own : goal.act_on-requires-clause-own
act_on-requires-clause-own g c =
    let net = c.args.net.now in
    subst (λ (ready : ReadyRole). DidAt (network_of net) c.args.place (ready_seen ready)) c.index-agenda-doer.is
    (did_at net.bundle.cast (network_of net) c.args.doer c.args.place c.args.agenda.now c.requires c.index-agenda-doer.result c.index-agenda-doer.is)

pub receive-received-requires : goal.receive-received-requires
receive-received-requires g c =
    let net = c.args.net.now in
    let is = c.index-agenda-doer.is in
    has_acted net.bundle.cast (network_of net) c.args.doer c.args.place c.args.agenda.now c.requires c.index-agenda-doer.result is c.in_ok-done.done c.act_on.new.ready
    (ap (λ (ready : ReadyRole). slice_get (ready_seen ready).1 c.args.place) is ∙ c.in_ok-done.ensures.act)
    (c.in_ok-done.ensures.listed ∙ ap (λ (ready : ReadyRole). ready_in (network_of net) ready.role) (sym is))
