-- The message is put to none, to the role itself, or to another.
use Rattle.std.proofs.Common.{sym, ap, ◌∙◌, subst}
use Rattle.std.proofs.lemmas.Result.{on_ok_weaker}
use Rattle.dioc_terms.specs.declared.entries.Act.TheVariants as act
use Rattle.net_core.specs.Nets.{network_of}
use Rattle.schedule.proofs.ActedLemmas.{came_listed, came_to, came_to_itself, came_to_none, none_came, some_at, to_inside}
use Rattle.schedule.specs.declared.roles.ReadyRole.{ReadyRole}
use Rattle.schedule.specs.Agendas.{WasListed, ready_in, ready_seen}
use Rattle.schedule.proofs.agenda.receive.Goals as goal

pub returns-in_default : goal.returns-in_default
returns-in_default g c =
    let net = c.args.net.now in
    none_came net.bundle.cast (network_of net) c.args.doer c.args.act.now c.args.agenda.now c.requires c.in_default.not-Put

pub returns-in_default-find_role : goal.returns-in_default-find_role
returns-in_default-find_role g c =
    let net = c.args.net.now in
    came_to_none net.bundle.cast (network_of net) c.args.doer c.args.act.now c.args.agenda.now c.requires c.in-Put.key c.in-Put.is
    (sym c.find_role.ensures ∙ c.in_default-find_role.is)

pub returns-then-to-doer : goal.returns-then-to-doer
returns-then-to-doer g c =
    let net = c.args.net.now in
    let agenda = c.args.agenda.now in
    let some = sym c.find_role.ensures ∙ c.in-Some.is in
    let here = some_at agenda c.in-Some.to
    (to_inside net.bundle.cast (network_of net) c.args.doer c.args.act.now agenda c.requires c.in-Put.key c.in-Put.is c.in-Some.to some) in
    came_to_itself net.bundle.cast (network_of net) c.args.doer c.args.act.now agenda c.requires c.in-Put.key c.in-Put.is c.in-Some.to some here.0 here.1
    c.if-to-doer.true

pub returns : goal.returns
returns g c =
    let net = c.args.net.now in
    let N = network_of net in
    let agenda = c.args.agenda.now in
    let some = sym c.find_role.ensures ∙ c.in-Some.is in
    let ready = c.index-agenda-to.result in
    let is = c.index-agenda-to.is in
    on_ok_weaker c.come.result
    (λ so. came_to net.bundle.cast N c.args.doer c.args.act.now agenda c.requires c.in-Put.key c.in-Put.is c.in-Some.to some ready is c.if-to-doer.false c.come.new.ready
    (so N
    (subst (λ (x : ReadyRole). WasListed N (act.Put c.in-Put.key) (ready_seen x)) is
    (came_listed net.bundle.cast N c.args.doer c.args.act.now agenda c.requires c.in-Put.key c.in-Put.is c.in-Some.to some ready is c.if-to-doer.false))
    ∙ ap (λ (x : ReadyRole). ready_in N x.role) (sym is)))
    c.come.ensures
