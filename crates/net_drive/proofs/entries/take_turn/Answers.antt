-- A turn by what became of the entry; there is room for it.
use Rattle.std.proofs.Common.{◌<◌, length, sym, subst}
use Rattle.std.specs.Prelude.{map}
use Rattle.dioc_terms.specs.Plain.{setting}
use Rattle.network_steps.specs.declared.moves.Move.{Move}
use Rattle.net_drive.specs.declared.entries.Tried.TheVariants as tried
use Rattle.net_drive.specs.Driven.{first_auxiliary}
use Rattle.net_drive.specs.Driving.{HasCome, IsTried}
use Rattle.net_drive.specs.Making.{Makes}
use Rattle.net_drive.proofs.OnTheWay.{few_made, has_room}
use Rattle.net_drive.proofs.Trying.{turn_stuck, turn_waits}
use Rattle.net_core.specs.Nets.{NetState, network_of}
use Rattle.schedule.proofs.AgendaLemmas.{stale_after}
use Rattle.schedule.specs.Agendas.{ready_seen}
use Rattle.schedule.specs.Turns.{IsMoveOf}
use Rattle.net_drive.proofs.entries.take_turn.Goals as goal

pub try_entry-requires-clause-room : goal.try_entry-requires-clause-room
try_entry-requires-clause-room g c = has_room c.known.ensures.auxiliary c.args.net.now c.requires.run c.requires.room

pub try_entry-requires-clause-few : goal.try_entry-requires-clause-few
try_entry-requires-clause-few g c = few_made c.known.ensures.auxiliary c.args.net.now c.requires.run c.requires.room

pub bring_up-requires : goal.bring_up-requires
bring_up-requires g c =
    let known = c.term_laws.ensures in
    let old = c.args.net.now in
    let new = c.try_entry.new.net in
    let come : HasCome old c.args.entry.now new = subst (IsTried old c.args.entry.now new) c.in-Came.is c.in_ok-try_entry.ensures in
    stale_after known old new c.args.next.now (map ready_seen c.args.agenda.now.items) c.requires.run
    (subst (λ (m : Move). IsMoveOf old m new) (sym c.requires.next) come.made) c.requires.agenda

pub take_auxiliary-requires-clause-room : goal.take_auxiliary-requires-clause-room
take_auxiliary-requires-clause-room g c =
    let old = c.args.net.now in
    let waits : IsTried old c.args.entry.now c.try_entry.new.net tried.Waits = subst (IsTried old c.args.entry.now c.try_entry.new.net) c.in-Waits.is c.in_ok-try_entry.ensures in
    subst (λ (net : NetState). length net.history < net.limit) (sym waits.1) (has_room c.known.ensures.auxiliary old c.requires.run c.requires.room)

pub take_auxiliary-requires-clause-few : goal.take_auxiliary-requires-clause-few
take_auxiliary-requires-clause-few g c =
    let old = c.args.net.now in
    let waits : IsTried old c.args.entry.now c.try_entry.new.net tried.Waits = subst (IsTried old c.args.entry.now c.try_entry.new.net) c.in-Waits.is c.in_ok-try_entry.ensures in
    subst (λ (net : NetState). (network_of net).updates < 4294967295) (sym waits.1) (few_made c.known.ensures.auxiliary old c.requires.run c.requires.room)

pub returns-then-branch-clause-turn : goal.returns-then-branch-clause-turn
returns-then-branch-clause-turn g c =
    let known = c.term_laws.ensures in
    let old = c.args.net.now in
    let between = c.try_entry.new.net in
    let new = c.take_auxiliary.new.net in
    let waits : IsTried old c.args.entry.now between tried.Waits = subst (IsTried old c.args.entry.now between) c.in-Waits.is c.in_ok-try_entry.ensures in
    turn_waits known c.known.ensures.offered old c.requires.run c.args.entry.now between new waits
    (subst (Makes (first_auxiliary (setting between.bundle) (network_of between)) between new) c.if-branch.true c.in_ok-take_auxiliary-in-Waits.ensures.makes)

pub returns-else-branch-clause-turn : goal.returns-else-branch-clause-turn
returns-else-branch-clause-turn g c =
    let known = c.term_laws.ensures in
    let old = c.args.net.now in
    let between = c.try_entry.new.net in
    let new = c.take_auxiliary.new.net in
    let waits : IsTried old c.args.entry.now between tried.Waits = subst (IsTried old c.args.entry.now between) c.in-Waits.is c.in_ok-try_entry.ensures in
    turn_stuck known c.known.ensures.offered old c.requires.run c.args.entry.now between new waits
    (subst (Makes (first_auxiliary (setting between.bundle) (network_of between)) between new) c.if-branch.false c.in_ok-take_auxiliary-in-Waits.ensures.makes)
