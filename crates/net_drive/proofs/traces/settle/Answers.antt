-- Each auxiliary move leads on, until none is left.
use Rattle.std.proofs.Common.{[], true, false, subst, sym}
use Rattle.dioc_terms.specs.Plain.{setting}
use Rattle.net_drive.specs.Driven.{first_auxiliary}
use Rattle.net_drive.specs.Driving.{DrivesOn, Settles}
use Rattle.net_drive.specs.Making.{Makes}
use Rattle.net_drive.proofs.OnTheWay.{few_made, has_room, join, lessens, room_stays, stay}
use Rattle.net_drive.proofs.Trying.{longer, turn_on}
use Rattle.net_core.specs.Nets.{network_of}
use Rattle.net_drive.proofs.traces.settle.Goals as goal

pub turns-init : goal.turns-init
turns-init g c = record { way = stay c.args.net.now []; room = c.requires.room; agenda = c.requires.agenda }

pub take_auxiliary-requires-clause-room : goal.take_auxiliary-requires-clause-room
take_auxiliary-requires-clause-room g c = has_room c.known.ensures.auxiliary c.turns.net c.has_run.ensures c.turns.invariant.room

pub take_auxiliary-requires-clause-few : goal.take_auxiliary-requires-clause-few
take_auxiliary-requires-clause-few g c = few_made c.known.ensures.auxiliary c.turns.net c.has_run.ensures c.turns.invariant.room

pub returns-then-not-branch : goal.returns-then-not-branch
returns-then-not-branch g c =
    let net = c.turns.net in
    let new = c.take_auxiliary.new.net in
    let rests : Makes (first_auxiliary (setting net.bundle) (network_of net)) net new false =
    subst (Makes (first_auxiliary (setting net.bundle) (network_of net)) net new) c.if-not-branch.true c.in_ok-take_auxiliary.ensures.makes in
    subst (Settles c.args.net.now) (sym rests.1) (record { drives = c.turns.invariant.way; rests = rests.0 })

pub turns-preserved : goal.turns-preserved
turns-preserved g c =
    let k = c.known.ensures in
    let known = c.term_laws.ensures in
    let net = c.turns.net in
    let new = c.take_auxiliary.new.net in
    let made : Makes (first_auxiliary (setting net.bundle) (network_of net)) net new true =
    subst (Makes (first_auxiliary (setting net.bundle) (network_of net)) net new) c.if-not-branch.false c.in_ok-take_auxiliary.ensures.makes in
    let on : DrivesOn net new [] [] = turn_on known k.offered net c.has_run.ensures new made in
    record {
      way = join c.args.net.now net new [] [] [] c.turns.invariant.way on;
      room = room_stays net new [] on c.turns.invariant.room;
      agenda = c.in_ok-take_auxiliary.ensures.agenda;
    }

pub turns-smaller : goal.turns-smaller
turns-smaller g c =
    let net = c.turns.net in
    let new = c.take_auxiliary.new.net in
    let made : Makes (first_auxiliary (setting net.bundle) (network_of net)) net new true =
    subst (Makes (first_auxiliary (setting net.bundle) (network_of net)) net new) c.if-not-branch.false c.in_ok-take_auxiliary.ensures.makes in
    lessens net new (made.2).limit (longer net new made.0 made.2) (has_room c.known.ensures.auxiliary net c.has_run.ensures c.turns.invariant.room)
