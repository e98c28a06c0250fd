-- The move that is listed there is the act at its place, and is refused as that act is.
use Rattle.std.proofs.Common.{◌≡◌, ◌<◌, get_or, length, refl, sym, ap, ◌∙◌, subst, arith}
use Rattle.std.proofs.lemmas.List.{get_or_default}
use Rattle.std.proofs.lemmas.Option.{slice_get_read, slice_get_within}
use Rattle.std.proofs.lemmas.Result.{IfErr-weaker, on_ok_weaker}
use Rattle.network_steps.specs.declared.moves.Move.{Move}
use Rattle.network_steps.specs.declared.moves.Move.TheVariants as move
use Rattle.net_core.proofs.Choosing.{place_inside}
use Rattle.net_core.proofs.NetLemmas.{fault_placed, step_placed}
use Rattle.dpoc_process.specs.LocalStates.{IsNumbered}
use Rattle.marked_laws.proofs.Whole.{distinct_offers}
use Rattle.marked_laws.specs.Offers.{distinct_acts}
use Rattle.net_core.proofs.PlacesLemmas.{offers_placed}
use Rattle.net_core.specs.Nets.{network_of}
use Rattle.net_core.specs.Places.{offers_at}
use Rattle.schedule.proofs.ActedLemmas.{listed_inside, move_is, move_of_role, place_listed, role_here, role_listed}
use Rattle.schedule.proofs.TurnLemmas.{fault_as, is_numbered, move_of_step}
use Rattle.schedule.specs.Agendas.{Shown}
use Rattle.schedule.specs.Turns.{IsMoveOf}
use Rattle.schedule.proofs.turns.step_listed.Goals as goal

pub index-number-requires : goal.index-number-requires
index-number-requires g c =
    let ready = c.index-agenda-doer.result in
    let m = c.requires.listed.move in
    let there = c.requires.listed.there in
    omega (
      arith,
      place_listed ready c.args.place m (move_of_role c.args.agenda.now c.args.doer ready c.index-agenda-doer.is c.args.place m there),
      ready.ready.ok.0,
    )

pub index-act-requires : goal.index-act-requires
index-act-requires g c =
    let ready = c.index-agenda-doer.result in
    let place = c.args.place in
    let m = c.requires.listed.move in
    let there = c.requires.listed.there in
    let inside = place_listed ready place m (move_of_role c.args.agenda.now c.args.doer ready c.index-agenda-doer.is place m there) in
    let at : c.index-number.result.now ≡ get_or ready.ready.items place 0 =
    c.index-number.ensures ∙ get_or_default ready.ready.items place c.index-number.result.now 0 inside in
    omega (arith, at, place_inside ready.acts.items ready.ready.items place ready.inside inside, ready.acts.ok.0)

pub step_at-requires-clause-there : goal.step_at-requires-clause-there
step_at-requires-clause-there g c =
    let net = c.args.net.now in
    let ready = c.index-agenda-doer.result in
    let there = c.requires.listed.there in
    slice_get_within net.bundle.cast c.args.doer ready.role
    (role_here net c.args.agenda.now c.args.doer ready c.requires.agenda c.index-agenda-doer.is (listed_inside c.args.agenda.now c.args.doer c.args.place c.requires.listed.move there))

pub returns-clause-stepped : goal.returns-clause-stepped
returns-clause-stepped g c =
    let net = c.args.net.now in
    let ready = c.index-agenda-doer.result in
    let place = c.args.place in
    let x = c.index-act.result.now in
    on_ok_weaker c.step_at.result
    (λ made m there.
    let got = move_of_role c.args.agenda.now c.args.doer ready c.index-agenda-doer.is place m there in
    let at : c.index-number.result.now ≡ get_or ready.ready.items place 0 =
    c.index-number.ensures ∙ get_or_default ready.ready.items place c.index-number.result.now 0 (place_listed ready place m got) in
    let here = role_here net c.args.agenda.now c.args.doer ready c.requires.agenda c.index-agenda-doer.is (listed_inside c.args.agenda.now c.args.doer place m there) in
    subst (λ (k : Move). IsMoveOf net k c.step_at.new.self)
    (sym (move_is ready place m x got (c.index-act.ensures ∙ ap (λ n. get_or ready.acts.items n x) at)))
    (move_of_step net c.step_at.new.self ready.role x (step_placed net c.step_at.new.self c.args.doer ready.role x here made)))
    c.step_at.ensures.stepped

pub step_at-requires-clause-numbered : goal.step_at-requires-clause-numbered
step_at-requires-clause-numbered g c =
    let net = c.args.net.now in
    let N = network_of net in
    let ready = c.index-agenda-doer.result in
    let doer = c.args.doer in
    let place = c.args.place in
    let number = c.index-number.result.now in
    let x = c.index-act.result.now in
    let m = c.requires.listed.move in
    let there = c.requires.listed.there in
    let inside = place_listed ready place m (move_of_role c.args.agenda.now doer ready c.index-agenda-doer.is place m there) in
    let at : number ≡ get_or ready.ready.items place 0 =
    c.index-number.ensures ∙ get_or_default ready.ready.items place number 0 inside in
    let within : number < length ready.acts.items =
    omega (arith, at, place_inside ready.acts.items ready.ready.items place ready.inside inside) in
    let listed = role_listed net c.args.agenda.now doer ready c.requires.agenda c.index-agenda-doer.is (listed_inside c.args.agenda.now doer place m there) in
    let all : ready.acts.items ≡ offers_at net doer =
    ap (λ (shown : Shown). shown.2) listed.1 ∙ sym (offers_placed net doer ready.role listed.0) in
    subst (IsNumbered number x) all
    (is_numbered ready.acts.items number x (slice_get_read ready.acts.items (length ready.acts.items) number x refl within c.index-act.ensures)
    (ap distinct_acts (ap (λ (shown : Shown). shown.2) listed.1) ∙ distinct_offers c.term_laws.ensures net.bundle net.history N c.requires.run.sound c.requires.run.runs ready.role))

pub returns-clause-refused : goal.returns-clause-refused
returns-clause-refused g c =
    let net = c.args.net.now in
    let ready = c.index-agenda-doer.result in
    let place = c.args.place in
    let x = c.index-act.result.now in
    IfErr-weaker c.step_at.result _ _
    (λ fault refused other q a there.
    let m : Move = move.Act q a in
    let got = move_of_role c.args.agenda.now c.args.doer ready c.index-agenda-doer.is place m there in
    let at : c.index-number.result.now ≡ get_or ready.ready.items place 0 =
    c.index-number.ensures ∙ get_or_default ready.ready.items place c.index-number.result.now 0 (place_listed ready place m got) in
    let here = role_here net c.args.agenda.now c.args.doer ready c.requires.agenda c.index-agenda-doer.is (listed_inside c.args.agenda.now c.args.doer place m there) in
    let same : m ≡ move.Act ready.role x = move_is ready place m x got (c.index-act.ensures ∙ ap (λ n. get_or ready.acts.items n x) at) in
    fault_as net ready.role x q a fault (sym same) (sym (fault_placed net c.args.doer ready.role x here) ∙ refused other))
    c.step_at.ensures.refused
