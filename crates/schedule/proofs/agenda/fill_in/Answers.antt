-- The act is taken out, and what is left lacks what comes in its place.
use Rattle.std.proofs.Common.{List, Some, sym, ap, ◌∙◌, subst, arith}
use Rattle.dioc_terms.specs.declared.entries.Act.{Act}
use Rattle.dpoc_process.specs.LocalStates.{LacksAt}
use Rattle.net_core.specs.MovesIn.{are_places}
use Rattle.net_core.specs.Nets.{network_of}
use Rattle.net_core.specs.Places.{offers_of}
use Rattle.network_steps.specs.Schedule.{is_ready}
use Rattle.schedule.proofs.OwnActLemmas.{inside, is_taken, lacks, place_inside, stands}
use Rattle.schedule.proofs.PartLemmas.{places_inside}
use Rattle.schedule.specs.Agendas.{StandsAt, puts_to}
use Rattle.schedule.proofs.agenda.fill_in.Goals as goal

pub index-at-requires : goal.index-at-requires
index-at-requires g c =
    omega (
      arith,
      place_inside (network_of c.args.net.now) c.args.role.now c.args.place c.args.acts.now.items c.args.ready.now.items c.requires.own,
      c.args.ready.now.ok.0,
    )

pub remove-act-requires : goal.remove-act-requires
remove-act-requires g c =
    omega (
      arith,
      inside (network_of c.args.net.now) c.args.role.now c.args.place c.args.acts.now.items c.args.ready.now.items c.requires.own c.index-at.result.now c.index-at.ensures,
      c.args.acts.now.ok.0,
    )

pub fill_others-requires-clause-lacks : goal.fill_others-requires-clause-lacks
fill_others-requires-clause-lacks g c =
    let N = network_of c.args.net.now in
    let at = c.index-at.result.now in
    subst (λ (l : List Act). LacksAt at l (offers_of N c.args.role.now)) (sym c.remove-act.ensures.items)
    (lacks N c.args.role.now c.args.place c.args.acts.now.items c.args.ready.now.items c.requires.own at c.index-at.ensures)

pub fill_others-requires-clause-stands : goal.fill_others-requires-clause-stands
fill_others-requires-clause-stands g c = λ other.
    let N = network_of c.args.net.now in
    let q = c.args.role.now in
    let at = c.index-at.result.now in
    let acts = c.args.acts.now.items in
    let places = c.args.ready.now.items in
    let taken = is_taken N q c.args.place acts places c.requires.own at c.index-at.ensures c.remove-act.result c.remove-act.ensures.value in
    subst (λ (l : List Act). StandsAt (is_ready N) c.args.place at l places) (sym c.remove-act.ensures.items)
    (stands N q c.args.place acts places c.requires.own at c.index-at.ensures (ap (λ (a : Act). puts_to a q) (sym taken) ∙ other))

pub returns-in-Ok-clause-act : goal.returns-in-Ok-clause-act
returns-in-Ok-clause-act g c =
    let taken = is_taken (network_of c.args.net.now) c.args.role.now c.args.place c.args.acts.now.items c.args.ready.now.items c.requires.own
    c.index-at.result.now c.index-at.ensures c.remove-act.result c.remove-act.ensures.value in
    c.requires.own.listed ∙ ap Some (sym taken)

pub returns-in-Ok-clause-inside : goal.returns-in-Ok-clause-inside
returns-in-Ok-clause-inside g c =
    let acts = c.fill_others.new.acts.items in
    ap (λ places. are_places places acts) c.in-Ok.ensures.ready ∙ places_inside (is_ready (network_of c.args.net.now)) acts
