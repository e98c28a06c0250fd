-- The first role that has an auxiliary act has the first of all.
use Rattle.std.proofs.Common.{ap, ◌∙◌}
use Rattle.std.specs.Prelude.{flat_map, map, option_map}
use Rattle.std.specs.List.{find}
use Rattle.std.proofs.lemmas.List.{drop_all}
use Rattle.std.proofs.lemmas.Option.{slice_get-map}
use Rattle.net_drive.specs.Driven.{is_aux_move}
use Rattle.network_steps.specs.declared.moves.Move.TheVariants as move
use Rattle.net_drive.proofs.Trying.{found_here, found_later}
use Rattle.schedule.proofs.ActedLemmas.{listed_by_role}
use Rattle.schedule.specs.Agendas.{moves_of, ready_seen}
use Rattle.net_drive.proofs.entries.find_auxiliary.Goals as goal

pub returns-in-Some-clause-found : goal.returns-in-Some-clause-found
returns-in-Some-clause-found c =
    let agenda = c.args.agenda.now in
    let doer = c.loop-doer.doer in
    let ready = c.index-agenda-doer.result in
    let at = c.in-Some.ensures.found in
    record {
      move = move.Act ready.role at.act;
      there = listed_by_role agenda doer ready c.index-agenda-doer.is c.in-Some.place (move.Act ready.role at.act) c.loop-doer-test.true
          (slice_get-map (move.Act ready.role) (ready_seen ready).1 c.in-Some.place ∙ ap (option_map (move.Act ready.role)) at.there);
      first = c.loop-doer.invariant ∙ found_here agenda doer ready c.loop-doer-test.true c.index-agenda-doer.is at.act at.first;
    }

pub loop-doer-preserved : goal.loop-doer-preserved
loop-doer-preserved c =
    c.loop-doer.invariant
    ∙ found_later c.args.agenda.now c.loop-doer.doer c.index-agenda-doer.result c.loop-doer-test.true c.index-agenda-doer.is
    (c.first_auxiliary.ensures.none c.in_default.is)

pub returns-clause-none : goal.returns-clause-none
returns-clause-none c = λ _.
    c.loop-doer.invariant
    ∙ ap (λ l. find is_aux_move (flat_map moves_of (map ready_seen l))) (drop_all c.loop-doer.doer c.args.agenda.now c.loop-doer-test.false)
