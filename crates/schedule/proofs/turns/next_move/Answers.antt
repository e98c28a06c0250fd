-- The agenda lists the acts of the network, and the change comes before them.
use Rattle.std.proofs.Common.{◌∙◌, arith, ap, refl}
use Rattle.std.specs.Prelude.{flat_map, length, map}
use Rattle.network_steps.specs.Schedule.{move_place}
use Rattle.schedule.proofs.AgendaLemmas.{scheduled_act, scheduled_due, some_act}
use Rattle.schedule.specs.Agendas.{moves_of, ready_seen}
use Rattle.schedule.proofs.turns.next_move.Goals as goal

pub next_place-number-requires-clause-some : goal.next_place-number-requires-clause-some
next_place-number-requires-clause-some g c =
    let agenda = map ready_seen c.args.agenda.now in
    let some = some_act c.args.net.now agenda (length (flat_map moves_of agenda)) c.requires.agenda c.if-is_change_due.ensures refl c.requires.some in
    omega (arith, some)

pub returns-then-is_change_due : goal.returns-then-is_change_due
returns-then-is_change_due g c =
    let found = c.change_or_act.ensures in
    let agenda = map ready_seen c.args.agenda.now in
    record {
      move = found.move;
      there = found.there;
      is = scheduled_due c.args.net.now c.args.seed agenda (length (flat_map moves_of agenda)) c.next_place-place.result found.move c.requires.agenda
          c.if-is_change_due.ensures refl c.next_place-place.ensures.place found.is;
    }

pub returns-else-is_change_due : goal.returns-else-is_change_due
returns-else-is_change_due g c =
    let found = c.find_number.ensures in
    let agenda = map ready_seen c.args.agenda.now in
    record {
      move = found.move;
      there = found.there;
      is = scheduled_act c.args.net.now c.args.seed agenda (length (flat_map moves_of agenda)) c.next_place-number.result found.move c.requires.agenda
          c.if-is_change_due.ensures refl (c.next_place-number.ensures.place ∙ ap (move_place c.args.seed) (omega arith)) found.is;
    }
