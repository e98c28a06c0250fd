-- There is a move, it has no fault, and it is what the schedule takes.
use Rattle.std.proofs.Common.{length}
use Rattle.std.specs.Prelude.{map}
use Rattle.dioc_terms.specs.Plain.{setting}
use Rattle.network_steps.specs.Schedule.{move_place, moves}
use Rattle.net_core.specs.Nets.{network_of}
use Rattle.schedule.proofs.AgendaLemmas.{stale_after}
use Rattle.schedule.proofs.MoveLemmas.{can_make, some_move}
use Rattle.schedule.proofs.TurnLemmas.{advances}
use Rattle.schedule.proofs.UpdateLemmas.{few_updates}
use Rattle.schedule.specs.Agendas.{ready_seen}
use Rattle.schedule.proofs.turns.take_next.Goals as goal

pub next_move-next-requires-clause-some : goal.next_move-next-requires-clause-some
next_move-next-requires-clause-some g c =
    let known = c.term_laws.ensures in
    some_move known c.progress.ensures c.args.net.now c.requires.run c.requires.goes

pub make-requires-clause-can : goal.make-requires-clause-can
make-requires-clause-can g c =
    let next = c.next_move-next.ensures in
    record {
      move = next.move;
      there = next.there;
      can = can_make c.args.net.now c.requires.goes c.requires.room
          (move_place c.args.seed (length (moves (setting c.args.net.now.bundle) (network_of c.args.net.now)))) next.move next.is;
    }

pub make-requires-clause-few : goal.make-requires-clause-few
make-requires-clause-few g c = few_updates c.args.net.now c.requires.run c.requires.room c.requires.limit

pub returns-clause-advanced : goal.returns-clause-advanced
returns-clause-advanced g c =
    let next = c.next_move-next.ensures in
    advances c.args.net.now c.make.new.net c.args.seed next.move next.is (c.in_ok-make.ensures.made next.move next.there)

pub returns-clause-behind : goal.returns-clause-behind
returns-clause-behind g c =
    let known = c.term_laws.ensures in
    let next = c.next_move-next.ensures in
    record {
      move = next.move;
      there = next.there;
      stale = stale_after known c.args.net.now c.make.new.net next.move (map ready_seen c.args.agenda.now) c.requires.run
          (c.in_ok-make.ensures.made next.move next.there) c.requires.agenda;
    }
