-- The acts come after the change.
use Rattle.std.proofs.Common.{◌≡◌, ◌∷◌, Some, slice_get, refl, sym, subst}
use Rattle.std.specs.Prelude.{flat_map, map}
use Rattle.network_steps.specs.declared.moves.Move.TheVariants as move
use Rattle.schedule.proofs.AgendaLemmas.{got_later}
use Rattle.schedule.specs.Agendas.{moves_of, ready_seen}
use Rattle.schedule.proofs.turns.change_or_act.Goals as goal

pub returns-then-place-eq0 : goal.returns-then-place-eq0
returns-then-place-eq0 c = record {
  move = move.Change;
  there = refl;
  is = subst (λ n. slice_get (move.Change ∷ flat_map moves_of (map ready_seen c.args.agenda.now)) n ≡ Some move.Change) (sym c.if-place-eq0.true) refl;
}

pub returns-else-place-eq0 : goal.returns-else-place-eq0
returns-else-place-eq0 c =
    let found = c.find_number.ensures in
    record {
      move = found.move;
      there = found.there;
      is = got_later (flat_map moves_of (map ready_seen c.args.agenda.now)) c.args.place found.move c.if-place-eq0.false found.is;
    }
