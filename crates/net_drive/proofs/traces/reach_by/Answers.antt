-- Each turn leads on to the entry, or the net is stuck.
use Rattle.std.proofs.Common.{◌≡◌, [], ◌∷◌, sym, ◌∙◌, subst}
use Rattle.net_drive.specs.declared.entries.Tried.TheVariants as tried
use Rattle.net_drive.specs.Driving.{IsTurn}
use Rattle.net_drive.proofs.OnTheWay.{has_room, join, lessens, room_stays, stay, stuck_before}
use Rattle.net_drive.proofs.traces.reach_by.Goals as goal

waits_or_strays : tried.Waits ≡ tried.Strays → ⊥
waits_or_strays h = cc

pub turns-init : goal.turns-init
turns-init g c = record {
  way = λ rest. stay c.args.net.now (c.args.entry.now ∷ rest);
  room = c.requires.room;
  agenda = c.requires.agenda;
}

pub returns-in-Came-clause-reached : goal.returns-in-Came-clause-reached
returns-in-Came-clause-reached g c rest =
    let e = c.args.entry.now in
    let turn : IsTurn c.turns.net e c.take_turn.new.net tried.Came = subst (IsTurn c.turns.net e c.take_turn.new.net) c.in-Came.is c.in_ok-take_turn.ensures.turn in
    join c.args.net.now c.turns.net c.take_turn.new.net [] (e ∷ []) rest (c.turns.invariant.way rest) (turn rest)

pub returns-in-Strays-clause-reached : goal.returns-in-Strays-clause-reached
returns-in-Strays-clause-reached g c =
    let e = c.args.entry.now in
    let turn : IsTurn c.turns.net e c.take_turn.new.net tried.Strays = subst (IsTurn c.turns.net e c.take_turn.new.net) c.in-Strays.is c.in_ok-take_turn.ensures.turn in
    stuck_before c.args.net.now c.turns.net (e ∷ []) e (c.turns.invariant.way []) turn

pub turns-preserved : goal.turns-preserved
turns-preserved g c =
    let e = c.args.entry.now in
    let turn : IsTurn c.turns.net e c.take_turn.new.net tried.Waits = subst (IsTurn c.turns.net e c.take_turn.new.net) c.in-Waits.is c.in_ok-take_turn.ensures.turn in
    record {
      way = λ rest. join c.args.net.now c.turns.net c.take_turn.new.net [] [] (e ∷ rest) (c.turns.invariant.way rest) (turn.1 rest);
      room = room_stays c.turns.net c.take_turn.new.net (e ∷ []) (turn.1 []) c.turns.invariant.room;
      agenda = c.in_ok-take_turn.ensures.agenda (λ strays. waits_or_strays (sym c.in-Waits.is ∙ strays));
    }

pub turns-smaller : goal.turns-smaller
turns-smaller g c =
    let e = c.args.entry.now in
    let turn : IsTurn c.turns.net e c.take_turn.new.net tried.Waits = subst (IsTurn c.turns.net e c.take_turn.new.net) c.in-Waits.is c.in_ok-take_turn.ensures.turn in
    lessens c.turns.net c.take_turn.new.net (turn.1 []).limit turn.0 (has_room c.known.ensures.auxiliary c.turns.net c.has_run.ensures c.turns.invariant.room)
