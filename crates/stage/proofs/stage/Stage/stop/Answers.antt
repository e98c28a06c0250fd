-- A stage that is stopped, marked in a hold.
use Rattle.std.proofs.Common.{sym, subst, refl, ap, ◌∙◌}
use Rattle.stage.proofs.HeldLemmas.{Entered, held, kept, stop_grows}
use Rattle.stage.proofs.MarkLemmas.{cut_now}
use Rattle.stage.specs.Homes.{HomeState, IsCut}
use Rattle.stage.specs.Marks.{with_stop}
use Rattle.turn_lock.specs.Words.{known, turn_known, view}
use Rattle.stage.proofs.stage.Stage.stop.Goals as goal

pub stop-requires : goal.stop-requires
stop-requires g c limit =
    subst (λ (h : HomeState). IsCut h.bundle h.limit h.history) (sym c.home.ensures.value)
    (cut_now (view c.args.seat) c.enter-turn.result.home c.enter-turn.ensures.base c.enter-turn.ensures.still c.enter-turn.ensures.sound (c.requires.cut limit))

pub leave-seat-requires-clause-kept : goal.leave-seat-requires-clause-kept
leave-seat-requires-clause-kept g c =
    let home = c.enter-turn.result.home in
    let here : Entered (known c.args.seat) (turn_known c.enter-turn.result) home = record { base = c.enter-turn.ensures.base; sound = c.enter-turn.ensures.sound; grown = c.enter-turn.ensures.grown; knows = c.enter-turn.ensures.knows } in
    kept (known c.args.seat) (turn_known c.enter-turn.result) home here _ (with_stop home c.args.why) (c.stop.ensures ∙ ap (λ (h : HomeState). with_stop h c.args.why) c.home.ensures.value) (stop_grows home c.args.why)

pub returns-clause-marked : goal.returns-clause-marked
returns-clause-marked g c =
    let home = c.enter-turn.result.home in
    let here : Entered (known c.args.seat) (turn_known c.enter-turn.result) home = record { base = c.enter-turn.ensures.base; sound = c.enter-turn.ensures.sound; grown = c.enter-turn.ensures.grown; knows = c.enter-turn.ensures.knows } in (
      home,
      held (known c.args.seat) (turn_known c.enter-turn.result) home here (known c.leave-seat.result) _ (with_stop home c.args.why) (c.stop.ensures ∙ ap (λ (h : HomeState). with_stop h c.args.why) c.home.ensures.value) refl c.leave-seat.ensures.known,
    )
