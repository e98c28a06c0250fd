-- A role that has ended, marked in a hold.
use Rattle.std.proofs.Common.{sym, subst, refl, ap, ◌∙◌}
use Rattle.stage.proofs.HeldLemmas.{Entered, held, kept, finish_grows}
use Rattle.stage.proofs.MarkLemmas.{ended_now}
use Rattle.stage.specs.Homes.{HasEnded, HomeState}
use Rattle.stage.specs.Marks.{with_finished}
use Rattle.turn_lock.specs.Words.{known, turn_known, view}
use Rattle.stage.proofs.stage.Stage.finish.Goals as goal

pub finish-requires : goal.finish-requires
finish-requires g c =
    subst (λ (h : HomeState). HasEnded h.bundle h.history c.args.role.now) (sym c.home-home.ensures.value)
    (ended_now (view c.args.seat) c.enter-turn.result.home c.enter-turn.ensures.base c.enter-turn.ensures.still c.args.role.now c.requires.ended)

pub leave-seat-requires-clause-kept : goal.leave-seat-requires-clause-kept
leave-seat-requires-clause-kept g c =
    let home = c.enter-turn.result.home in
    let here : Entered (known c.args.seat) (turn_known c.enter-turn.result) home = record { base = c.enter-turn.ensures.base; sound = c.enter-turn.ensures.sound; grown = c.enter-turn.ensures.grown; knows = c.enter-turn.ensures.knows } in
    kept (known c.args.seat) (turn_known c.enter-turn.result) home here _ (with_finished home c.args.role.now) (c.finish.ensures ∙ ap (λ (h : HomeState). with_finished h c.args.role.now) c.home-home.ensures.value) (finish_grows home c.args.role.now)

pub returns-clause-marked : goal.returns-clause-marked
returns-clause-marked g c =
    let home = c.enter-turn.result.home in
    let here : Entered (known c.args.seat) (turn_known c.enter-turn.result) home = record { base = c.enter-turn.ensures.base; sound = c.enter-turn.ensures.sound; grown = c.enter-turn.ensures.grown; knows = c.enter-turn.ensures.knows } in (
      home,
      held (known c.args.seat) (turn_known c.enter-turn.result) home here (known c.leave-seat.result) _ (with_finished home c.args.role.now) (c.finish.ensures ∙ ap (λ (h : HomeState). with_finished h c.args.role.now) c.home-home.ensures.value) refl c.leave-seat.ensures.known,
    )
