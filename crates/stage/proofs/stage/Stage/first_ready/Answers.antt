-- A hold that asks what may come, and changes nothing.
use Rattle.std.proofs.Common.{refl}
use Rattle.stage.proofs.FirstLemmas.{found_first}
use Rattle.stage.proofs.HeldLemmas.{Entered, held, kept}
use Rattle.stage.specs.Marks.{marks_of, marks_stay}
use Rattle.turn_lock.specs.Words.{known, turn_known, turn_view, view}
use Rattle.stage.proofs.stage.Stage.first_ready.Goals as goal

pub leave-requires-clause-kept : goal.leave-requires-clause-kept
leave-requires-clause-kept g c =
    let home = c.enter-turn.result.home in
    let here : Entered (known c.args.seat) (turn_known c.enter-turn.result) home = record { base = c.enter-turn.ensures.base; sound = c.enter-turn.ensures.sound; grown = c.enter-turn.ensures.grown; knows = c.enter-turn.ensures.knows } in
    kept (known c.args.seat) (turn_known c.enter-turn.result) home here _ home c.home.ensures.value (marks_stay (marks_of home))

pub returns-clause-first : goal.returns-clause-first
returns-clause-first g c =
    found_first (view c.args.seat) (turn_view c.enter-turn.result) (view c.leave.result) c.enter-turn.result.home c.home.result.now
    c.enter-turn.ensures.base c.enter-turn.ensures.still c.enter-turn.ensures.sound c.enter-turn.ensures.view c.home.ensures.value c.leave.ensures.view
    c.args.acts.now c.first_ready-first.result c.first_ready-first.ensures.first

pub returns-clause-held : goal.returns-clause-held
returns-clause-held g c =
    let home = c.enter-turn.result.home in
    let here : Entered (known c.args.seat) (turn_known c.enter-turn.result) home = record { base = c.enter-turn.ensures.base; sound = c.enter-turn.ensures.sound; grown = c.enter-turn.ensures.grown; knows = c.enter-turn.ensures.knows } in (
      home,
      held (known c.args.seat) (turn_known c.enter-turn.result) home here (known c.leave.result) _ home c.home.ensures.value refl c.leave.ensures.known,
    )
