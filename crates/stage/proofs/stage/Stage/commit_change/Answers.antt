-- The script's next change, made in a hold.
use Rattle.std.proofs.Common.{◌≡◌, None, Some, ◌∙◌, subst, ap}
use Rattle.stage.proofs.HeldLemmas.{Entered, added_once, kept, refused_once}
use Rattle.stage.proofs.HoldLemmas.{grown_by, own_item, refused_hold}
use Rattle.stage.proofs.MarkLemmas.{did_change, owns_change}
use Rattle.stage.specs.Changes.{next_entry}
use Rattle.stage.specs.Faults.{feeder_fault}
use Rattle.stage.specs.Homes.{HomeState, with_entry}
use Rattle.stage.specs.Marks.{marks_of, marks_stay}
use Rattle.turn_lock.specs.Words.{known, turn_known, turn_view, view}
use Rattle.stage.proofs.stage.Stage.commit_change.Goals as goal

pub leave_with-seat-requires-clause-item : goal.leave_with-seat-requires-clause-item
leave_with-seat-requires-clause-item g c =
    let v = view c.args.seat in
    let u = turn_view c.enter-turn.result in
    let home = c.enter-turn.result.home in
    let changed = c.in-Ok.ensures.changed in
    let is = subst (λ (h : HomeState). next_entry h ≡ Some changed.entry) c.home.ensures.value changed.next in
    own_item v u home c.home-in-Ok.result.now changed.entry
    (grown_by v u home c.home.result.now c.home-in-Ok.result.now changed.entry c.enter-turn.ensures.view c.home.ensures.value (c.home-in-Ok.ensures.value ∙ changed.added))
    (owns_change v home changed.entry c.enter-turn.ensures.base c.requires.feeder is)

pub returns-in-Ok-clause-done : goal.returns-in-Ok-clause-done
returns-in-Ok-clause-done g c =
    let v = view c.args.seat in
    let u = turn_view c.enter-turn.result in
    let home = c.enter-turn.result.home in
    let changed = c.in-Ok.ensures.changed in
    let is = subst (λ (h : HomeState). next_entry h ≡ Some changed.entry) c.home.ensures.value changed.next in
    did_change v home c.enter-turn.ensures.base c.enter-turn.ensures.still u (view c.leave_with-seat.result) c.home-in-Ok.result.now c.enter-turn.ensures.sound c.is_sound.ensures
    (subst (λ (h : HomeState). feeder_fault h ≡ None) c.home.ensures.value c.in-Ok.ensures.free) changed.entry is
    (grown_by v u home c.home.result.now c.home-in-Ok.result.now changed.entry c.enter-turn.ensures.view c.home.ensures.value (c.home-in-Ok.ensures.value ∙ changed.added))
    (record { view = c.leave_with-seat.ensures.view; own = c.leave_with-seat.ensures.met })

pub returns-in-Err-clause-refused : goal.returns-in-Err-clause-refused
returns-in-Err-clause-refused g c =
    refused_hold (view c.args.seat) (turn_view c.enter-turn.result) (view c.leave.result) c.enter-turn.result.home c.home.result.now
    c.enter-turn.ensures.base c.enter-turn.ensures.still c.enter-turn.ensures.sound c.enter-turn.ensures.view c.home.ensures.value c.leave.ensures.view
    feeder_fault c.in-Err.fault c.in-Err.ensures.first

pub leave_with-seat-requires-clause-kept : goal.leave_with-seat-requires-clause-kept
leave_with-seat-requires-clause-kept g c =
    let home = c.enter-turn.result.home in
    let here : Entered (known c.args.seat) (turn_known c.enter-turn.result) home = record { base = c.enter-turn.ensures.base; sound = c.enter-turn.ensures.sound; grown = c.enter-turn.ensures.grown; knows = c.enter-turn.ensures.knows } in
    let e = c.in-Ok.ensures.changed.entry in
    kept (known c.args.seat) (turn_known c.enter-turn.result) home here c.home-in-Ok.result.now (with_entry home e)
    (c.home-in-Ok.ensures.value ∙ c.in-Ok.ensures.changed.added ∙ ap (λ (h : HomeState). with_entry h e) c.home.ensures.value) (marks_stay (marks_of home))

pub leave-requires-clause-kept : goal.leave-requires-clause-kept
leave-requires-clause-kept g c =
    let home = c.enter-turn.result.home in
    let here : Entered (known c.args.seat) (turn_known c.enter-turn.result) home = record { base = c.enter-turn.ensures.base; sound = c.enter-turn.ensures.sound; grown = c.enter-turn.ensures.grown; knows = c.enter-turn.ensures.knows } in
    kept (known c.args.seat) (turn_known c.enter-turn.result) home here _ home (c.in-Err.ensures.err ∙ c.home.ensures.value) (marks_stay (marks_of home))

pub returns-in-Ok-clause-added : goal.returns-in-Ok-clause-added
returns-in-Ok-clause-added g c =
    let home = c.enter-turn.result.home in
    let here : Entered (known c.args.seat) (turn_known c.enter-turn.result) home = record { base = c.enter-turn.ensures.base; sound = c.enter-turn.ensures.sound; grown = c.enter-turn.ensures.grown; knows = c.enter-turn.ensures.knows } in
    let e = c.in-Ok.ensures.changed.entry in
    added_once (known c.args.seat) (turn_known c.enter-turn.result) home here (known c.leave_with-seat.result) c.home-in-Ok.result.now feeder_fault c.home.result.now c.home.ensures.value
    c.in-Ok.ensures.free e (c.home-in-Ok.ensures.value ∙ c.in-Ok.ensures.changed.added ∙ ap (λ (h : HomeState). with_entry h e) c.home.ensures.value) c.leave_with-seat.ensures.known

pub returns-in-Err-clause-judged : goal.returns-in-Err-clause-judged
returns-in-Err-clause-judged g c =
    let home = c.enter-turn.result.home in
    let here : Entered (known c.args.seat) (turn_known c.enter-turn.result) home = record { base = c.enter-turn.ensures.base; sound = c.enter-turn.ensures.sound; grown = c.enter-turn.ensures.grown; knows = c.enter-turn.ensures.knows } in
    refused_once (known c.args.seat) (turn_known c.enter-turn.result) home here (known c.leave.result) _ feeder_fault c.home.result.now c.home.ensures.value
    c.in-Err.ensures.err c.leave.ensures.known c.in-Err.fault c.in-Err.ensures.first c.in-Err.ensures.short
