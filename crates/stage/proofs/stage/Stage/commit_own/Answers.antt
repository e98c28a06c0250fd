-- What a role can do alone, done in a hold.
use Rattle.std.proofs.Common.{◌≡◌, None, sym, ◌∙◌, subst, ap}
use Rattle.stage.proofs.HeldLemmas.{Entered, added_once, kept, refused_once}
use Rattle.stage.proofs.HoldLemmas.{did_own, grown_by, own_entry, own_item, refused_hold}
use Rattle.stage.proofs.SeatLemmas.{can_add_now}
use Rattle.stage.specs.Faults.{role_fault}
use Rattle.stage.specs.Homes.{HomeState, with_entry}
use Rattle.stage.specs.Marks.{marks_of, marks_stay}
use Rattle.stage.specs.Roles.{CanAdd}
use Rattle.turn_lock.specs.Words.{known, turn_known, turn_view, view}
use Rattle.stage.proofs.stage.Stage.commit_own.Goals as goal

pub add-requires : goal.add-requires
add-requires g c =
    let found = c.enter-turn.ensures in
    record {
      can = subst (λ (h : HomeState). CanAdd h.bundle h.history c.args.entry) (sym c.home.ensures.value)
          (can_add_now (view c.args.seat) c.enter-turn.result.home found.base found.still c.args.entry c.requires.can);
    }

pub leave_with-seat-requires-clause-item : goal.leave_with-seat-requires-clause-item
leave_with-seat-requires-clause-item g c =
    let v = view c.args.seat in
    let u = turn_view c.enter-turn.result in
    let home = c.enter-turn.result.home in
    own_item v u home c.home-in-Ok.result.now c.args.entry
    (grown_by v u home c.home.result.now c.home-in-Ok.result.now c.args.entry c.enter-turn.ensures.view c.home.ensures.value (c.home-in-Ok.ensures.value ∙ c.in-Ok.ensures.added))
    (own_entry v home c.args.entry c.enter-turn.ensures.base c.requires.can)

pub returns-in-Ok-clause-done : goal.returns-in-Ok-clause-done
returns-in-Ok-clause-done g c =
    let v = view c.args.seat in
    let u = turn_view c.enter-turn.result in
    let home = c.enter-turn.result.home in
    did_own v u (view c.leave_with-seat.result) home c.home-in-Ok.result.now c.enter-turn.ensures.base c.enter-turn.ensures.still c.enter-turn.ensures.sound
    role_fault (subst (λ (h : HomeState). role_fault h ≡ None) c.home.ensures.value c.in-Ok.ensures.free) c.deeds_move.ensures c.is_due-due.ensures.sound
    c.steps_show_their_acts.ensures c.args.entry c.requires.can
    (grown_by v u home c.home.result.now c.home-in-Ok.result.now c.args.entry c.enter-turn.ensures.view c.home.ensures.value (c.home-in-Ok.ensures.value ∙ c.in-Ok.ensures.added))
    (record { view = c.leave_with-seat.ensures.view; own = c.leave_with-seat.ensures.met })

pub returns-in-Err-clause-refused : goal.returns-in-Err-clause-refused
returns-in-Err-clause-refused g c =
    refused_hold (view c.args.seat) (turn_view c.enter-turn.result) (view c.leave.result) c.enter-turn.result.home c.home.result.now
    c.enter-turn.ensures.base c.enter-turn.ensures.still c.enter-turn.ensures.sound c.enter-turn.ensures.view c.home.ensures.value c.leave.ensures.view
    role_fault c.in-Err.fault c.in-Err.ensures.first

pub leave_with-seat-requires-clause-kept : goal.leave_with-seat-requires-clause-kept
leave_with-seat-requires-clause-kept g c =
    let home = c.enter-turn.result.home in
    let here : Entered (known c.args.seat) (turn_known c.enter-turn.result) home = record { base = c.enter-turn.ensures.base; sound = c.enter-turn.ensures.sound; grown = c.enter-turn.ensures.grown; knows = c.enter-turn.ensures.knows } in
    let e = c.args.entry in
    kept (known c.args.seat) (turn_known c.enter-turn.result) home here c.home-in-Ok.result.now (with_entry home e)
    (c.home-in-Ok.ensures.value ∙ c.in-Ok.ensures.added ∙ ap (λ (h : HomeState). with_entry h e) c.home.ensures.value) (marks_stay (marks_of home))

pub leave-requires-clause-kept : goal.leave-requires-clause-kept
leave-requires-clause-kept g c =
    let home = c.enter-turn.result.home in
    let here : Entered (known c.args.seat) (turn_known c.enter-turn.result) home = record { base = c.enter-turn.ensures.base; sound = c.enter-turn.ensures.sound; grown = c.enter-turn.ensures.grown; knows = c.enter-turn.ensures.knows } in
    kept (known c.args.seat) (turn_known c.enter-turn.result) home here _ home (c.in-Err.ensures.err ∙ c.home.ensures.value) (marks_stay (marks_of home))

pub returns-in-Ok-clause-added : goal.returns-in-Ok-clause-added
returns-in-Ok-clause-added g c =
    let home = c.enter-turn.result.home in
    let here : Entered (known c.args.seat) (turn_known c.enter-turn.result) home = record { base = c.enter-turn.ensures.base; sound = c.enter-turn.ensures.sound; grown = c.enter-turn.ensures.grown; knows = c.enter-turn.ensures.knows } in
    let e = c.args.entry in
    added_once (known c.args.seat) (turn_known c.enter-turn.result) home here (known c.leave_with-seat.result) c.home-in-Ok.result.now role_fault c.home.result.now c.home.ensures.value
    c.in-Ok.ensures.free e (c.home-in-Ok.ensures.value ∙ c.in-Ok.ensures.added ∙ ap (λ (h : HomeState). with_entry h e) c.home.ensures.value) c.leave_with-seat.ensures.known

pub returns-in-Err-clause-judged : goal.returns-in-Err-clause-judged
returns-in-Err-clause-judged g c =
    let home = c.enter-turn.result.home in
    let here : Entered (known c.args.seat) (turn_known c.enter-turn.result) home = record { base = c.enter-turn.ensures.base; sound = c.enter-turn.ensures.sound; grown = c.enter-turn.ensures.grown; knows = c.enter-turn.ensures.knows } in
    refused_once (known c.args.seat) (turn_known c.enter-turn.result) home here (known c.leave.result) _ role_fault c.home.result.now c.home.ensures.value
    c.in-Err.ensures.err c.leave.ensures.known c.in-Err.fault c.in-Err.ensures.first c.in-Err.ensures.short
