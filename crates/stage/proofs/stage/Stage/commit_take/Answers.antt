-- A take whose message is there, done in a hold.
use Rattle.std.proofs.Common.{◌≡◌, None, Some, sym, ◌∙◌, subst, ap}
use Rattle.dioc_terms.specs.declared.entries.Entry.TheVariants as entry
use Rattle.dioc_terms.specs.Processes.{load}
use Rattle.network_steps.specs.Network.{pending_at}
use Rattle.net_core.specs.Nets.{network_at}
use Rattle.stage.proofs.HomeLemmas.{Laws}
use Rattle.stage.proofs.HeldLemmas.{Entered, added_once, kept, refused_once}
use Rattle.stage.proofs.HoldLemmas.{did_take, grown_by, own_item, refused_hold}
use Rattle.stage.proofs.SeatLemmas.{take_now}
use Rattle.stage.specs.Faults.{take_fault}
use Rattle.stage.specs.Homes.{HomeState, with_entry}
use Rattle.stage.specs.Marks.{marks_of, marks_stay}
use Rattle.stage.specs.Roles.{CanTake}
use Rattle.turn_lock.specs.Words.{known, turn_known, turn_view, view}
use Rattle.stage.proofs.stage.Stage.commit_take.Goals as goal

pub take-requires : goal.take-requires
take-requires g c =
    let k = c.args.key.now in
    let found = c.enter-turn.ensures in
    record {
      can = subst (λ (h : HomeState). CanTake h.bundle h.history k.to k c.args.var) (sym c.home.ensures.value)
          (take_now (view c.args.seat) c.enter-turn.result.home found.base found.still k.to k c.args.var c.requires.can);
    }

pub leave_with-seat-requires-clause-item : goal.leave_with-seat-requires-clause-item
leave_with-seat-requires-clause-item g c =
    let v = view c.args.seat in
    let u = turn_view c.enter-turn.result in
    let home = c.enter-turn.result.home in
    let e = entry.Take c.args.key.now c.args.var in
    own_item v u home c.home-in-Ok.result.now e
    (grown_by v u home c.home.result.now c.home-in-Ok.result.now e c.enter-turn.ensures.view c.home.ensures.value (c.home-in-Ok.ensures.value ∙ c.in-Ok.ensures.added))
    (sym (c.requires.can (home.bundle, home.limit) c.enter-turn.ensures.base).0)

pub returns-in-Ok-clause-done : goal.returns-in-Ok-clause-done
returns-in-Ok-clause-done g c =
    let v = view c.args.seat in
    let u = turn_view c.enter-turn.result in
    let home = c.enter-turn.result.home in
    let k = c.args.key.now in
    let e = entry.Take k c.args.var in
    let laws : Laws = record { steps = c.steps_run.ensures; keys = c.unique_keys.ensures; maps = c.mail_is_a_map.ensures; offers = c.offers_are_steps.ensures } in
    did_take v u (view c.leave_with-seat.result) home c.home-in-Ok.result.now c.enter-turn.ensures.base c.enter-turn.ensures.still c.enter-turn.ensures.sound
    (take_fault k) (subst (λ (h : HomeState). take_fault k h ≡ None) c.home.ensures.value c.in-Ok.ensures.free) c.deeds_move.ensures c.is_due-due.ensures.sound
    laws k c.args.var (load c.in-Ok.payload) c.requires.can
    (subst (λ (h : HomeState). pending_at k (network_at h.bundle h.history).pending ≡ Some (load c.in-Ok.payload)) c.home.ensures.value c.in-Ok.ensures.taken)
    (grown_by v u home c.home.result.now c.home-in-Ok.result.now e c.enter-turn.ensures.view c.home.ensures.value (c.home-in-Ok.ensures.value ∙ c.in-Ok.ensures.added))
    (record { view = c.leave_with-seat.ensures.view; own = c.leave_with-seat.ensures.met })

pub returns-in-Err-clause-refused : goal.returns-in-Err-clause-refused
returns-in-Err-clause-refused g c =
    refused_hold (view c.args.seat) (turn_view c.enter-turn.result) (view c.leave.result) c.enter-turn.result.home c.home.result.now
    c.enter-turn.ensures.base c.enter-turn.ensures.still c.enter-turn.ensures.sound c.enter-turn.ensures.view c.home.ensures.value c.leave.ensures.view
    (take_fault c.args.key.now) c.in-Err.fault c.in-Err.ensures.first

pub leave_with-seat-requires-clause-kept : goal.leave_with-seat-requires-clause-kept
leave_with-seat-requires-clause-kept g c =
    let home = c.enter-turn.result.home in
    let here : Entered (known c.args.seat) (turn_known c.enter-turn.result) home = record { base = c.enter-turn.ensures.base; sound = c.enter-turn.ensures.sound; grown = c.enter-turn.ensures.grown; knows = c.enter-turn.ensures.knows } in
    let e = entry.Take c.args.key.now c.args.var in
    kept (known c.args.seat) (turn_known c.enter-turn.result) home here c.home-in-Ok.result.now (with_entry home e)
    (c.home-in-Ok.ensures.value ∙ c.in-Ok.ensures.added ∙ ap (λ (h : HomeState). with_entry h e) c.home.ensures.value) (marks_stay (marks_of home))

pub leave-requires-clause-kept : goal.leave-requires-clause-kept
leave-requires-clause-kept g c =
    let home = c.enter-turn.result.home in
    let here : Entered (known c.args.seat) (turn_known c.enter-turn.result) home = record { base = c.enter-turn.ensures.base; sound = c.enter-turn.ensures.sound; grown = c.enter-turn.ensures.grown; knows = c.enter-turn.ensures.knows } in
    kept (known c.args.seat) (turn_known c.enter-turn.result) home here _ home (c.in-Err.ensures.err ∙ c.home.ensures.value) (marks_stay (marks_of home))

pub returns-in-Ok-clause-added : goal.returns-in-Ok-clause-added
returns-in-Ok-clause-added g c =
    let home = c.enter-turn.result.home in
    let here : Entered (known c.args.seat) (turn_known c.enter-turn.result) home = record { base = c.enter-turn.ensures.base; sound = c.enter-turn.ensures.sound; grown = c.enter-turn.ensures.grown; knows = c.enter-turn.ensures.knows } in
    let e = entry.Take c.args.key.now c.args.var in
    added_once (known c.args.seat) (turn_known c.enter-turn.result) home here (known c.leave_with-seat.result) c.home-in-Ok.result.now (take_fault c.args.key.now) c.home.result.now c.home.ensures.value
    c.in-Ok.ensures.free e (c.home-in-Ok.ensures.value ∙ c.in-Ok.ensures.added ∙ ap (λ (h : HomeState). with_entry h e) c.home.ensures.value) c.leave_with-seat.ensures.known

pub returns-in-Err-clause-judged : goal.returns-in-Err-clause-judged
returns-in-Err-clause-judged g c =
    let home = c.enter-turn.result.home in
    let here : Entered (known c.args.seat) (turn_known c.enter-turn.result) home = record { base = c.enter-turn.ensures.base; sound = c.enter-turn.ensures.sound; grown = c.enter-turn.ensures.grown; knows = c.enter-turn.ensures.knows } in
    refused_once (known c.args.seat) (turn_known c.enter-turn.result) home here (known c.leave.result) _ (take_fault c.args.key.now) c.home.result.now c.home.ensures.value
    c.in-Err.ensures.err c.leave.ensures.known c.in-Err.fault c.in-Err.ensures.first c.in-Err.ensures.short
