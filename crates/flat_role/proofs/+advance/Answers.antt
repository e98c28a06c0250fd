-- The place that was found acts, the constructs around it follow, and others can act in its place.
-- What an update there does is what the place does.
use Rattle.std.proofs.Common.{suc, ◌≡◌, ◌<◌, ◌≤◌, ◌+◌, ◌++◌, ℕ, List, length, take, drop, get_or, set, arith, sym, subst, ap, ap₂, ◌∙◌, None, Some}
use Rattle.std.specs.Prelude.{vec_capacity}
use Rattle.std.proofs.lemmas.List.{get_or_read, set-get_or}
use Rattle.dioc_terms.specs.KeptStores.{store_of}
use Rattle.dpoc_process.specs.Growth.{handed_value, with_written}
use Rattle.dpoc_process.specs.Handed.{Brings, IsEnabled, handed}
use Rattle.dpoc_process.specs.KeptGrowth.{write_of}
use Rattle.dpoc_process.specs.RoleLaws.{local}
use Rattle.dpoc_process.specs.RoleSteps.{IsStep}
use Rattle.flat_role.specs.declared.marks.Mark.{Mark as KeptMark}
use Rattle.flat_role.specs.declared.marks.Mark.TheVariants as kept
use Rattle.flat_role.specs.declared.progress.Progress.{Progress}
use Rattle.flat_role.specs.PlanMarks.{mark_in, plan_len, plan_marks, static_at}
use Rattle.flat_role.specs.Progress.{AreOf, IsOf, runs_by}
use Rattle.flat_role.specs.ReadySteps.{IsOwnOf}
use Rattle.flat_role.specs.Replacing.{replacing}
use Rattle.flat_role.specs.Running.{Running}
use Rattle.flat_role.specs.Updates.{deepest, depth_in, IsChosen, IsInner, IsSound, chosen_in, fresh_in, is_fresh, process_in}
use Rattle.flat_role.specs.Advancing.{ComesTo, IsActingBy, IsReplacedBy, entered_places}
use Rattle.flat_role.proofs.AdvanceLemmas.{code-acted, marks-after, progress-after, room-after, spare-after, steps-after, stop-after, update-acted, update-can, update-own}
use Rattle.flat_role.proofs.ChosenLemmas.{chosen_for, chosen_placed, chosen_some}
use Rattle.flat_role.proofs.FoundLemmas.{at-inside, found-inside, found-there, read-found}
use Rattle.flat_role.proofs.MineLemmas.{less_deep, mine_set}
use Rattle.flat_role.proofs.NextLemmas.{read_own}
use Rattle.flat_role.proofs.UpdateFacts.{process_again, process_by, role_is, room_mine, sound_again, sound_by, told_steps}
use Rattle.dioc_terms.specs.Processes.{Process, letters}
use Rattle.flat_role.specs.declared.marks.State.{State}
use Rattle.process_steps.specs.Steps.{Deed, Given, ended, telling}
use Rattle.role_statuses.specs.Statuses.{Became, Status}
use Rattle.flat_role.proofs.+advance.Goals as goal

pub advancing::advance-chosen_place-at-requires : goal.advancing::advance-chosen_place-at-requires
advancing::advance-chosen_place-at-requires t c =
    chosen_some c.args.me.now c.args.plan.now c.args.progress.now c.args.act.now
    c.args.progress.now.chosen c.requires.ready.chosen

pub advancing::advance-index-place-requires : goal.advancing::advance-index-place-requires
advancing::advance-index-place-requires t c =
    let me = c.args.me.now in
    let plan = c.args.plan.now in
    let old = c.args.progress.now in
    let a = c.args.act.now in
    let at = c.chosen_place-at.result in
    let there = (chosen_placed me plan old a old.chosen at c.chosen_place-at.ensures
    c.requires.ready.chosen).there in
    let inside : at < length old.active.items =
    at-inside me plan old c.requires.progress a at there.place there.found in
    omega (arith, inside, old.active.ok.0)

pub advancing::advance-act_at-over-requires : goal.advancing::advance-act_at-over-requires
advancing::advance-act_at-over-requires t c =
    let me = c.args.me.now in
    let plan = c.args.plan.now in
    let old = c.args.progress.now in
    let k = c.requires.progress in
    let a = c.args.act.now in
    let s = store_of c.args.store.now in
    let at = c.chosen_place-at.result in
    let placed = chosen_placed me plan old a old.chosen at c.chosen_place-at.ensures
    c.requires.ready.chosen in
    let there = placed.there in
    let inside = at-inside me plan old k a at there.place there.found in
    let here : c.index-place.result.now ≡ get_or old.active.items at 0 =
    get_or_read old.active.items at c.index-place.result.now inside c.index-place.ensures 0 in (
      omega (arith, c.decreases),
      (
        k,
        (
          c.requires.has_room,
          (
            c.requires.can,
            (
              (
                at,
                found-there me plan old k a at there.place there.found c.index-place.result.now
                    c.index-place.ensures,
              ),
              (
                subst (λ (p : ℕ). IsInner a (mark_in old.marks.items p))
                    (sym (read-found me plan old k a at there.place there.found
                    c.index-place.result.now c.index-place.ensures)) there.inner,
                subst (λ b. IsOwnOf me s a (runs_by me plan old) b c.args.own.now)
                    (placed.fresh ∙ ap (λ p. is_fresh (mark_in old.marks.items p)) (sym here))
                    c.requires.ready.made,
              ),
            ),
          ),
        ),
      ),
    )

pub advancing::advance-climb-stop-requires-clause-inside : goal.advancing::advance-climb-stop-requires-clause-inside
advancing::advance-climb-stop-requires-clause-inside t c =
    let me = c.args.me.now in
    let plan = c.args.plan.now in
    let old = c.args.progress.now in
    let k = c.requires.progress in
    let a = c.args.act.now in
    let at = c.chosen_place-at.result in
    let there = (chosen_placed me plan old a old.chosen at c.chosen_place-at.ensures
    c.requires.ready.chosen).there in
    let place = c.index-place.result.now in
    found-inside me plan old k a at place
    (found-there me plan old k a at there.place there.found place c.index-place.ensures)

pub advancing::advance-go_on-requires-clause-spare : goal.advancing::advance-go_on-requires-clause-spare
advancing::advance-go_on-requires-clause-spare t c =
    let me = c.args.me.now in
    let plan = c.args.plan.now in
    let old = c.args.progress.now in
    let new = c.act_at-over.new.progress in
    let k = c.requires.progress in
    let s = store_of c.args.store.now in
    let t = store_of c.act_at-over.new.store in
    let a = c.args.act.now in
    let h = handed c.args.got.now in
    let at = c.chosen_place-at.result in
    let there = (chosen_placed me plan old a old.chosen at c.chosen_place-at.ensures
    c.requires.ready.chosen).there in
    let place = c.index-place.result.now in
    let found = found-there me plan old k a at there.place there.found place c.index-place.ensures in
    let mid = new.marks.items in
    let over = c.act_at-over.result in
    let acted = c.act_at-over.ensures.acted in
    subst (λ v. length (entered_places me plan c.climb-stop.new.marks.items c.climb-stop.result)
    ≤ vec_capacity v) (sym c.act_at-over.ensures.fresh)
    (spare-after me plan old new k s t a h at place found mid over acted
    c.climb-stop.new.marks.items c.climb-stop.result
    (marks-after me plan old new k s t a h at place found mid over acted _
    c.climb-stop.ensures.walked)
    (stop-after me plan old new k s t a h at place found mid over acted c.climb-stop.result
    c.climb-stop.ensures.stop))

pub advancing::advance-go_on-requires-clause-room : goal.advancing::advance-go_on-requires-clause-room
advancing::advance-go_on-requires-clause-room t c =
    let me = c.args.me.now in
    let plan = c.args.plan.now in
    let old = c.args.progress.now in
    let new = c.act_at-over.new.progress in
    let k = c.requires.progress in
    let s = store_of c.args.store.now in
    let t = store_of c.act_at-over.new.store in
    let a = c.args.act.now in
    let h = handed c.args.got.now in
    let at = c.chosen_place-at.result in
    let there = (chosen_placed me plan old a old.chosen at c.chosen_place-at.ensures
    c.requires.ready.chosen).there in
    let place = c.index-place.result.now in
    let found = found-there me plan old k a at there.place there.found place c.index-place.ensures in
    let mid = new.marks.items in
    let over = c.act_at-over.result in
    let acted = c.act_at-over.ensures.acted in
    subst (λ v. length v.items
    + length (entered_places me plan c.climb-stop.new.marks.items c.climb-stop.result)
    ≤ vec_capacity v + 1) (sym c.act_at-over.ensures.active)
    (room-after me plan old new k s t a h at place found mid over acted
    c.climb-stop.new.marks.items c.climb-stop.result
    (at-inside me plan old k a at place found)
    (marks-after me plan old new k s t a h at place found mid over acted _
    c.climb-stop.ensures.walked)
    (stop-after me plan old new k s t a h at place found mid over acted c.climb-stop.result
    c.climb-stop.ensures.stop))

pub advancing::advance-returns-clause-progress : goal.advancing::advance-returns-clause-progress
advancing::advance-returns-clause-progress t c =
    let me = c.args.me.now in
    let plan = c.args.plan.now in
    let old = c.args.progress.now in
    let new : Progress = record {
      marks = c.go_on.new.progress.marks;
      active = c.go_on.new.progress.active;
      fresh = c.go_on.new.progress.fresh;
      chosen = None;
    } in
    let k = c.requires.progress in
    let s = store_of c.args.store.now in
    let t = store_of c.act_at-over.new.store in
    let a = c.args.act.now in
    let h = handed c.args.got.now in
    let at = c.chosen_place-at.result in
    let there = (chosen_placed me plan old a old.chosen at c.chosen_place-at.ensures
    c.requires.ready.chosen).there in
    let place = c.index-place.result.now in
    let found = found-there me plan old k a at there.place there.found place c.index-place.ensures in
    let mid = c.act_at-over.new.progress.marks.items in
    let over = c.act_at-over.result in
    let acted = c.act_at-over.ensures.acted in
    let q = c.climb-stop.result in
    let same : new.marks ≡ c.climb-stop.new.marks = c.go_on.ensures.same in
    let same_active = c.act_at-over.ensures.active in
    let later = marks-after me plan old new k s t a h at place found mid over acted
    (plan_marks me plan new.marks.items)
    (ap (λ v. plan_marks me plan v.items) same ∙ c.climb-stop.ensures.walked) in
    progress-after me plan old new k s t a h at place found mid over acted q
    (ap (λ v. length v.items) same ∙ c.climb-stop.ensures.as_long) later
    (stop-after me plan old new k s t a h at place found mid over acted q c.climb-stop.ensures.stop)
    (c.go_on.ensures.listed
    ∙ ap₂ (λ v m. take at v.items ++ (entered_places me plan m.items q ++ drop (at + 1) v.items))
    same_active (sym same))
    (c.go_on.ensures.room ∙ ap vec_capacity same_active)
    (c.go_on.ensures.spare ∙ ap vec_capacity c.act_at-over.ensures.fresh)
    (subst (λ v. AreOf me v.items) (sym same) (c.climb-stop.ensures.mine c.act_at-over.ensures.mine))

pub advancing::advance-returns-clause-steps : goal.advancing::advance-returns-clause-steps
advancing::advance-returns-clause-steps t c = λ given brings.
    let me = c.args.me.now in
    let plan = c.args.plan.now in
    let old = c.args.progress.now in
    let new : Progress = record {
      marks = c.go_on.new.progress.marks;
      active = c.go_on.new.progress.active;
      fresh = c.go_on.new.progress.fresh;
      chosen = None;
    } in
    let k = c.requires.progress in
    let s = store_of c.args.store.now in
    let t = store_of c.act_at-over.new.store in
    let a = c.args.act.now in
    let h = handed c.args.got.now in
    let at = c.chosen_place-at.result in
    let there = (chosen_placed me plan old a old.chosen at c.chosen_place-at.ensures
    c.requires.ready.chosen).there in
    let place = c.index-place.result.now in
    let found = found-there me plan old k a at there.place there.found place c.index-place.ensures in
    let mid = c.act_at-over.new.progress.marks.items in
    let over = c.act_at-over.result in
    let acted = c.act_at-over.ensures.acted in
    let same : new.marks ≡ c.climb-stop.new.marks = c.go_on.ensures.same in
    steps-after me plan old new k s t a h at place found mid over acted
    (marks-after me plan old new k s t a h at place found mid over acted
    (plan_marks me plan new.marks.items)
    (ap (λ v. plan_marks me plan v.items) same ∙ c.climb-stop.ensures.walked))
    given brings

-- the mark that is read stands at the place
pub advancing::act_at-step-requires : goal.advancing::act_at-step-requires
advancing::act_at-step-requires t c =
    let me = c.args.me.now in
    let plan = c.args.plan.now in
    let old = c.args.progress.now in
    let k = c.requires.progress in
    let a = c.args.act.now in
    let h = handed c.args.by.1.now in
    let s = store_of c.args.store.now in
    let place : ℕ = c.args.place in
    let at = c.requires.found.0 in
    let found = c.requires.found.1 in
    let there = found-inside me plan old k a at place found in
    let inside : place < length old.marks.items = omega (arith, there, k.as_long) in
    let was : mark_in old.marks.items place ≡ kept.Became c.in-Became.update =
    sym (get_or_read old.marks.items place c.index_mut.result.now inside c.index_mut.ensures.value
    kept.Untouched) ∙ c.in-Became.is in
    let e : c.deref_mut.result.now ≡ c.in-Became.update.value = c.deref_mut.ensures.value in
    let less : suc c.in-Became.update.value.depth ≤ deepest old.marks.items =
    less_deep old.marks.items place was in
    let same : c.deref_mut.result.now.depth ≡ c.in-Became.update.value.depth =
    ap (λ w. w.depth) e in (
      omega (arith, c.decreases, less, same),
      (
        ap (λ w. w.role) e ∙ subst (IsOf me) was (k.mine place),
        (
          ap (λ w. w.chosen) e ∙ subst (IsInner a) was c.requires.inner,
          (
            subst (λ (w : Running). IsOwnOf me s a w.process w.fresh c.args.by.0.now) (sym e)
                (update-own me plan old k s s a h at place found c.requires.can c.in-Became.update
                c.in-Became.update was inside c.args.by.0.now c.requires.own),
            (
              c.requires.has_room,
              subst (λ (w : Running). IsEnabled (local me w.process s) a h) (sym e)
                  (update-can me plan old k s s a h at place found c.requires.can
                  c.in-Became.update c.in-Became.update was inside),
            ),
          ),
        ),
      ),
    )

pub advancing::act_at-returns-in-Became-clause-mine : goal.advancing::act_at-returns-in-Became-clause-mine
advancing::act_at-returns-in-Became-clause-mine t c =
    let me = c.args.me.now in
    let plan = c.args.plan.now in
    let old = c.args.progress.now in
    let k = c.requires.progress in
    let place : ℕ = c.args.place in
    let there = found-inside me plan old k c.args.act.now c.requires.found.0 place
    c.requires.found.1 in
    mine_set me old.marks.items place _ (omega (arith, there, k.as_long)) k.mine
    c.step.ensures.role

pub advancing::act_at-returns-in-Became-clause-acted : goal.advancing::act_at-returns-in-Became-clause-acted
advancing::act_at-returns-in-Became-clause-acted t c =
    let me = c.args.me.now in
    let plan = c.args.plan.now in
    let old = c.args.progress.now in
    let k = c.requires.progress in
    let a = c.args.act.now in
    let h = handed c.args.by.1.now in
    let s = store_of c.args.store.now in
    let u = store_of c.step.new.store in
    let place : ℕ = c.args.place in
    let at = c.requires.found.0 in
    let found = c.requires.found.1 in
    let there = found-inside me plan old k a at place found in
    let inside : place < length old.marks.items = omega (arith, there, k.as_long) in
    let was : mark_in old.marks.items place ≡ kept.Became c.in-Became.update =
    sym (get_or_read old.marks.items place c.index_mut.result.now inside c.index_mut.ensures.value
    kept.Untouched) ∙ c.in-Became.is in
    let e : c.deref_mut.result.now ≡ c.in-Became.update.value = c.deref_mut.ensures.value in
    update-acted me plan old k s u a h at place found c.requires.can c.in-Became.update _ was inside
    c.step.result c.step.ensures.over
    (subst (λ (w : Running). (given : Given) → Brings (local me w.process s) a h given
    → IsStep (local me w.process s) a given (local me c.step.new.self.process u)) e
    c.step.ensures.steps)

pub advancing::act_at-do_own-requires-clause-inside : goal.advancing::act_at-do_own-requires-clause-inside
advancing::act_at-do_own-requires-clause-inside t c =
    found-inside c.args.me.now c.args.plan.now c.args.progress.now c.requires.progress
    c.args.act.now c.requires.found.0 c.args.place c.requires.found.1

pub advancing::act_at-returns-clause-acted : goal.advancing::act_at-returns-clause-acted
advancing::act_at-returns-clause-acted t c =
    let me = c.args.me.now in
    let plan = c.args.plan.now in
    let old = c.args.progress.now in
    let k = c.requires.progress in
    let a = c.args.act.now in
    let h = handed c.args.by.1.now in
    let s = store_of c.args.store.now in
    let u = store_of c.do_own.new.store in
    let place : ℕ = c.args.place in
    let at = c.requires.found.0 in
    let found = c.requires.found.1 in
    let there = found-inside me plan old k a at place found in
    let inside : place < length old.marks.items = omega (arith, there, k.as_long) in
    let here = get_or_read old.marks.items place c.index_mut.result.now inside
    c.index_mut.ensures.value kept.Untouched in
    let back : set old.marks.items place c.index_mut.result.now ≡ old.marks.items =
    ap (set old.marks.items place) here ∙ set-get_or old.marks.items place kept.Untouched in
    let own = c.args.by.0.now in
    let new = c.do_own.new.marks.items in
    let P = static_at plan place in
    code-acted me plan old k s u a h at place found c.requires.can own new c.do_own.result
    (read_own old.marks.items place inside c.index_mut.ensures.value c.in_default.not-Became)
    c.requires.own
    (subst (λ (ms : List KeptMark). (d : Deed) (y : Status)
    → IsActingBy me plan ms place s own h a d y
    → ComesTo me plan ms new place c.do_own.result y
    × (u ≡ with_written (write_of own.write) (handed_value h) s)) back
    (λ d y acts. c.do_own.ensures.moved me a d y acts))
    (subst (λ (ms : List KeptMark). IsReplacedBy me plan ms place own h
    → ComesTo me plan ms new place c.do_own.result (Became (replacing me P h))
    × (u ≡ with_written (write_of own.write) None s)) back (λ is. c.do_own.ensures.replaced me is))

pub advancing::act_at-returns-clause-mine : goal.advancing::act_at-returns-clause-mine
advancing::act_at-returns-clause-mine t c =
    let me = c.args.me.now in
    let plan = c.args.plan.now in
    let old = c.args.progress.now in
    let k = c.requires.progress in
    let place : ℕ = c.args.place in
    let there = found-inside me plan old k c.args.act.now c.requires.found.0 place
    c.requires.found.1 in
    let inside : place < length old.marks.items = omega (arith, there, k.as_long) in
    let here = get_or_read old.marks.items place c.index_mut.result.now inside
    c.index_mut.ensures.value kept.Untouched in
    let back : set old.marks.items place c.index_mut.result.now ≡ old.marks.items =
    ap (set old.marks.items place) here ∙ set-get_or old.marks.items place kept.Untouched in
    c.do_own.ensures.mine me (subst (AreOf me) (sym back) k.mine)
    (room_mine (is_fresh (mark_in old.marks.items place)) me c.requires.own.part c.args.by.0.now.room
    c.requires.own.room)

pub updates::advance_state-advance-requires : goal.updates::advance_state-advance-requires
updates::advance_state-advance-requires t c =
    let me = c.args.me.now in
    let plan = c.in-Runs.plan in
    let progress = c.in-Runs.progress in
    let a = c.args.act.now in
    let s = store_of c.args.store.now in
    let h = handed c.args.got.now in
    let is = c.in-Runs.is in
    let sound = subst (IsSound me) is c.requires.sound in
    let deep : depth_in c.args.state.now ≡ deepest progress.marks.items = ap depth_in is in (
      omega (arith, c.decreases, deep),
      (
        sound.0,
        (
          record {
            chosen = chosen_for me plan progress a progress.chosen sound.1
                (subst (λ (x : State). chosen_in x ≡ Some a) is c.requires.chosen);
            made = subst
                (λ (x : State). IsOwnOf me s a (process_in me x) (fresh_in x) c.args.own.now) is
                c.requires.own;
          },
          (
            c.requires.has_room,
            subst (λ (x : State). IsEnabled (local me (process_in me x) s) a h) is c.requires.can,
          ),
        ),
      ),
    )

pub updates::advance_state-returns-in-Runs : goal.updates::advance_state-returns-in-Runs
updates::advance_state-returns-in-Runs t c =
    let me = c.args.me.now in
    let plan = c.in-Runs.plan in
    let a = c.args.act.now in
    let s = store_of c.args.store.now in
    let u = store_of c.advance.new.store in
    let h = handed c.args.got.now in
    let is = c.in-Runs.is in
    record {
      sound = (
        c.advance.ensures.progress,
        subst (IsChosen me plan c.advance.new.progress)
            (sym c.advance.ensures.chosen) tt,
      );
      over = c.is_done.ensures;
      steps = λ given brings. subst (λ (x : State). IsStep (local me (process_in me x) s) a given
          (local me (runs_by me plan c.advance.new.progress) u)) (sym is)
          (c.advance.ensures.steps given
          (subst (λ (x : State). Brings (local me (process_in me x) s) a h given) is brings));
    }

pub updates::advance_state-returns-in-Told : goal.updates::advance_state-returns-in-Told
updates::advance_state-returns-in-Told t c =
    let me = c.args.me.now in
    let a = c.args.act.now in
    let s = store_of c.args.store.now in
    let h = handed c.args.got.now in
    let is = c.in-Told.is in
    record {
      sound = tt;
      over = c.tell_next.ensures.over;
      steps = λ given brings. subst (λ (x : State). IsStep (local me (process_in me x) s) a given
          (local me (telling (letters c.tell_next.new.messages.value)) (store_of c.tell_next.new.store)))
          (sym is)
          (told_steps me s (store_of c.tell_next.new.store) a h (letters c.in-Told.messages.value)
          (letters c.tell_next.new.messages.value) c.args.own.now
          (subst (λ (x : State). IsOwnOf me s a (process_in me x) (fresh_in x) c.args.own.now) is
          c.requires.own)
          (subst (λ (x : State). IsEnabled (local me (process_in me x) s) a h) is c.requires.can)
          c.tell_next.ensures.left c.tell_next.ensures.stored given
          (subst (λ (x : State). Brings (local me (process_in me x) s) a h given) is brings));
    }

pub marks::Update::step-advance_state-requires : goal.marks::Update::step-advance_state-requires
marks::Update::step-advance_state-requires t c =
    let me = c.args.me.now in
    let a = c.args.act.now in
    let s = store_of c.args.store.now in
    let h = handed c.args.got.now in
    let r = c.self.inside.me.value in
    let x = c.self.inside.state in
    let old = c.args.self.now in
    let P = process_by me r c.self.inside.state c.self.view_is c.requires.role in
    let deep : depth_in x ≡ old.depth = ap (λ v. v.depth) c.self.view_is in (
      omega (arith, c.decreases, deep),
      (
        sound_by me r x c.self.view_is c.requires.role c.self.invariant,
        (
          ap (λ v. v.chosen) c.self.view_is ∙ c.requires.chosen,
          (
            subst (λ b. IsOwnOf me s a (process_in me x) b c.args.own.now)
                (sym (ap (λ v. v.fresh) c.self.view_is))
                (subst (λ (Q : Process). IsOwnOf me s a Q old.fresh c.args.own.now) (sym P)
                c.requires.own),
            (
              c.requires.has_room,
              subst (λ (Q : Process). IsEnabled (local me Q s) a h) (sym P) c.requires.can,
            ),
          ),
        ),
      ),
    )

pub marks::Update::step-invariant_of-self : goal.marks::Update::step-invariant_of-self
marks::Update::step-invariant_of-self t c =
    sound_again c.args.me.now c.self.inside.me.value c.self.inside.state c.self.view_is
    c.requires.role c.advance_state.new.state c.advance_state.ensures.sound

pub marks::Update::step-returns : goal.marks::Update::step-returns
marks::Update::step-returns t c =
    let me = c.args.me.now in
    let a = c.args.act.now in
    let s = store_of c.args.store.now in
    let u = store_of c.advance_state.new.store in
    let h = handed c.args.got.now in
    let r = c.self.inside.me.value in
    let P = process_by me r c.self.inside.state c.self.view_is c.requires.role in
    let Q = process_again me r c.self.inside.state c.self.view_is c.requires.role c.advance_state.new.state in
    record {
      role = role_is me r c.self.inside.state c.self.view_is c.requires.role;
      over = c.advance_state.ensures.over ∙ ap ended (sym Q);
      steps = λ given brings.
          subst (λ (R : Process). IsStep (local me c.args.self.now.process s) a given (local me R u))
          (sym Q)
          (subst (λ (R : Process). IsStep (local me R s) a given
          (local me (process_in me c.advance_state.new.state) u)) P
          (c.advance_state.ensures.steps given
          (subst (λ (R : Process). Brings (local me R s) a h given) (sym P) brings)));
    }

pub advancing::act_at-index_mut-requires : goal.advancing::act_at-index_mut-requires
advancing::act_at-index_mut-requires t c =
    let there = found-inside c.args.me.now c.args.plan.now c.args.progress.now c.requires.progress
    c.args.act.now c.requires.found.0 c.args.place c.requires.found.1 in
    let longer : length c.args.progress.now.marks.items ≡ plan_len c.args.plan.now =
    c.requires.progress.as_long in
    omega (arith, there, longer)
