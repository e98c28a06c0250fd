-- The place that was found does what the process does, and what is made ready there keeps it. An
-- update that is put in another form is the same process, so its mark stands for the same.
use Rattle.std.proofs.Common.{Bool, Result, Ok, Err, suc, ◌≤◌, ◌≡◌, ◌<◌, ℕ, false, true, length, refl, sym, ap, ◌∙◌, subst, arith, Some, None}
use Rattle.std.specs.Prelude.{IsErr, OnOk}
use Rattle.std.proofs.lemmas.List.{get_or_read}
use Rattle.std.proofs.lemmas.Result.{on_ok_weaker}
use Rattle.dioc_terms.specs.Processes.{Process}
use Rattle.dpoc_process.proofs.ActingLemmas.{acting-offered}
use Rattle.std.specs.Option.{is_some}
use Rattle.dpoc_process.specs.Acting.{acting}
use Rattle.flat_role.proofs.ChosenLemmas.{chosen_of}
use Rattle.flat_role.proofs.FoundLemmas.{found-inside, found-there, front-offered, same_process}
use Rattle.flat_role.proofs.MineLemmas.{less_deep, mine_set}
use Rattle.flat_role.proofs.ReadyLemmas.{chosen_on, kept_on, inner_set}
use Rattle.flat_role.proofs.UpdateFacts.{process_by, sound_again}
use Rattle.flat_role.specs.declared.marks.Mark.TheVariants as kept
use Rattle.flat_role.specs.KeptMarks.{meant}
use Rattle.flat_role.specs.Leaves.{front}
use Rattle.dioc_terms.specs.declared.entries.Act.{Act}
use Rattle.flat_code.specs.Codes.{process_of}
use Rattle.flat_role.specs.declared.marks.State.{State}
use Rattle.flat_role.specs.declared.progress.Progress.{Progress}
use Rattle.flat_role.specs.declared.steps.Chosen.{Chosen}
use Rattle.flat_role.specs.PlanMarks.{mark_in, static_at}
use Rattle.flat_role.specs.Updates.{IsChosenAt, IsSound, deepest, depth_in, process_in}
use Rattle.role_statuses.specs.Kept.{running}
use Rattle.flat_role.specs.Progress.{IsOf, runs_by}
use Rattle.process_steps.specs.Steps.{is_offered, offers}
use Rattle.role_statuses.specs.Marks as mark
use Rattle.flat_role.proofs.+ready.Goals as goal

-- an error keeps nothing
not_here : {T E : Type 0} (P : Type 0) (r : Result T E) → IsErr r → OnOk r P
not_here P (Ok x) failed = cc
not_here P (Err e) failed = tt

pub readying::make_ready-step_at-requires : goal.readying::make_ready-step_at-requires
readying::make_ready-step_at-requires t c =
    let me = c.args.me.now in
    let plan = c.args.plan.now in
    let progress = c.args.progress.now in
    let a = c.args.found.0.now in
    let k = c.requires.progress in
    let at : ℕ = c.args.found.1 in
    let place = c.index-place.result.now in
    let found = found-there me plan progress k a at _ c.requires.found place c.index-place.ensures in (
      omega (arith, c.decreases),
      (
        found-inside me plan progress k a at place found,
        (
          k.as_long,
          (k.mine, front-offered me plan progress k a at place found),
        ),
      ),
    )

-- the progress once the place was made ready, with what it is ready for
pub readying::make_ready-returns : goal.readying::make_ready-returns
readying::make_ready-returns t c =
    let me = c.args.me.now in
    let plan = c.args.plan.now in
    let old = c.args.progress.now in
    let a = c.args.found.0.now in
    let k = c.requires.progress in
    let at : ℕ = c.args.found.1 in
    let place : ℕ = c.index-place.result.now in
    let found = found-there me plan old k a at _ c.requires.found place c.index-place.ensures in
    let chosen : Chosen = record { act = c.of-snapshot.result; at = at } in
    let new : Progress = record {
      marks = c.step_at.new.marks;
      active = old.active;
      fresh = old.fresh;
      chosen = Some chosen;
    } in
    let step = c.step_at.ensures in
    let there = chosen_on me plan old new k a at place found step.same refl
    c.in_ok-step_at.ensures.inner in
    record {
      progress = kept_on me plan old new k a at place found step.as_long step.same step.mine refl
          refl;
      chosen = subst (λ (b : Act). IsChosenAt me plan new b at) (sym c.of-snapshot.ensures) there;
      same = ap (λ ms. running me ms (process_of plan.code)) step.same;
      ready = (c.of-snapshot.ensures, there);
    }

pub readying::make_ready-returns-in_err-step_at-clause-progress : goal.readying::make_ready-returns-in_err-step_at-clause-progress
readying::make_ready-returns-in_err-step_at-clause-progress t c =
    let me = c.args.me.now in
    let plan = c.args.plan.now in
    let old = c.args.progress.now in
    let a = c.args.found.0.now in
    let k = c.requires.progress in
    let at : ℕ = c.args.found.1 in
    let place : ℕ = c.index-place.result.now in
    let found = found-there me plan old k a at _ c.requires.found place c.index-place.ensures in
    let new : Progress = record {
      marks = c.step_at.new.marks;
      active = old.active;
      fresh = old.fresh;
      chosen = None;
    } in
    let step = c.step_at.ensures in
    kept_on me plan old new k a at place found step.as_long step.same step.mine refl refl

pub readying::make_ready-returns-in_err-step_at-clause-same : goal.readying::make_ready-returns-in_err-step_at-clause-same
readying::make_ready-returns-in_err-step_at-clause-same t c =
    ap (λ ms. running c.args.me.now ms (process_of c.args.plan.now.code)) c.step_at.ensures.same

pub readying::make_ready-returns-in_err-step_at-clause-ready : goal.readying::make_ready-returns-in_err-step_at-clause-ready
readying::make_ready-returns-in_err-step_at-clause-ready t c =
    not_here _ c.from_residual.result c.from_residual.ensures.0

-- the mark that is read stands at the place
pub readying::step_at-prepare-requires : goal.readying::step_at-prepare-requires
readying::step_at-prepare-requires t c =
    let me = c.args.me.now in
    let a = c.args.found.0.now in
    let plan = c.args.plan.now in
    let place : ℕ = c.args.found.1 in
    let old = c.args.marks.now.items in
    let inside : place < length old = omega (arith, c.requires.inside, c.requires.as_long) in
    let here = get_or_read old place c.index_mut.result.now inside c.index_mut.ensures.value
    kept.Untouched in
    let was : mark_in old place ≡ kept.Became c.in-Became.update = sym here ∙ c.in-Became.is in
    let e : c.deref_mut.result.now ≡ c.in-Became.update.value = c.deref_mut.ensures.value in
    let less : suc c.in-Became.update.value.depth ≤ deepest old = less_deep old place was in
    let same : c.deref_mut.result.now.depth ≡ c.in-Became.update.value.depth =
    ap (λ w. w.depth) e in (
      omega (arith, c.decreases, less, same),
      (
        ap (λ w. w.role) e ∙ subst (IsOf me) was (c.requires.mine place),
        acting-offered me a c.deref_mut.result.now.process
            ∙ ap (λ w. is_offered a (offers me w.process)) e
            ∙ ap (λ m. is_offered a (offers me
            (front me (meant me (static_at plan place) m) (static_at plan place)))) (sym was)
            ∙ c.requires.offered,
      ),
    )

pub readying::step_at-returns-in-Became-clause-same : goal.readying::step_at-returns-in-Became-clause-same
readying::step_at-returns-in-Became-clause-same t c =
    let me = c.args.me.now in
    let plan = c.args.plan.now in
    let place : ℕ = c.args.found.1 in
    let P = static_at plan place in
    let old = c.args.marks.now.items in
    let inside : place < length old = omega (arith, c.requires.inside, c.requires.as_long) in
    let here = get_or_read old place c.index_mut.result.now inside c.index_mut.ensures.value
    kept.Untouched in
    let was : mark_in old place ≡ kept.Became c.in-Became.update = sym here ∙ c.in-Became.is in
    let e : c.deref_mut.result.now ≡ c.in-Became.update.value = c.deref_mut.ensures.value in
    same_process me plan old place (kept.Became c.in-Became.update) _ inside was
    (ap mark.Became (c.prepare.ensures.same ∙ ap (λ w. w.process) e))

pub readying::step_at-returns-in-Became-clause-mine : goal.readying::step_at-returns-in-Became-clause-mine
readying::step_at-returns-in-Became-clause-mine t c =
    let me = c.args.me.now in
    let place : ℕ = c.args.found.1 in
    let old = c.args.marks.now.items in
    let inside : place < length old = omega (arith, c.requires.inside, c.requires.as_long) in
    mine_set me old place _ inside c.requires.mine c.prepare.ensures.role

pub readying::step_at-returns-in-Became-clause-inner : goal.readying::step_at-returns-in-Became-clause-inner
readying::step_at-returns-in-Became-clause-inner t c =
    let a = c.args.found.0.now in
    let place : ℕ = c.args.found.1 in
    let old = c.args.marks.now.items in
    let inside : place < length old = omega (arith, c.requires.inside, c.requires.as_long) in
    inner_set old place _ inside a c.prepare.result c.prepare.ensures.chosen

pub updates::state_ready-make_ready-requires : goal.updates::state_ready-make_ready-requires
updates::state_ready-make_ready-requires t c =
    let me = c.args.me.now in
    let sound = subst (IsSound me) c.in-Runs.is c.requires.sound in
    let deep : depth_in c.args.state.now ≡ deepest c.in-Runs.progress.marks.items =
    ap depth_in c.in-Runs.is in (
      omega (arith, c.decreases, deep),
      (sound.0, c.find.ensures.found c.in-Some.at c.in-Some.is),
    )

pub updates::state_ready-returns-in-Some : goal.updates::state_ready-returns-in-Some
updates::state_ready-returns-in-Some t c =
    let me = c.args.me.now in
    let a = c.args.act.now in
    let is = c.in-Runs.is in
    let made = c.make_ready.ensures in
    record {
      sound = (made.progress, made.chosen);
      same = made.same ∙ sym (ap (process_in me) is);
      chosen = on_ok_weaker c.make_ready.result
          (chosen_of me c.in-Runs.plan c.make_ready.new.progress a
          c.make_ready.new.progress.chosen) made.ready;
    }

pub marks::Update::prepare-state_ready-requires : goal.marks::Update::prepare-state_ready-requires
marks::Update::prepare-state_ready-requires t c =
    let me = c.args.me.now in
    let a = c.args.act.now in
    let r = c.self.inside.me.value in
    let x = c.self.inside.state in
    let deep : depth_in x ≡ c.args.self.now.depth = ap (λ v. v.depth) c.self.view_is in (
      omega (arith, c.decreases, deep, c.compile_came.ensures.deep),
      (
        c.compile_came.ensures.sound,
        (
          c.in_ok-compile_came.ensures.runs,
          ap (λ (R : Process). is_some (acting me a R))
              (c.compile_came.ensures.same ∙ process_by me r x c.self.view_is c.requires.role)
              ∙ c.requires.acts,
        ),
      ),
    )

pub marks::Update::prepare-invariant_of-self : goal.marks::Update::prepare-invariant_of-self
marks::Update::prepare-invariant_of-self t c =
    sound_again c.args.me.now c.self.inside.me.value c.self.inside.state c.self.view_is
    c.requires.role c.compile_came.new.state c.compile_came.ensures.sound

pub marks::Update::prepare-invariant_of-self-2 : goal.marks::Update::prepare-invariant_of-self-2
marks::Update::prepare-invariant_of-self-2 t c =
    sound_again c.args.me.now c.self.inside.me.value c.self.inside.state c.self.view_is
    c.requires.role c.state_ready.new.state c.state_ready.ensures.sound

none_both : {b : Bool} → b ≡ true → b ≡ false → ⊥
none_both is not = cc

pub updates::state_ready-unreachable-requires : goal.updates::state_ready-unreachable-requires
updates::state_ready-unreachable-requires t c =
    let me = c.args.me.now in
    let a = c.args.act.now in
    none_both
    (sym (acting-offered me a (runs_by me c.in-Runs.plan c.in-Runs.progress))
    ∙ subst (λ (x : State). is_some (acting me a (process_in me x)) ≡ true) c.in-Runs.is
    c.requires.acts) (c.find.ensures.none c.in-None.is)
