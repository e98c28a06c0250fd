-- The first of the places that offers the act.
use Rattle.std.proofs.Common.{suc, Some, ◌≡◌, ◌<◌, ◌≤◌, ℕ, List, Bool, length, get_or, sym, ap, ap₂, ◌∙◌, subst, arith}
use Rattle.std.specs.List.{list_any}
use Rattle.std.proofs.lemmas.List.{get_or_default, take_all}
use Rattle.dioc_terms.specs.Processes.{process}
use Rattle.dpoc_process.proofs.ActingLemmas.{acting-offered}
use Rattle.flat_role.specs.declared.marks.Mark.{Mark}
use Rattle.flat_role.specs.Leaves.{is_leaf}
use Rattle.flat_role.specs.PlanMarks.{plan_len, plan_marks, static_at}
use Rattle.flat_role.specs.Progress.{AreOf, IsFound, IsOf, marks_by, offers_there, runs_by}
use Rattle.flat_role.specs.Updates.{deepest}
use Rattle.flat_role.proofs.FoundLemmas.{found-offered}
use Rattle.flat_role.proofs.MineLemmas.{less_deep}
use Rattle.flat_role.proofs.NextLemmas.{read_update}
use Rattle.flat_role.proofs.ProgressLemmas.{found-at, none-found, none_passes, place-acts, place-inside}
use Rattle.flat_role.proofs.UpdateFacts.{found_says, maps_some, more_fail, process_at, process_seen, sound_at}
use Rattle.process_steps.specs.Steps.{is_offered, offers}
use Rattle.flat_role.proofs.+find.Goals as goal

pub progress::Progress::find-place_offers-requires : goal.progress::Progress::find-place_offers-requires
progress::Progress::find-place_offers-requires t c =
    let me = c.args.me.now in
    let plan = c.args.plan.now in
    let ps : List ℕ = c.args.self.now.active.items in
    let here : c.loop-at.at < length ps = omega arith in
    let at : c.index-place.result.now ≡ get_or ps c.loop-at.at 0 =
    c.index-place.ensures ∙ get_or_default ps c.loop-at.at c.index-place.result.now 0 here in
    let same : deepest c.as_slice-marks.result.now ≡ deepest c.args.self.now.marks.items =
    ap deepest c.as_slice-marks.ensures.value in (
      omega (arith, c.decreases, same),
      (
        subst (λ p. p < plan_len plan) (sym at)
            (place-inside me plan c.args.self.now c.requires c.loop-at.at here),
        (
          ap length c.as_slice-marks.ensures.value ∙ c.requires.as_long,
          (
            subst (AreOf me) (sym c.as_slice-marks.ensures.value) c.requires.mine,
            ap₂ (λ (ms : List Mark) (p : ℕ). is_leaf (plan_marks me plan ms p) (static_at plan p))
                c.as_slice-marks.ensures.value at
                ∙ place-acts me plan c.args.self.now c.requires c.loop-at.at here,
          ),
        ),
      ),
    )

pub progress::Progress::find-loop-at-preserved : goal.progress::Progress::find-loop-at-preserved
progress::Progress::find-loop-at-preserved t c =
    let me = c.args.me.now in
    let plan = c.args.plan.now in
    let a = c.args.act.now in
    let ps : List ℕ = c.args.self.now.active.items in
    let here : c.loop-at.at < length ps = omega arith in
    let at : c.index-place.result.now ≡ get_or ps c.loop-at.at 0 =
    c.index-place.ensures ∙ get_or_default ps c.loop-at.at c.index-place.result.now 0 here in
    let same = ap₂ (λ (ms : List Mark) (p : ℕ). offers_there me plan (plan_marks me plan ms) a p)
    c.as_slice-marks.ensures.value at in
    more_fail
    (λ i. offers_there me plan (marks_by me plan c.args.self.now) a (get_or ps i 0))
    c.loop-at.at c.loop-at.invariant
    (sym same ∙ sym c.place_offers.ensures ∙ c.if-place_offers.false)

some_place : {x y : ℕ} → Some x ≡ Some y → x ≡ y
some_place e = cc

pub progress::Progress::find-returns-then-place_offers-clause-found : goal.progress::Progress::find-returns-then-place_offers-clause-found
progress::Progress::find-returns-then-place_offers-clause-found t c = λ i found.
    let me = c.args.me.now in
    let plan = c.args.plan.now in
    let a = c.args.act.now in
    let ps : List ℕ = c.args.self.now.active.items in
    let here : c.loop-at.at < length ps = omega arith in
    let at : c.index-place.result.now ≡ get_or ps c.loop-at.at 0 =
    c.index-place.ensures ∙ get_or_default ps c.loop-at.at c.index-place.result.now 0 here in
    let same = ap₂ (λ (ms : List Mark) (p : ℕ). offers_there me plan (plan_marks me plan ms) a p)
    c.as_slice-marks.ensures.value at in
    let test : ℕ → Bool = offers_there me plan (marks_by me plan c.args.self.now) a in
    subst (λ (n : ℕ). IsFound me plan c.args.self.now a n (get_or ps n 0)) (some_place found)
    (found-at me plan c.args.self.now c.requires a c.loop-at.at here
    (none_passes test ps c.loop-at.at (omega (arith, here)) c.loop-at.invariant)
    (sym same ∙ sym c.place_offers.ensures ∙ c.if-place_offers.true))

pub progress::Progress::find-returns-clause-none : goal.progress::Progress::find-returns-clause-none
progress::Progress::find-returns-clause-none t c = λ none.
    let me = c.args.me.now in
    let plan = c.args.plan.now in
    let a = c.args.act.now in
    let ps : List ℕ = c.args.self.now.active.items in
    let test : ℕ → Bool = offers_there me plan (marks_by me plan c.args.self.now) a in
    let all : length ps ≤ c.loop-at.at = omega arith in
    none-found me plan c.args.self.now c.requires a
    (ap (list_any test) (sym (take_all (length ps) ps (omega arith)))
    ∙ none_passes test ps (length ps) (omega arith)
    (λ k below. c.loop-at.invariant k (omega (arith, below, all))))

pub updates::place_offers-offers-requires : goal.updates::place_offers-offers-requires
updates::place_offers-offers-requires t c =
    let me = c.args.me.now in
    let was = read_update c.args.marks.now c.args.place
    (omega (arith, c.requires.inside, c.requires.as_long)) c.index-marks-place.is c.in-Became.is in
    let less : suc c.in-Became.update.value.depth ≤ deepest c.args.marks.now =
    less_deep c.args.marks.now c.args.place was in
    let same : c.deref.result.now.depth ≡ c.in-Became.update.value.depth =
    ap (λ v. v.depth) c.deref.ensures in (
      omega (arith, c.decreases, less, same),
      ap (λ v. v.role) c.deref.ensures ∙ subst (IsOf me) was (c.requires.mine c.args.place),
    )

pub marks::Update::offers-returns-in-Came : goal.marks::Update::offers-returns-in-Came
marks::Update::offers-returns-in-Came t c =
    let me = c.args.me.now in
    let a = c.args.act.now in
    c.is_some.ensures ∙ maps_some _ c.find.result _ c.find.ensures
    ∙ acting-offered me a (process c.in-Came.proc)
    ∙ ap (λ P. is_offered a (offers me P))
    (process_seen c.self.inside.me.value c.self.view_is c.in-Came.is)

pub marks::Update::offers-returns-in-Runs : goal.marks::Update::offers-returns-in-Runs
marks::Update::offers-returns-in-Runs t c =
    let me = c.args.me.now in
    let a = c.args.act.now in
    let plan = c.in-Runs.plan in
    let progress = c.in-Runs.progress in
    let r = c.self.inside.me.value in
    let sound = sound_at me r c.self.view_is c.requires c.in-Runs.is c.self.invariant in
    c.is_some-in-Runs.ensures
    ∙ found_says c.find-in-Runs.result (is_offered a (offers me (runs_by me plan progress)))
    (λ i found. found-offered me plan progress sound.0 a i (get_or progress.active.items i 0)
    (c.find-in-Runs.ensures.found i found))
    c.find-in-Runs.ensures.none
    ∙ ap (λ P. is_offered a (offers me P))
    (process_at me r c.self.view_is c.requires c.in-Runs.is)
