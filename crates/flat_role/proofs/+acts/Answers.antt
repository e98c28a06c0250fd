-- The places of the list are those of the code, and each acts itself.
use Rattle.std.proofs.Common.{suc, ◌≡◌, ◌<◌, ◌≤◌, ◌++◌, ℕ, List, length, get_or, sym, ap, ap₂, ◌∙◌, subst, arith, append-nil}
use Rattle.std.specs.List.{between}
use Rattle.std.proofs.lemmas.List.{append_assoc, get_or_default}
use Rattle.std.proofs.lemmas.List.Edits.{between_none}
use Rattle.std.proofs.lemmas.Slice.{between_to_end}
use Rattle.flat_role.specs.declared.marks.Mark.{Mark}
use Rattle.flat_role.specs.Leaves.{is_leaf}
use Rattle.flat_role.specs.PlanMarks.{plan_layout, plan_len, plan_marks, static_at}
use Rattle.flat_role.specs.Progress.{AreOf, IsOf, acts_at, acts_there, marks_by}
use Rattle.flat_role.specs.Updates.{deepest}
use Rattle.flat_role.proofs.MineLemmas.{less_deep}
use Rattle.flat_role.proofs.NextLemmas.{added, read_update}
use Rattle.flat_role.proofs.ProgressLemmas.{offers-acts, place-acts, place-inside}
use Rattle.flat_role.proofs.RelistLemmas.{between_acts_more}
use Rattle.flat_role.proofs.UpdateFacts.{process_at, sound_at}
use Rattle.process_steps.specs.Steps.{offers}
use Rattle.role_statuses.specs.ListLaws.{spot_at}
use Rattle.flat_role.proofs.+acts.Goals as goal

pub relisting::add_acts-loop-at-init : goal.relisting::add_acts-loop-at-init
relisting::add_acts-loop-at-init t c =
    sym (ap (λ qs. c.args.acts.now.items
    ++ acts_at c.args.me.now c.args.plan.now c.args.progress.now qs)
    (between_none c.args.progress.now.active.items c.args.from)
    ∙ append-nil c.args.acts.now.items)

pub relisting::add_acts-add_place-requires : goal.relisting::add_acts-add_place-requires
relisting::add_acts-add_place-requires t c =
    let me = c.args.me.now in
    let plan = c.args.plan.now in
    let k = c.requires.progress in
    let ps : List ℕ = c.args.progress.now.active.items in
    let here : c.loop-at.at < length ps = omega arith in
    let at : c.index-place.result.now ≡ get_or ps c.loop-at.at 0 =
    c.index-place.ensures ∙ get_or_default ps c.loop-at.at c.index-place.result.now 0 here in
    let same : deepest c.as_slice-marks.result.now ≡ deepest c.args.progress.now.marks.items =
    ap deepest c.as_slice-marks.ensures.value in (
      omega (arith, c.decreases, same),
      (
        subst (λ p. p < plan_len plan) (sym at)
            (place-inside me plan c.args.progress.now k c.loop-at.at here),
        (
          ap length c.as_slice-marks.ensures.value ∙ k.as_long,
          (
            subst (AreOf me) (sym c.as_slice-marks.ensures.value) k.mine,
            ap₂ (λ (ms : List Mark) (p : ℕ). is_leaf (plan_marks me plan ms p) (static_at plan p))
                c.as_slice-marks.ensures.value at
                ∙ place-acts me plan c.args.progress.now k c.loop-at.at here,
          ),
        ),
      ),
    )

pub relisting::add_acts-loop-at-preserved : goal.relisting::add_acts-loop-at-preserved
relisting::add_acts-loop-at-preserved t c =
    let me = c.args.me.now in
    let plan = c.args.plan.now in
    let ps : List ℕ = c.args.progress.now.active.items in
    let here : c.loop-at.at < length ps = omega arith in
    let order : c.args.from ≤ c.loop-at.at = omega arith in
    let at : c.index-place.result.now ≡ get_or ps c.loop-at.at 0 =
    c.index-place.ensures ∙ get_or_default ps c.loop-at.at c.index-place.result.now 0 here in
    let more = between_acts_more (spot_at me (plan_layout plan) (marks_by me plan c.args.progress.now))
    ps c.args.from c.loop-at.at order here in
    c.in_ok-add_place.ensures
    ∙ ap₂ (λ xs ys. xs ++ ys) c.loop-at.invariant
    (ap₂ (λ (ms : List Mark) (p : ℕ). acts_there me plan (plan_marks me plan ms) p)
    c.as_slice-marks.ensures.value at)
    ∙ append_assoc c.args.acts.now.items
    (acts_at me plan c.args.progress.now (between c.args.from c.loop-at.at ps))
    (acts_there me plan (marks_by me plan c.args.progress.now) (get_or ps c.loop-at.at 0))
    ∙ ap (λ ys. c.args.acts.now.items ++ ys) (sym more)

pub updates::add_place-add_offers-requires : goal.updates::add_place-add_offers-requires
updates::add_place-add_offers-requires t c =
    let me = c.args.me.now in
    let was = read_update c.args.marks.now c.args.place
    (omega (arith, c.requires.inside, c.requires.as_long)) c.index-marks-place.is c.in-Became.is in
    let less : suc c.in-Became.update.value.depth ≤ deepest c.args.marks.now =
    less_deep c.args.marks.now c.args.place was in
    let same : c.deref.result.now.depth ≡ c.in-Became.update.value.depth =
    ap (λ v. v.depth) c.deref.ensures in (
      omega (arith, c.decreases, less, same),
      ap (λ v. v.role) c.deref.ensures ∙ subst (IsOf me) was (c.requires.mine c.args.place),
    )

pub marks::Update::add_offers-returns-in-Runs : goal.marks::Update::add_offers-returns-in-Runs
marks::Update::add_offers-returns-in-Runs t c =
    let me = c.args.me.now in
    let plan = c.in-Runs.plan in
    let progress = c.in-Runs.progress in
    let r = c.self.inside.me.value in
    let sound = sound_at me r c.self.view_is c.requires c.in-Runs.is c.self.invariant in
    let ps : List ℕ = progress.active.items in
    let all : length ps ≤ c.len.result = omega arith in
    added c.add_acts.result c.args.acts.now.items c.add_acts.new.acts.items
    (ap (acts_at me plan progress) (between_to_end ps 0 c.len.result all)
    ∙ offers-acts me plan progress sound.0
    ∙ ap (offers me) (process_at me r c.self.view_is c.requires c.in-Runs.is))
    c.add_acts.ensures
