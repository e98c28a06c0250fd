-- The place is one of the code's, and its mark says whether an update runs there.
use Rattle.std.proofs.Common.{◌≡◌, ◌<◌, ℕ, List, length, get_or, false, sym, ap, ap₂, ◌∙◌, arith}
use Rattle.std.proofs.lemmas.List.{get_or_default}
use Rattle.flat_role.specs.declared.marks.Mark.{Mark}
use Rattle.flat_role.specs.Leaves.{is_became}
use Rattle.flat_role.specs.PlanMarks.{plan_marks}
use Rattle.flat_role.specs.Progress.{marks_by}
use Rattle.flat_role.proofs.FillLemmas.{with_this}
use Rattle.flat_role.proofs.ProgressLemmas.{place-inside}
use Rattle.flat_role.proofs.numbered.runs_updates.Goals as goal

pub is_update-requires : goal.is_update-requires
is_update-requires c =
    let ps : List ℕ = c.args.progress.now.active.items in
    let here : c.loop-at.at < length ps = omega (arith, c.requires.inside) in
    let at : c.index-place.result.now ≡ get_or ps c.loop-at.at 0 =
    c.index-place.ensures ∙ get_or_default ps c.loop-at.at c.index-place.result.now 0 here in
    omega (
      arith,
      at,
      place-inside c.args.me.now c.args.plan.now c.args.progress.now c.requires.progress c.loop-at.at here,
      c.requires.progress.as_long,
      ap length c.as_slice-marks.ensures.value,
    )

pub loop-at-preserved : goal.loop-at-preserved
loop-at-preserved c =
    let me = c.args.me.now in
    let plan = c.args.plan.now in
    let progress = c.args.progress.now in
    let ps : List ℕ = progress.active.items in
    let here : c.loop-at.at < length ps = omega (arith, c.requires.inside) in
    let at : c.index-place.result.now ≡ get_or ps c.loop-at.at 0 =
    c.index-place.ensures ∙ get_or_default ps c.loop-at.at c.index-place.result.now 0 here in
    let slice : List Mark = c.as_slice-marks.result.now in
    let own : is_became (plan_marks me plan slice c.index-place.result.now) ≡ false =
    sym (c.is_update.ensures me plan) ∙ c.if-is_update.false in
    let read = ap₂ (λ (ms : List Mark) (p : ℕ). is_became (plan_marks me plan ms p))
    c.as_slice-marks.ensures.value at in
    with_this (λ i. is_became (marks_by me plan progress (get_or ps i 0)) ≡ false) c.loop-at.at
    c.loop-at.invariant (sym read ∙ own)
