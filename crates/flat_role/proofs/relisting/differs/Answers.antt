-- The place is one of the code's, and acts itself.
use Rattle.std.proofs.Common.{◌≡◌, ◌<◌, ℕ, Bool, List, length, get_or, true, false, refl, sym, ap, ap₂, ◌∙◌, subst}
use Rattle.std.specs.Prelude.{not}
use Rattle.std.proofs.lemmas.List.{get_or_default}
use Rattle.flat_role.specs.declared.marks.Mark.{Mark}
use Rattle.flat_role.specs.Leaves.{is_leaf}
use Rattle.flat_role.specs.PlanMarks.{plan_len, plan_marks, static_at}
use Rattle.flat_role.specs.Progress.{acts_there}
use Rattle.flat_role.proofs.ProgressLemmas.{place-acts, place-inside}
use Rattle.flat_role.proofs.relisting.differs.Goals as goal

not_false : (t : Bool) → not t ≡ false → t ≡ true
not_false true h = refl
not_false false h = sym h

pub offers_just-requires-clause-inside : goal.offers_just-requires-clause-inside
offers_just-requires-clause-inside c =
    let ps : List ℕ = c.args.progress.now.active.items in
    let at : c.index-place.result.now ≡ get_or ps c.args.at 0 = c.index-place.ensures ∙ get_or_default ps c.args.at c.index-place.result.now 0 c.requires.inside in
    subst (λ p. p < plan_len c.args.plan.now) (sym at) (place-inside c.args.me.now c.args.plan.now c.args.progress.now c.requires.progress c.args.at c.requires.inside)

pub offers_just-requires-clause-as_long : goal.offers_just-requires-clause-as_long
offers_just-requires-clause-as_long c = ap length c.as_slice-marks.ensures.value ∙ c.requires.progress.as_long

pub offers_just-requires-clause-leaf : goal.offers_just-requires-clause-leaf
offers_just-requires-clause-leaf c =
    let ps : List ℕ = c.args.progress.now.active.items in
    let at : c.index-place.result.now ≡ get_or ps c.args.at 0 = c.index-place.ensures ∙ get_or_default ps c.args.at c.index-place.result.now 0 c.requires.inside in
    ap₂ (λ (ms : List Mark) (p : ℕ). is_leaf (plan_marks c.args.me.now c.args.plan.now ms p) (static_at c.args.plan.now p)) c.as_slice-marks.ensures.value at
    ∙ place-acts c.args.me.now c.args.plan.now c.args.progress.now c.requires.progress c.args.at c.requires.inside

pub returns : goal.returns
returns c = λ no.
    let ps : List ℕ = c.args.progress.now.active.items in
    let at : c.index-place.result.now ≡ get_or ps c.args.at 0 = c.index-place.ensures ∙ get_or_default ps c.args.at c.index-place.result.now 0 c.requires.inside in
    sym (ap₂ (λ (ms : List Mark) (p : ℕ). acts_there c.args.me.now c.args.plan.now (plan_marks c.args.me.now c.args.plan.now ms) p) c.as_slice-marks.ensures.value at)
    ∙ c.offers_just.ensures (not_false c.offers_just.result no)
