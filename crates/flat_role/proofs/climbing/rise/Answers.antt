-- The mark is written, or stays as it is.
use Rattle.std.proofs.Common.{◌≡◌, ◌+◌, ◌<◌, ◌∙◌, ℕ, suc, not, Bool, ap, sym, subst, refl, arith}
use Rattle.std.specs.Prelude.{IfSome, nat_eq}
use Rattle.std.proofs.lemmas.List.{get_or_read}
use Rattle.flat_role.specs.declared.marks.Mark.TheVariants as kept
use Rattle.flat_role.specs.PlanMarks.{plan_len, static_at}
use Rattle.flat_role.specs.Progress.{IsOf}
use Rattle.flat_role.proofs.ClimbLemmas.{behind, rises_leaving, rises_writing}
use Rattle.flat_role.proofs.climbing.rise.Goals as goal

pub returns-in-Some-clause-above : goal.returns-in-Some-clause-above
returns-in-Some-clause-above c = behind c.args.plan.now c.args.at c.level-up.result.parent c.requires.inside (ap (λ l. l.parent) c.level-up.ensures.is)

pub returns-in_default-clause-above : goal.returns-in_default-clause-above
returns-in_default-clause-above c = behind c.args.plan.now c.args.at c.level-up.result.parent c.requires.inside (ap (λ l. l.parent) c.level-up.ensures.is)

pub returns-in-Some-clause-rises : goal.returns-in-Some-clause-rises
returns-in-Some-clause-rises c me =
    let plan = c.args.plan.now in
    let old = c.args.marks.now.items in
    let at : ℕ = c.args.at in
    let up : ℕ = c.level-up.result.parent in
    let inside : up < plan_len plan = omega (arith, c.places.ensures, c.if-up-places.false) in
    let first : Bool = not (nat_eq (at + 1) up) in
    let which : first ≡ not (nat_eq (suc at) up) = ap (λ n. not (nat_eq n up)) (omega arith) in
    rises_writing me plan old c.write.new.marks.items at up first c.args.over c.after_part-new.result.1 c.index-mark.result.now
    c.after_part-new.result.0 c.in-Some.mark c.in-Some.is (sym (ap (λ l. l.parent) c.level-up.ensures.is)) inside
    (get_or_read old up c.index-mark.result.now (omega (arith, inside, c.requires.as_long)) c.index-mark.ensures kept.Untouched)
    which (sym (c.goes_up.ensures me (static_at plan up)) ∙ c.if-not-goes_up.false) (c.after_part-new.ensures.over me) (c.after_part-new.ensures.marked me)
    (c.write.ensures.written me)

pub returns-in_default-clause-rises : goal.returns-in_default-clause-rises
returns-in_default-clause-rises c me =
    let plan = c.args.plan.now in
    let old = c.args.marks.now.items in
    let at : ℕ = c.args.at in
    let up : ℕ = c.level-up.result.parent in
    let inside : up < plan_len plan = omega (arith, c.places.ensures, c.if-up-places.false) in
    let first : Bool = not (nat_eq (at + 1) up) in
    let which : first ≡ not (nat_eq (suc at) up) = ap (λ n. not (nat_eq n up)) (omega arith) in
    rises_leaving me plan old old at up first c.args.over c.after_part-new.result.1 c.index-mark.result.now
    c.after_part-new.result.0 c.in_default.is (sym (ap (λ l. l.parent) c.level-up.ensures.is)) inside
    (get_or_read old up c.index-mark.result.now (omega (arith, inside, c.requires.as_long)) c.index-mark.ensures kept.Untouched)
    which (sym (c.goes_up.ensures me (static_at plan up)) ∙ c.if-not-goes_up.false) (c.after_part-new.ensures.over me) (c.after_part-new.ensures.marked me)
    (c.after_part-new.ensures.left me) refl

pub returns-in-Some-clause-mine : goal.returns-in-Some-clause-mine
returns-in-Some-clause-mine c = λ me mine. c.write.ensures.mine me mine
    (subst (λ o. IfSome o (IsOf me)) c.in-Some.is (c.after_part-new.ensures.mine me))
