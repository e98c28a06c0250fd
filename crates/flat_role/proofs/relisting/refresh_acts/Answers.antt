-- What is at the front and at the back stays, and what is between is listed anew.
use Rattle.std.proofs.Common.{◌≡◌, ◌+◌, ◌-◌, ◌≤◌, ◌++◌, ℕ, List, drop, length, take, ap₂, ◌∙◌, subst, arith}
use Rattle.std.specs.List.{between}
use Rattle.std.proofs.lemmas.Result.{on_ok_weaker}
use Rattle.dioc_terms.specs.declared.entries.Act.{Act}
use Rattle.flat_role.specs.PlanMarks.{plan_layout}
use Rattle.flat_role.specs.Progress.{acts_at, marks_by}
use Rattle.flat_role.proofs.ProgressLemmas.{offers-acts}
use Rattle.flat_role.proofs.RelistLemmas.{acts_split}
use Rattle.role_statuses.specs.ListLaws.{spot_at}
use Rattle.flat_role.proofs.relisting.refresh_acts.Goals as goal

pub put_between-requires : goal.put_between-requires
put_between-requires c =
    subst (λ (xs : List Act). c.same_front-front.result + c.same_back-back.result ≤ length xs) c.as_slice-before.ensures.value c.same_back-back.ensures.acts

pub returns : goal.returns
returns c =
    let me = c.args.me.now in
    let plan = c.args.plan.now in
    let progress = c.args.progress.now in
    let ps : List ℕ = progress.active.items in
    let acts : List Act = c.args.acts.now.items in
    let front = c.same_front-front.result in
    let back = c.same_back-back.result in
    let first : take front acts ≡ acts_at me plan progress (take front ps) =
    subst (λ (xs : List Act). take front xs ≡ acts_at me plan progress (take front ps)) c.as_slice-before.ensures.value c.same_front-front.ensures.same in
    let last : drop (length acts - back) acts ≡ acts_at me plan progress (drop (length ps - back) ps) =
    subst (λ (xs : List Act). drop (length xs - back) xs ≡ acts_at me plan progress (drop (length ps - back) ps)) c.as_slice-before.ensures.value c.same_back-back.ensures.same in
    let long : c.len.result - back ≡ length ps - back = omega arith in
    let order : front ≤ length ps - back = omega (arith, c.same_back-back.ensures.places) in
    let fresh : c.add_acts.new.acts.items ≡ acts_at me plan progress (between front (length ps - back) ps) =
    c.in_ok-add_acts.ensures ∙ ap₂ (λ (xs : List Act) (n : ℕ). xs ++ acts_at me plan progress (between front n ps)) c.new-fresh.ensures.items long in
    on_ok_weaker c.put_between.result
    (λ e. e ∙ ap₂ (λ xs ys. xs ++ ys) first (ap₂ (λ xs ys. xs ++ ys) fresh last)
    ∙ acts_split (spot_at me (plan_layout plan) (marks_by me plan progress)) ps front (length ps - back) order
    ∙ offers-acts me plan progress c.requires)
    c.put_between.ensures
