-- A step of the way, and its end.
use Rattle.std.proofs.Common.{◌<◌, ℕ, sym, subst, ◌∙◌}
use Rattle.std.specs.Prelude.{IfSome}
use Rattle.flat_role.specs.PlanMarks.{plan_layout, plan_len, plan_marks}
use Rattle.flat_role.proofs.ClimbLemmas.{IsWay, found_inside, way_ends, way_rises}
use Rattle.flat_role.proofs.climbing.climb.Goals as goal

pub loop-up-preserved : goal.loop-up-preserved
loop-up-preserved c =
    let me = c.args.me.now in
    let plan = c.args.plan.now in
    let n : ℕ = plan_len plan in
    let l = c.loop-up in
    let start = plan_marks me plan c.args.marks.now.items in
    let new = plan_marks me plan c.rise.new.marks.items in
    record {
      inside = c.in-Some.ensures.inside;
      as_long = c.rise.ensures.as_long;
      left = subst (λ p. IfSome p (λ q. q < n)) (sym c.first_left-left.ensures)
          (found_inside l.left l.at n l.ended l.invariant.left l.invariant.inside);
      way = subst (λ p. IsWay me (plan_layout plan) n start c.args.place c.args.over new c.in-Some.up c.in-Some.up_ended p) (sym c.first_left-left.ensures)
          (way_rises me (plan_layout plan) n start c.args.place c.args.over (plan_marks me plan l.marks.items) new l.at l.ended l.left (c.in-Some.up, c.in-Some.up_ended)
          l.invariant.way l.invariant.inside c.in-Some.ensures.above (c.in-Some.ensures.rises me));
      mine = λ mine. c.rise.ensures.mine me (l.invariant.mine mine);
    }

pub returns-clause-walked : goal.returns-clause-walked
returns-clause-walked c =
    let me = c.args.me.now in
    let plan = c.args.plan.now in
    let l = c.loop-up in
    (way_ends me (plan_layout plan) (plan_len plan) (plan_marks me plan c.args.marks.now.items) c.args.place c.args.over (plan_marks me plan l.marks.items)
    (plan_marks me plan c.rise.new.marks.items) l.at l.ended l.left l.invariant.way l.invariant.inside (c.in_default.ensures.rises me)).walked

pub returns-clause-stop : goal.returns-clause-stop
returns-clause-stop c =
    let me = c.args.me.now in
    let plan = c.args.plan.now in
    let l = c.loop-up in
    c.first_left.ensures
    ∙ (way_ends me (plan_layout plan) (plan_len plan) (plan_marks me plan c.args.marks.now.items) c.args.place c.args.over (plan_marks me plan l.marks.items)
    (plan_marks me plan c.rise.new.marks.items) l.at l.ended l.left l.invariant.way l.invariant.inside (c.in_default.ensures.rises me)).stopped

pub returns-clause-mine : goal.returns-clause-mine
returns-clause-mine c = λ mine.
    c.rise.ensures.mine c.args.me.now (c.loop-up.invariant.mine mine)
