-- What is left of the way, and the first place that was found so far.
use Rattle.std.proofs.Common.{◌≡◌, ◌<◌, ◌-◌, length}
use Rattle.std.specs.Prelude.{IfSome}
use Rattle.flat_role.specs.PlanMarks.{plan_layout, plan_len, plan_marks}
use Rattle.flat_role.specs.Progress.{AreOf}
use Rattle.flat_role.proofs.ClimbLemmas.{IsWay}
use Rattle.flat_role.proofs.climbing.climb.Given as goal

abbrev pub invariant-loop-up : goal.invariant-loop-up
invariant-loop-up l = record {
  inside : l.at < plan_len l.plan;
  as_long : length l.marks.items ≡ plan_len l.plan;
  left : IfSome l.left (λ p. p < plan_len l.plan);
  way : IsWay l.me (plan_layout l.plan) (plan_len l.plan) (plan_marks l.me l.plan l.initial.marks.items) l.place l.over (plan_marks l.me l.plan l.marks.items) l.at
      l.ended l.left;
  mine : AreOf l.me l.initial.marks.items → AreOf l.me l.marks.items;
}

abbrev pub decreases-loop-up : goal.decreases-loop-up
decreases-loop-up l = plan_len l.plan - l.at
