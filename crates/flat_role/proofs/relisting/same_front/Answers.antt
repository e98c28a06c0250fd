-- One more is the same.
use Rattle.std.proofs.Common.{arith}
use Rattle.flat_role.specs.PlanMarks.{plan_layout}
use Rattle.flat_role.specs.Progress.{marks_by}
use Rattle.flat_role.proofs.RelistLemmas.{front_more}
use Rattle.role_statuses.specs.ListLaws.{spot_at}
use Rattle.flat_role.proofs.relisting.same_front.Goals as goal

pub loop-at-preserved : goal.loop-at-preserved
loop-at-preserved c =
    front_more (spot_at c.args.me.now (plan_layout c.args.plan.now) (marks_by c.args.me.now c.args.plan.now c.args.progress.now))
    c.args.acts.now c.args.progress.now.active.items c.loop-at.at c.index-acts-at.result (omega arith) (omega arith) c.index-acts-at.is
    (c.differs.ensures c.if-differs.false) c.loop-at.invariant
