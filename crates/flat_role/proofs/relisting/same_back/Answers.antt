-- One more is the same.
use Rattle.std.proofs.Common.{◌-◌, ◌∙◌, ap, length, sym, arith}
use Rattle.std.proofs.lemmas.List.{drop_all}
use Rattle.flat_role.specs.PlanMarks.{plan_layout}
use Rattle.flat_role.specs.Progress.{acts_at, marks_by}
use Rattle.flat_role.proofs.RelistLemmas.{back_more}
use Rattle.role_statuses.specs.ListLaws.{spot_at}
use Rattle.flat_role.proofs.relisting.same_back.Goals as goal

pub loop-back-init : goal.loop-back-init
loop-back-init c =
    drop_all (length c.args.acts.now - 0) c.args.acts.now (omega arith)
    ∙ ap (acts_at c.args.me.now c.args.plan.now c.args.progress.now)
    (sym (drop_all (length c.args.progress.now.active.items - 0) c.args.progress.now.active.items (omega arith)))

pub loop-back-preserved : goal.loop-back-preserved
loop-back-preserved c =
    back_more (spot_at c.args.me.now (plan_layout c.args.plan.now) (marks_by c.args.me.now c.args.plan.now c.args.progress.now))
    c.args.acts.now c.args.progress.now.active.items c.loop-back.back (length c.args.acts.now - 1 - c.loop-back.back) (c.len-places.result - 1 - c.loop-back.back)
    c.index-acts-last.result (omega arith) (omega arith) c.index-acts-last.is (c.differs.ensures c.if-differs.false) c.loop-back.invariant
