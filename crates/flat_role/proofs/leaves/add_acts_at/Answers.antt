-- A place that can act adds what the process in front of it offers.
use Rattle.std.proofs.Common.{sym}
use Rattle.flat_role.proofs.LeafActs.{leaf_offers}
use Rattle.flat_role.proofs.FoundLemmas.{meant_own}
use Rattle.flat_role.proofs.NextLemmas.{added, single_next}
use Rattle.flat_role.specs.Leaves.{front}
use Rattle.flat_role.specs.PlanMarks.{mark_in, plan_marks, static_at}
use Rattle.flat_role.proofs.leaves.add_acts_at.Goals as goal

pub add_offers_of-requires : goal.add_offers_of-requires
add_offers_of-requires c =
    single_next c.args.me.now
    (plan_marks c.args.me.now c.args.plan.now c.args.marks.now c.args.place)
    (static_at c.args.plan.now c.args.place) c.next_at-next.result c.requires.leaf
    (meant_own c.args.me.now (static_at c.args.plan.now c.args.place)
    (mark_in c.args.marks.now c.args.place) c.requires.own)
    c.next_at-next.ensures.next

pub returns : goal.returns
returns c =
    let m = plan_marks c.args.me.now c.args.plan.now c.args.marks.now c.args.place in
    let P = static_at c.args.plan.now c.args.place in
    added c.add_offers_of.result c.args.acts.now.items c.add_offers_of.new.acts.items
    (sym (leaf_offers c.args.me.now m P c.requires.leaf))
    (c.add_offers_of.ensures (front c.args.me.now m P) c.next_at-next.ensures.next)
