-- A place where no update runs offers one act at most.
use Rattle.std.proofs.Common.{◌≡◌, false, sym, ap, ◌∙◌, arith}
use Rattle.flat_role.proofs.FoundLemmas.{meant_own}
use Rattle.flat_role.proofs.LeafActs.{leaf_offers}
use Rattle.flat_role.proofs.NextLemmas.{read_own}
use Rattle.flat_role.proofs.SingleActs.{leaf_offers_just}
use Rattle.flat_role.specs.MovedMarks.{runs_update}
use Rattle.flat_role.specs.PlanMarks.{mark_in, plan_marks, static_at}
use Rattle.process_steps.specs.Steps.{is_offered}
use Rattle.flat_role.proofs.relisting.offers_just.Goals as goal

pub offers_at-requires-clause-own : goal.offers_at-requires-clause-own
offers_at-requires-clause-own c =
    read_own c.args.marks.now c.args.place (omega (arith, c.requires.inside, c.requires.as_long))
    c.index-marks-place.is c.in_default.not-Became

pub returns-in_default : goal.returns-in_default
returns-in_default c = λ yes.
    let me = c.args.me.now in
    let m = plan_marks me c.args.plan.now c.args.marks.now c.args.place in
    let P = static_at c.args.plan.now c.args.place in
    let own : runs_update (mark_in c.args.marks.now c.args.place) ≡ false =
    read_own c.args.marks.now c.args.place (omega (arith, c.requires.inside, c.requires.as_long))
    c.index-marks-place.is c.in_default.not-Became in
    leaf_offers_just me c.args.act.now m P c.requires.leaf
    (meant_own me P (mark_in c.args.marks.now c.args.place) own)
    (ap (is_offered c.args.act.now) (sym (leaf_offers me m P c.requires.leaf))
    ∙ (sym c.offers_at.ensures ∙ yes))
