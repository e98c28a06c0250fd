-- One mark, or those of a construct that begins again.
use Rattle.std.proofs.Common.{◌≡◌, ◌+◌, ◌≤◌, ap, ◌∙◌, arith}
use Rattle.std.proofs.lemmas.List.{length-set}
use Rattle.flat_role.specs.PlanMarks.{low_at}
use Rattle.flat_role.proofs.ClimbLemmas.{begins_again, low_before, puts}
use Rattle.flat_role.proofs.MineLemmas.{mine_set, mine_wiped}
use Rattle.flat_role.proofs.climbing.write.Goals as goal

pub returns-after-loop-at-clause-written : goal.returns-after-loop-at-clause-written
returns-after-loop-at-clause-written c me =
    let plan = c.args.plan.now in
    let base : c.level-low.result.low ≡ low_at plan c.args.place = ap (λ l. l.low) c.level-low.ensures.is in
    let least : low_at plan c.args.place ≤ c.args.place = low_before plan c.args.place c.requires.inside in
    let last : c.loop-at.at ≡ c.args.place + 1 = omega (arith, base, least, c.loop-at.auto.at-end, c.loop-at-test.false) in
    begins_again me plan c.args.marks.now.items c.loop-at.marks.items c.args.place c.level-low.result.low c.loop-at.at c.args.mark c.requires.inside c.in-Untouched.is
    base last c.loop-at.invariant.wiped

pub returns-in_default : goal.returns-in_default
returns-in_default c = record {
  as_long = length-set c.args.marks.now.items c.args.place c.args.mark ∙ c.requires.as_long;
  written = λ me. puts me c.args.plan.now c.args.marks.now.items c.args.place c.args.mark (omega (arith, c.requires.inside, c.requires.as_long)) c.in_default.not-Untouched;
  mine = λ me. mine_set me c.args.marks.now.items c.args.place c.args.mark (omega (arith, c.requires.inside, c.requires.as_long));
}

pub returns-after-loop-at-clause-mine : goal.returns-after-loop-at-clause-mine
returns-after-loop-at-clause-mine c = λ me mine own.
    mine_wiped me c.args.marks.now.items c.loop-at.marks.items c.level-low.result.low c.loop-at.at c.loop-at.invariant.wiped mine
