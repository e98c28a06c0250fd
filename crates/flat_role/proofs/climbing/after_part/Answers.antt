-- What a construct comes to, by its op.
use Rattle.std.proofs.Common.{◌<◌, List, ap, ◌∙◌, arith}
use Rattle.dioc_terms.specs.Processes.{Process}
use Rattle.flat_code.specs.Places.{at, op_process, processes}
use Rattle.flat_role.specs.PlanMarks.{plan_len, static_at}
use Rattle.flat_role.proofs.ClimbLemmas.{are_some, begun_mark, begun_over, scope_gathers, scope_goes_on, second_over, turn_gathers}
use Rattle.flat_role.proofs.KnownPlaces.{place_says}
use Rattle.flat_role.proofs.climbing.after_part.Goals as goal

pub returns-in-true-true-clause-over : goal.returns-in-true-true-clause-over
returns-in-true-true-clause-over c me =
    let plan = c.args.plan.now in
    let done : List Process = processes plan.code.ops.items in
    let earlier = (rw c.in-Seq.is at c.op_at.ensures.earlier).1.0 in
    let inside : c.in-Seq.second < plan_len plan = omega (arith, earlier, c.requires) in
    second_over me (static_at plan c.args.up) (at done c.in-Seq.first) (at done c.in-Seq.second) c.args.first c.args.over c.level.result.ended _
    (c.op_at.ensures.stands ∙ ap (op_process done) c.in-Seq.is) c.in-true-true.is-0 c.in-true-true.is-1
    (ap (λ l. l.ended) c.level.ensures.is ∙ (place_says plan c.in-Seq.second inside).ended_is)

pub returns-in-Untouched-clause-marked : goal.returns-in-Untouched-clause-marked
returns-in-Untouched-clause-marked c me =
    let plan = c.args.plan.now in
    let done : List Process = processes plan.code.ops.items in
    let earlier = rw c.in-Par.is at c.op_at.ensures.earlier in
    let left : c.in-Par.left < plan_len plan = omega (arith, earlier.0, c.requires) in
    let right : c.in-Par.right < plan_len plan = omega (arith, earlier.1.0, c.requires) in
    begun_mark me (static_at plan c.args.up) (at done c.in-Par.left) (at done c.in-Par.right) c.args.first c.args.over c.level-left.result.ended c.level-right.result.ended
    c.args.mark.now c.beside.result.0
    (c.op_at.ensures.stands ∙ ap (op_process done) c.in-Par.is) c.in-Untouched.is c.beside.ensures.mark
    (ap (λ l. l.ended) c.level-left.ensures.is ∙ (place_says plan c.in-Par.left left).ended_is)
    (ap (λ l. l.ended) c.level-right.ensures.is ∙ (place_says plan c.in-Par.right right).ended_is)

pub returns-in-Untouched-clause-over : goal.returns-in-Untouched-clause-over
returns-in-Untouched-clause-over c me =
    let plan = c.args.plan.now in
    let done : List Process = processes plan.code.ops.items in
    let earlier = rw c.in-Par.is at c.op_at.ensures.earlier in
    let left : c.in-Par.left < plan_len plan = omega (arith, earlier.0, c.requires) in
    let right : c.in-Par.right < plan_len plan = omega (arith, earlier.1.0, c.requires) in
    begun_over me (static_at plan c.args.up) (at done c.in-Par.left) (at done c.in-Par.right) c.args.first c.args.over c.level-left.result.ended c.level-right.result.ended
    c.beside.result.1 c.args.mark.now
    (c.op_at.ensures.stands ∙ ap (op_process done) c.in-Par.is) c.in-Untouched.is c.beside.ensures.over
    (ap (λ l. l.ended) c.level-left.ensures.is ∙ (place_says plan c.in-Par.left left).ended_is)
    (ap (λ l. l.ended) c.level-right.ensures.is ∙ (place_says plan c.in-Par.right right).ended_is)

pub returns-in-false-clause-marked : goal.returns-in-false-clause-marked
returns-in-false-clause-marked c me =
    let plan = c.args.plan.now in
    let done : List Process = processes plan.code.ops.items in
    turn_gathers me (static_at plan c.args.up) _ _ _ _ c.args.first c.args.over _ (c.op_at.ensures.stands ∙ ap (op_process done) c.in-WhileLead.is)
    (are_some c.is_empty.result _ c.is_empty.ensures c.in-false.is)

pub returns-in-false-is_empty-clause-marked : goal.returns-in-false-is_empty-clause-marked
returns-in-false-is_empty-clause-marked c me =
    let plan = c.args.plan.now in
    let done : List Process = processes plan.code.ops.items in
    scope_gathers me (static_at plan c.args.up) _ _ _ c.args.first c.args.over _ (c.op_at.ensures.stands ∙ ap (op_process done) c.in-ScopeLead.is)
    (are_some c.is_empty-in-ScopeLead.result _ c.is_empty-in-ScopeLead.ensures c.in-false-is_empty.is)

pub returns-in-false-is_empty-clause-over : goal.returns-in-false-is_empty-clause-over
returns-in-false-is_empty-clause-over c me =
    let plan = c.args.plan.now in
    let done : List Process = processes plan.code.ops.items in
    scope_goes_on me (static_at plan c.args.up) _ _ _ c.args.first c.args.over _ (c.op_at.ensures.stands ∙ ap (op_process done) c.in-ScopeLead.is)
    (are_some c.is_empty-in-ScopeLead.result _ c.is_empty-in-ScopeLead.ensures c.in-false-is_empty.is)
