-- What is next is what is in front of the place, by the mark that is kept there.
use Rattle.std.proofs.Common.{List, refl}
use Rattle.dioc_terms.specs.Processes.{Process}
use Rattle.flat_code.specs.Places.{op_process, processes}
use Rattle.flat_role.proofs.NextLemmas.{next_meant, other_meant, own_read}
use Rattle.flat_role.specs.declared.leaves.Next.TheVariants as next
use Rattle.flat_role.proofs.leaves.next_at.Goals as goal

pub returns-in-Untouched-clause-next : goal.returns-in-Untouched-clause-next
returns-in-Untouched-clause-next c =
    next_meant c.args.me.now c.args.plan.now c.args.marks.now c.args.place c.requires.inside
    c.requires.as_long c.index-marks-place.is c.in-Untouched.is c.op_at-op.ensures.stands
    (next.Op c.op_at-op.result)
    (processes c.args.plan.now.code.ops.items, refl)

pub returns-in-Telling-clause-next : goal.returns-in-Telling-clause-next
returns-in-Telling-clause-next c =
    next_meant c.args.me.now c.args.plan.now c.args.marks.now c.args.place c.requires.inside
    c.requires.as_long c.index-marks-place.is c.in-Telling.is c.op_at-op.ensures.stands c.telling.result
    (c.telling.ensures.next c.args.me.now (processes c.args.plan.now.code.ops.items))

pub returns-in-Gathering-clause-next : goal.returns-in-Gathering-clause-next
returns-in-Gathering-clause-next c =
    next_meant c.args.me.now c.args.plan.now c.args.marks.now c.args.place c.requires.inside
    c.requires.as_long c.index-marks-place.is c.in-Gathering.is c.op_at-op.ensures.stands c.gathering.result
    (c.gathering.ensures.next c.args.me.now (processes c.args.plan.now.code.ops.items))

pub returns-in-Ending-clause-next : goal.returns-in-Ending-clause-next
returns-in-Ending-clause-next c =
    next_meant c.args.me.now c.args.plan.now c.args.marks.now c.args.place c.requires.inside
    c.requires.as_long c.index-marks-place.is c.in-Ending.is c.op_at-op.ensures.stands c.ending.result
    (c.ending.ensures.next c.args.me.now (processes c.args.plan.now.code.ops.items))

pub returns-in-Left-clause-next : goal.returns-in-Left-clause-next
returns-in-Left-clause-next c =
    next_meant c.args.me.now c.args.plan.now c.args.marks.now c.args.place c.requires.inside
    c.requires.as_long c.index-marks-place.is c.in-Left.is c.op_at-op.ensures.stands c.left.result
    (c.left.ensures.next c.args.me.now (processes c.args.plan.now.code.ops.items))

pub returns-in-Waiting-clause-next : goal.returns-in-Waiting-clause-next
returns-in-Waiting-clause-next c =
    next_meant c.args.me.now c.args.plan.now c.args.marks.now c.args.place c.requires.inside
    c.requires.as_long c.index-marks-place.is c.in-Waiting.is c.op_at-op.ensures.stands c.waiting.result
    (c.waiting.ensures.next c.args.me.now (processes c.args.plan.now.code.ops.items))

pub returns-in_default-clause-next : goal.returns-in_default-clause-next
returns-in_default-clause-next c =
    let procs : List Process = processes c.args.plan.now.code.ops.items in
    let other = other_meant c.args.me.now (op_process procs c.op_at-op.result.now)
    c.index-marks-place.result c.in_default.not-Untouched c.in_default.not-Telling
    c.in_default.not-Gathering c.in_default.not-Ending c.in_default.not-Left
    c.in_default.not-Waiting
    (own_read c.args.plan.now c.args.marks.now c.args.place c.requires.inside c.requires.as_long
    c.index-marks-place.is c.requires.own) in
    next_meant c.args.me.now c.args.plan.now c.args.marks.now c.args.place c.requires.inside
    c.requires.as_long c.index-marks-place.is refl c.op_at-op.ensures.stands next.Nothing other.0
