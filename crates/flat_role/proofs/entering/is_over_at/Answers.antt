-- A mark says whether anything is left.
use Rattle.std.proofs.Common.{sym, ap, ◌∙◌}
use Rattle.std.proofs.Math.Dec.{leb}
use Rattle.flat_code.specs.Places.{processes}
use Rattle.flat_role.specs.declared.marks.Mark.TheVariants as kept
use Rattle.flat_role.proofs.EnterLemmas.{IsHere, gathering_over, is_here, left_over, over_as, telling_over, waiting_over}
use Rattle.flat_role.proofs.entering.is_over_at.Goals as goal

pub returns-in-Telling-clause-alone : goal.returns-in-Telling-clause-alone
returns-in-Telling-clause-alone c _ =
    let plan = c.args.plan.now in
    let done = processes plan.code.ops.items in
    let here : IsHere plan c.args.marks.now c.args.place c.index-marks-place.result c.op_at-op.result.now =
    is_here plan c.args.marks.now c.args.place c.index-marks-place.result c.op_at-op.result.now c.requires.inside c.requires.as_long
    c.index-marks-place.is c.op_at-op.ensures.is c.op_at-op.ensures.stands in
    ap (λ n. leb n c.in-Telling.told) (sym (c.first_to_tell.ensures c.args.me.now done c.in-Telling.field-0)) ∙ sym (telling_over c.args.me.now done c.in-Telling.field-0 c.in-Telling.told c.op_at-op.result.now)
    ∙ over_as c.args.me.now plan c.args.marks.now c.args.place c.index-marks-place.result c.op_at-op.result.now here (kept.Telling c.in-Telling.field-0 c.in-Telling.told) c.in-Telling.is

pub returns-in-Gathering-clause-alone : goal.returns-in-Gathering-clause-alone
returns-in-Gathering-clause-alone c _ =
    let plan = c.args.plan.now in
    let done = processes plan.code.ops.items in
    let here : IsHere plan c.args.marks.now c.args.place c.index-marks-place.result c.op_at-op.result.now =
    is_here plan c.args.marks.now c.args.place c.index-marks-place.result c.op_at-op.result.now c.requires.inside c.requires.as_long
    c.index-marks-place.is c.op_at-op.ensures.is c.op_at-op.ensures.stands in
    ap (λ n. leb n c.in-Gathering.taken) (sym (c.ends_to_take.ensures c.args.me.now done)) ∙ sym (gathering_over c.args.me.now done c.in-Gathering.taken c.op_at-op.result.now)
    ∙ over_as c.args.me.now plan c.args.marks.now c.args.place c.index-marks-place.result c.op_at-op.result.now here (kept.Gathering c.in-Gathering.taken) c.in-Gathering.is

pub returns-in-Left-clause-alone : goal.returns-in-Left-clause-alone
returns-in-Left-clause-alone c _ =
    let plan = c.args.plan.now in
    let done = processes plan.code.ops.items in
    let here : IsHere plan c.args.marks.now c.args.place c.index-marks-place.result c.op_at-op.result.now =
    is_here plan c.args.marks.now c.args.place c.index-marks-place.result c.op_at-op.result.now c.requires.inside c.requires.as_long
    c.index-marks-place.is c.op_at-op.ensures.is c.op_at-op.ensures.stands in
    sym (c.are_last_told.ensures c.args.me.now done) ∙ sym (left_over c.args.me.now done c.in-Left.told c.op_at-op.result.now)
    ∙ over_as c.args.me.now plan c.args.marks.now c.args.place c.index-marks-place.result c.op_at-op.result.now here (kept.Left c.in-Left.told) c.in-Left.is

pub returns-in-Waiting-clause-alone : goal.returns-in-Waiting-clause-alone
returns-in-Waiting-clause-alone c _ =
    let plan = c.args.plan.now in
    let done = processes plan.code.ops.items in
    let here : IsHere plan c.args.marks.now c.args.place c.index-marks-place.result c.op_at-op.result.now =
    is_here plan c.args.marks.now c.args.place c.index-marks-place.result c.op_at-op.result.now c.requires.inside c.requires.as_long
    c.index-marks-place.is c.op_at-op.ensures.is c.op_at-op.ensures.stands in
    ap (λ n. leb n c.in-Waiting.taken) (sym (c.last_to_take.ensures c.args.me.now done)) ∙ sym (waiting_over c.args.me.now done c.in-Waiting.taken c.op_at-op.result.now)
    ∙ over_as c.args.me.now plan c.args.marks.now c.args.place c.index-marks-place.result c.op_at-op.result.now here (kept.Waiting c.in-Waiting.taken) c.in-Waiting.is

pub returns-in-Telling-clause-leaf : goal.returns-in-Telling-clause-leaf
returns-in-Telling-clause-leaf c _ =
    let plan = c.args.plan.now in
    let done = processes plan.code.ops.items in
    let here : IsHere plan c.args.marks.now c.args.place c.index-marks-place.result c.op_at-op.result.now =
    is_here plan c.args.marks.now c.args.place c.index-marks-place.result c.op_at-op.result.now c.requires.inside c.requires.as_long
    c.index-marks-place.is c.op_at-op.ensures.is c.op_at-op.ensures.stands in
    ap (λ n. leb n c.in-Telling.told) (sym (c.first_to_tell.ensures c.args.me.now done c.in-Telling.field-0)) ∙ sym (telling_over c.args.me.now done c.in-Telling.field-0 c.in-Telling.told c.op_at-op.result.now)
    ∙ over_as c.args.me.now plan c.args.marks.now c.args.place c.index-marks-place.result c.op_at-op.result.now here (kept.Telling c.in-Telling.field-0 c.in-Telling.told) c.in-Telling.is

pub returns-in-Gathering-clause-leaf : goal.returns-in-Gathering-clause-leaf
returns-in-Gathering-clause-leaf c _ =
    let plan = c.args.plan.now in
    let done = processes plan.code.ops.items in
    let here : IsHere plan c.args.marks.now c.args.place c.index-marks-place.result c.op_at-op.result.now =
    is_here plan c.args.marks.now c.args.place c.index-marks-place.result c.op_at-op.result.now c.requires.inside c.requires.as_long
    c.index-marks-place.is c.op_at-op.ensures.is c.op_at-op.ensures.stands in
    ap (λ n. leb n c.in-Gathering.taken) (sym (c.ends_to_take.ensures c.args.me.now done)) ∙ sym (gathering_over c.args.me.now done c.in-Gathering.taken c.op_at-op.result.now)
    ∙ over_as c.args.me.now plan c.args.marks.now c.args.place c.index-marks-place.result c.op_at-op.result.now here (kept.Gathering c.in-Gathering.taken) c.in-Gathering.is

pub returns-in-Left-clause-leaf : goal.returns-in-Left-clause-leaf
returns-in-Left-clause-leaf c _ =
    let plan = c.args.plan.now in
    let done = processes plan.code.ops.items in
    let here : IsHere plan c.args.marks.now c.args.place c.index-marks-place.result c.op_at-op.result.now =
    is_here plan c.args.marks.now c.args.place c.index-marks-place.result c.op_at-op.result.now c.requires.inside c.requires.as_long
    c.index-marks-place.is c.op_at-op.ensures.is c.op_at-op.ensures.stands in
    sym (c.are_last_told.ensures c.args.me.now done) ∙ sym (left_over c.args.me.now done c.in-Left.told c.op_at-op.result.now)
    ∙ over_as c.args.me.now plan c.args.marks.now c.args.place c.index-marks-place.result c.op_at-op.result.now here (kept.Left c.in-Left.told) c.in-Left.is

pub returns-in-Waiting-clause-leaf : goal.returns-in-Waiting-clause-leaf
returns-in-Waiting-clause-leaf c _ =
    let plan = c.args.plan.now in
    let done = processes plan.code.ops.items in
    let here : IsHere plan c.args.marks.now c.args.place c.index-marks-place.result c.op_at-op.result.now =
    is_here plan c.args.marks.now c.args.place c.index-marks-place.result c.op_at-op.result.now c.requires.inside c.requires.as_long
    c.index-marks-place.is c.op_at-op.ensures.is c.op_at-op.ensures.stands in
    ap (λ n. leb n c.in-Waiting.taken) (sym (c.last_to_take.ensures c.args.me.now done)) ∙ sym (waiting_over c.args.me.now done c.in-Waiting.taken c.op_at-op.result.now)
    ∙ over_as c.args.me.now plan c.args.marks.now c.args.place c.index-marks-place.result c.op_at-op.result.now here (kept.Waiting c.in-Waiting.taken) c.in-Waiting.is
