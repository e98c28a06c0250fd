use Rattle.std.proofs.Common.{sym, ap, ◌∙◌}
use Rattle.trace_picture.specs.Lanes.{lane_of}
use Rattle.trace_picture.specs.Shapes.{taken_at, shape_of}
use Rattle.trace_picture.proofs.shapes.shape_of.Goals as goal

pub returns-in-Take-clause-value : goal.returns-in-Take-clause-value
returns-in-Take-clause-value c =
    c.taken.ensures
    ∙ ap (λ from. taken_at from c.lane_of-in-Take-2.result) c.lane_of-in-Take.ensures.value
    ∙ ap (taken_at (lane_of c.args.lanes.now c.in-Take.key.from)) c.lane_of-in-Take-2.ensures.value
    ∙ ap (shape_of c.args.lanes.now) (sym c.in-Take.is)
