use Rattle.std.proofs.Common.{◌++◌, ◌∙◌, ap, arith}
use Rattle.std.proofs.lemmas.Grind.{common_steps}
use Rattle.text_pieces.proofs.KeptFronts.{front_of_front}
use Rattle.trace_picture.specs.Svg.{row_y, name_box}
use Rattle.trace_picture.proofs.Repeats.{pieces_from_step, still_front}
use Rattle.trace_picture.proofs.svg.write_tail.Goals as goal

pub loop-lane-preserved : goal.loop-lane-preserved
loop-lane-preserved c =
    pieces_from_step (name_box c.args.frame.now.columns (row_y c.args.rows)) c.args.frame.now.lanes.now c.loop-lane.lane c.role-item.result c.args.out.now.items c.loop-lane.out.items c.write_box.new.out.items
    (omega arith) c.role-item.is c.loop-lane.invariant
    (c.in_ok-write_box.ensures.ok ∙ ap (λ y. c.loop-lane.out.items ++ name_box c.args.frame.now.columns y c.loop-lane.lane c.role-item.result) c.row_y-floor.ensures.value)

pub returns-in_err-write_box-clause-memory : goal.returns-in_err-write_box-clause-memory
returns-in_err-write_box-clause-memory c = still_front _ _ _ _ _ c.loop-lane.invariant c.in_err-write_box.ensures.memory

pub returns-in_err-write_end-clause-memory : goal.returns-in_err-write_end-clause-memory
returns-in_err-write_end-clause-memory c = grind (arith, front_of_front)

pub returns-clause-ok : goal.returns-clause-ok
returns-clause-ok c = grind (arith, common_steps)

pub returns-clause-memory : goal.returns-clause-memory
returns-clause-memory c = grind (arith, front_of_front)
