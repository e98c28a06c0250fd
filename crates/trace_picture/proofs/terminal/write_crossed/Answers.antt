use Rattle.trace_picture.specs.Runs.{pieces_below}
use Rattle.trace_picture.specs.Strokes.{cell}
use Rattle.trace_picture.proofs.Repeats.{pieces_below_step, still_front}
use Rattle.trace_picture.proofs.terminal.write_crossed.Goals as goal

pub loop-lane-preserved : goal.loop-lane-preserved
loop-lane-preserved c =
    pieces_below_step (cell c.args.reach c.args.shape) c.loop-lane.lane c.args.out.now.items c.loop-lane.out.items c.write_cell.new.out.items
    c.loop-lane.invariant c.in_ok-write_cell.ensures.ok

pub returns-in_err-write_cell-clause-memory : goal.returns-in_err-write_cell-clause-memory
returns-in_err-write_cell-clause-memory c =
    still_front _ c.args.out.now.items (pieces_below (cell c.args.reach c.args.shape) c.loop-lane.lane) c.loop-lane.out.items c.write_cell.new.out.items
    c.loop-lane.invariant c.in_err-write_cell.ensures.memory
