use Rattle.std.proofs.Common.{◌++◌, ◌∙◌, ap}
use Rattle.trace_picture.specs.Runs.{pieces_below}
use Rattle.trace_picture.specs.Terminal.{number_heading, reach_of}
use Rattle.trace_picture.proofs.Repeats.{pieces_below_step, still_front}
use Rattle.trace_picture.proofs.terminal.write_numbers.Goals as goal

pub loop-lane-preserved : goal.loop-lane-preserved
loop-lane-preserved c =
    pieces_below_step (number_heading (reach_of c.args.lanes.now)) c.loop-lane.lane c.args.out.now.items c.loop-lane.out.items c.write_lane_number.new.out.items
    c.loop-lane.invariant
    (c.in_ok-write_lane_number.ensures.ok ∙ ap (λ reach. c.loop-lane.out.items ++ number_heading reach c.loop-lane.lane) c.reach_of-reach.ensures.value)

pub returns-in_err-write_lane_number-clause-memory : goal.returns-in_err-write_lane_number-clause-memory
returns-in_err-write_lane_number-clause-memory c =
    still_front _ c.args.out.now.items (pieces_below (number_heading (reach_of c.args.lanes.now)) c.loop-lane.lane) c.loop-lane.out.items c.write_lane_number.new.out.items
    c.loop-lane.invariant c.in_err-write_lane_number.ensures.memory
