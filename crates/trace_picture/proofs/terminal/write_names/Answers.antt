use Rattle.std.proofs.Common.{◌++◌, ◌∙◌, ap, take, flat_map, arith}
use Rattle.std.proofs.lemmas.Grind.{common_steps}
use Rattle.trace_picture.specs.Terminal.{name_heading, reach_of}
use Rattle.trace_picture.proofs.Repeats.{flat_map_step, still_front}
use Rattle.trace_picture.proofs.terminal.write_names.Goals as goal

pub loop-lane-preserved : goal.loop-lane-preserved
loop-lane-preserved c =
    flat_map_step (name_heading (reach_of c.args.lanes.now)) c.args.lanes.now c.loop-lane.lane-index c.lane-item.result c.args.out.now.items c.loop-lane.out.items c.write_name.new.out.items
    (omega arith) c.lane-item.is c.loop-lane.invariant
    (c.in_ok-write_name.ensures.ok ∙ ap (λ reach. c.loop-lane.out.items ++ name_heading reach c.lane-item.result) c.reach_of-reach.ensures.value)

pub returns-in_err-write_name-clause-memory : goal.returns-in_err-write_name-clause-memory
returns-in_err-write_name-clause-memory c =
    still_front _ c.args.out.now.items (flat_map (name_heading (reach_of c.args.lanes.now)) (take c.loop-lane.lane-index c.args.lanes.now)) c.loop-lane.out.items c.write_name.new.out.items
    c.loop-lane.invariant c.in_err-write_name.ensures.memory

pub returns-clause-ok : goal.returns-clause-ok
returns-clause-ok c = grind (arith, common_steps)
