use Rattle.std.proofs.Common.{take, arith}
use Rattle.std.proofs.lemmas.Grind.{common_steps}
use Rattle.trace_picture.specs.Runs.{pieces_from}
use Rattle.trace_picture.specs.Mermaid.{participant}
use Rattle.trace_picture.proofs.Repeats.{pieces_from_step, still_front}
use Rattle.trace_picture.proofs.mermaid.write_all_participants.Goals as goal

pub loop-lane-preserved : goal.loop-lane-preserved
loop-lane-preserved c =
    pieces_from_step participant c.args.lanes.now c.loop-lane.lane c.index-lanes-lane.result c.args.out.now.items c.loop-lane.out.items c.write_participant.new.out.items
    (omega arith) c.index-lanes-lane.is c.loop-lane.invariant c.in_ok-write_participant.ensures.ok

pub returns-in_err-write_participant-clause-memory : goal.returns-in_err-write_participant-clause-memory
returns-in_err-write_participant-clause-memory c =
    still_front _ c.args.out.now.items (pieces_from participant 0 (take c.loop-lane.lane c.args.lanes.now)) c.loop-lane.out.items c.write_participant.new.out.items
    c.loop-lane.invariant c.in_err-write_participant.ensures.memory

pub returns-clause-ok : goal.returns-clause-ok
returns-clause-ok c = grind (arith, common_steps)
