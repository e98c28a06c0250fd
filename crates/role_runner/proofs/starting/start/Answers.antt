-- The seat may go to the new thread and what it leaves may come back; the runtime, the stage, the bundle, the gate and the sign may be borrowed by several.
use Rattle.std.proofs.Common.{rules}
use denote.Param.Send.{IsSync, sendable}
use Rattle.std.proofs.Crossing.{crosses}
use Rattle.turn_lock.proofs.turns.Seat.TheSendSync as seat_sends
use Rattle.stage.proofs.Crossing.{home_sends, stage_syncs}
use Rattle.role_runner.proofs.Crossing.{bundle_syncs, job_sends, sign_syncs}
use Rattle.role_runner.proofs.starting.start.Goals as goal

pub spawn_with-requires-send-F : goal.spawn_with-requires-send-F
spawn_with-requires-send-F g c κs within =
    let rt : IsSync g.row.R = search rules parts 8 in
    let gate : IsSync g.row.G = search rules parts 8 in
    search (home_sends, seat_sends.the_send, stage_syncs, bundle_syncs, sign_syncs, crosses, sendable) depth 60 fits 20000

pub spawn_with-requires-send-T : goal.spawn_with-requires-send-T
spawn_with-requires-send-T g c κs within = search (job_sends, crosses, sendable) depth 60 fits 20000
