-- The bundles, the claims and the watch may be borrowed by several threads; the runtime and the watch by what is asked of their types.
use Rattle.std.proofs.Common.{rules}
use denote.Param.Send.{IsSync, sendable}
use Rattle.std.proofs.Crossing.{crosses}
use Rattle.ticket_table.proofs.tickets.Tickets.TheSendSync as tickets
use Rattle.session_pool.proofs.Sent.{bundle_sync}
use Rattle.session_pool.proofs.jobs.work_all.Goals as goal

pub for_each_mut-requires-sync-F : goal.for_each_mut-requires-sync-F
for_each_mut-requires-sync-F g c κs within =
    let rt : IsSync g.row.R = search rules parts 8 in
    let watch : IsSync g.row.W = search rules parts 8 in
    search (bundle_sync, tickets.the_sync, crosses, sendable) depth 60 fits 20000
