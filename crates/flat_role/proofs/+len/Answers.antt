-- A mark holds no deeper updates than all marks.
use Rattle.std.proofs.Common.{◌<◌, ◌≤◌, length, arith}
use Rattle.flat_role.specs.Updates.{deepest, depth_of}
use Rattle.flat_role.proofs.MineLemmas.{deep_at}
use Rattle.flat_role.proofs.+len.Goals as goal

pub updates::count_ops-update_len-requires : goal.updates::count_ops-update_len-requires
updates::count_ops-update_len-requires t c =
    let inside : c.loop-mark.mark-index < length c.args.progress.now.marks.items = omega arith in
    let less : depth_of c.mark-item.result ≤ deepest c.args.progress.now.marks.items =
    deep_at c.args.progress.now.marks.items c.loop-mark.mark-index c.mark-item.result inside cc in
    (omega (arith, c.decreases, less), tt)
