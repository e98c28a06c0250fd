-- So many ops so far, with those of the marks that are left, are all. An update in a mark is less
-- deep than all marks.
use Rattle.std.proofs.Common.{◌≡◌, ◌+◌, ◌*◌, drop, length}
use Rattle.flat_role.specs.Updates.{deepest, depth_of, with_updates}
use Rattle.flat_role.proofs.+len.Given as goal

abbrev pub invariant-updates::count_ops-loop-mark : goal.invariant-updates::count_ops-loop-mark
invariant-updates::count_ops-loop-mark l =
    with_updates l.len (drop l.mark-index l.progress.marks.items)
    ≡ with_updates (length l.plan.code.ops.items) l.progress.marks.items

abbrev pub decreases-updates::count_ops : goal.decreases-updates::count_ops
decreases-updates::count_ops l = 3 * deepest l.progress.now.marks.items + 1

abbrev pub decreases-updates::update_len : goal.decreases-updates::update_len
decreases-updates::update_len l = 3 * depth_of l.mark.now

abbrev pub decreases-marks::Update::code_len : goal.decreases-marks::Update::code_len
decreases-marks::Update::code_len l = 3 * l.self.now.depth + 2
