-- An update in a mark is less deep than all marks.
use Rattle.std.proofs.Common.{◌+◌, ◌*◌}
use Rattle.flat_role.specs.Updates.{deepest}
use Rattle.flat_role.proofs.+next.Given as goal

abbrev pub decreases-readying::next_of : goal.decreases-readying::next_of
decreases-readying::next_of l = 2 * deepest l.progress.now.marks.items

abbrev pub decreases-marks::Update::next : goal.decreases-marks::Update::next
decreases-marks::Update::next l = 2 * l.self.now.depth + 1
