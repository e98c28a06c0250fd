-- An update in a mark is less deep than all marks.
use Rattle.std.proofs.Common.{◌+◌, ◌*◌}
use Rattle.flat_role.specs.Updates.{deepest, depth_in}
use Rattle.flat_role.proofs.+ready.Given as goal

abbrev pub decreases-readying::make_ready : goal.decreases-readying::make_ready
decreases-readying::make_ready l = 4 * deepest l.progress.now.marks.items + 1

abbrev pub decreases-readying::step_at : goal.decreases-readying::step_at
decreases-readying::step_at l = 4 * deepest l.marks.now.items

abbrev pub decreases-marks::Update::prepare : goal.decreases-marks::Update::prepare
decreases-marks::Update::prepare l = 4 * l.self.now.depth + 3

abbrev pub decreases-updates::state_ready : goal.decreases-updates::state_ready
decreases-updates::state_ready l = 4 * depth_in l.state.now + 2
