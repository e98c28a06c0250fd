-- An update in a mark is less deep than all marks.
use Rattle.std.proofs.Common.{◌+◌, ◌*◌}
use Rattle.flat_role.specs.Updates.{deepest, depth_in}
use Rattle.flat_role.proofs.+advance.Given as goal

abbrev pub decreases-advancing::advance : goal.decreases-advancing::advance
decreases-advancing::advance l = 4 * deepest l.progress.now.marks.items + 1

abbrev pub decreases-advancing::act_at : goal.decreases-advancing::act_at
decreases-advancing::act_at l = 4 * deepest l.progress.now.marks.items

abbrev pub decreases-marks::Update::step : goal.decreases-marks::Update::step
decreases-marks::Update::step l = 4 * l.self.now.depth + 3

abbrev pub decreases-updates::advance_state : goal.decreases-updates::advance_state
decreases-updates::advance_state l = 4 * depth_in l.state.now + 2
