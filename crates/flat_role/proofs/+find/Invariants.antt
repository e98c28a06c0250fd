-- No place so far offers the act. An update in a mark is less deep than all marks.
use Rattle.std.proofs.Common.{◌≡◌, ◌<◌, ◌+◌, ◌*◌, ℕ, false, get_or}
use Rattle.flat_role.specs.Progress.{marks_by, offers_there}
use Rattle.flat_role.specs.Updates.{deepest}
use Rattle.flat_role.proofs.+find.Given as goal

abbrev pub invariant-progress::Progress::find-loop-at : goal.invariant-progress::Progress::find-loop-at
invariant-progress::Progress::find-loop-at l = (k : ℕ) → k < l.at
    → offers_there l.me l.plan (marks_by l.me l.plan l.self) l.act (get_or l.self.active.items k 0)
    ≡ false

abbrev pub decreases-progress::Progress::find : goal.decreases-progress::Progress::find
decreases-progress::Progress::find l = 3 * deepest l.self.now.marks.items + 1

abbrev pub decreases-updates::place_offers : goal.decreases-updates::place_offers
decreases-updates::place_offers l = 3 * deepest l.marks.now

abbrev pub decreases-marks::Update::offers : goal.decreases-marks::Update::offers
decreases-marks::Update::offers l = 3 * l.self.now.depth + 2
