-- The acts so far are those of the places so far. An update in a mark is less deep than all marks.
use Rattle.std.proofs.Common.{◌≡◌, ◌++◌, ◌+◌, ◌*◌}
use Rattle.std.specs.List.{between}
use Rattle.flat_role.specs.Progress.{acts_at}
use Rattle.flat_role.specs.Updates.{deepest}
use Rattle.flat_role.proofs.+acts.Given as goal

abbrev pub invariant-relisting::add_acts-loop-at : goal.invariant-relisting::add_acts-loop-at
invariant-relisting::add_acts-loop-at l = l.acts.items ≡ l.initial.acts.items
    ++ acts_at l.me l.plan l.progress (between l.from l.at l.progress.active.items)

abbrev pub decreases-relisting::add_acts : goal.decreases-relisting::add_acts
decreases-relisting::add_acts l = 3 * deepest l.progress.now.marks.items + 1

abbrev pub decreases-updates::add_place : goal.decreases-updates::add_place
decreases-updates::add_place l = 3 * deepest l.marks.now

abbrev pub decreases-marks::Update::add_offers : goal.decreases-marks::Update::add_offers
decreases-marks::Update::add_offers l = 3 * l.self.now.depth + 2
