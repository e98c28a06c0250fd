-- The tokens before the place are read to the goals.
use Rattle.std.proofs.Common.{◌≤◌, ◌-◌, take, reverse}
use Rattle.wanted_items.specs.Walks.{AreReadTo}
use Rattle.wanted_items.proofs.walks.walk_to.Given as goal

abbrev pub invariant-tokens : goal.invariant-tokens
invariant-tokens l = AreReadTo (take l.place l.text) (record { second = l.second; wanted = reverse l.goals.items }) × (l.place ≤ l.at)

abbrev pub decreases-tokens : goal.decreases-tokens
decreases-tokens l = l.at - l.place
