-- The places so far are empty.
use Rattle.std.proofs.Common.{◌≡◌, ◌≤◌, ◌-◌, None, length, All}
use Rattle.session_pool.proofs.places.empty_places.Given as goal

abbrev pub invariant-places : goal.invariant-places
invariant-places g l = (length l.places.items ≤ l.count) × All (λ place. place ≡ None) l.places.items

abbrev pub decreases-places : goal.decreases-places
decreases-places g l = l.count - length l.places.items
