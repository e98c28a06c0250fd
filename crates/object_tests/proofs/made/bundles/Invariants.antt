-- The bundles so far are formed.
use Rattle.std.proofs.Common.{◌≤◌, ◌-◌, length, All}
use Rattle.dioc_terms.specs.Bundles.{IsFormed}
use Rattle.dioc_terms.specs.Plain.{plain}
use Rattle.object_tests.proofs.made.bundles.Given as goal

abbrev pub invariant-made : goal.invariant-made
invariant-made l = (length l.bundles.items ≤ l.count) × All (λ b. IsFormed (plain b)) l.bundles.items

abbrev pub decreases-made : goal.decreases-made
decreases-made l = l.count - length l.bundles.items
