-- The rule that a change adds.
use Rattle.std.specs.Prelude.{ℕ, List, [], ◌∷◌}
use Rattle.dioc_terms.specs.declared.bundles.Change.{Change}
use Rattle.dioc_terms.specs.declared.bundles.Change.TheVariants as change

-- its number, where the change is an add
abbrev pub added_number : Change → List ℕ
added_number (change.Add n) = n ∷ []
added_number _ = []
