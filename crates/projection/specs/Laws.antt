-- Who has something to do in a projection.
use Rattle.std.specs.Prelude.{◌≡◌, List, not}
use Rattle.dioc_terms.specs.declared.names.Role.{Role}
use Rattle.dioc_terms.specs.Terms.{Term, is_in}
use Rattle.process_steps.specs.Steps.{ended}
use Rattle.projection.specs.Projection.{projected}

-- a role's projection has ended from the start exactly where the term doesn't name the role
abbrev pub OutsidersHaveEnded : Type 0
OutsidersHaveEnded =
    (cast : List Role) (I : Term) (q : Role) → ended (projected cast I q) ≡ not (is_in q I)
