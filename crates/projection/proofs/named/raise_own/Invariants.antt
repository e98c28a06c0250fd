-- The flags so far are raised of the roles that the part names itself.
use Rattle.std.proofs.Common.{◌≡◌, map, take}
use Rattle.dioc_terms.specs.Terms.{term}
use Rattle.projection.specs.Named.{names_itself, raised}
use Rattle.projection.proofs.named.raise_own.Given as goal

abbrev pub invariant-loop-place : goal.invariant-loop-place
invariant-loop-place l = l.named ≡ raised (take l.place (map (λ q. names_itself q (term l.part)) l.cast)) l.initial.named
