-- The roles so far are the others with raised flags of the roles that were looked at.
use Rattle.std.proofs.Common.{◌≡◌, filter, not, take}
use Rattle.dioc_terms.specs.Equality.{role_eq}
use Rattle.projection.specs.Named.{flagged}
use Rattle.projection.proofs.named.others.Given as goal

abbrev pub invariant-loop-place : goal.invariant-loop-place
invariant-loop-place l = l.roles.items ≡ filter (λ q. not (role_eq q l.leader)) (flagged (take l.place l.cast) l.named)
