-- The roles so far are those with raised flags of the roles that were looked at.
use Rattle.std.proofs.Common.{◌≡◌, take}
use Rattle.projection.specs.Named.{flagged}
use Rattle.projection.proofs.named.roles_in.Given as goal

abbrev pub invariant-loop-place : goal.invariant-loop-place
invariant-loop-place l = l.roles.items ≡ flagged (take l.place l.cast) l.named
