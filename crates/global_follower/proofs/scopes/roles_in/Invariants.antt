-- The roles so far are those that the scope names of the roles that were looked at.
use Rattle.std.proofs.Common.{◌≡◌, filter, take}
use Rattle.dioc_terms.specs.Terms.{term, is_in}
use Rattle.global_follower.proofs.scopes.roles_in.Given as goal

abbrev pub invariant-loop-role : goal.invariant-loop-role
invariant-loop-role l = l.roles.items ≡ filter (λ q. is_in q (term l.scope)) (take l.role-index l.cast)
