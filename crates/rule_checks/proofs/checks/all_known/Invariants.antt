-- None of the roles so far is refused.
use Rattle.std.proofs.Common.{◌≡◌, [], ◌∷◌, map, take, None}
use Rattle.rule_checks.specs.Refusals.{first_refusal, unknown_role}
use Rattle.rule_checks.proofs.checks.all_known.Given as goal

abbrev pub invariant-loop-role : goal.invariant-loop-role
invariant-loop-role l = first_refusal (map (λ q. unknown_role l.at l.cast (q ∷ [])) (take l.role-index l.roles)) ≡ None
