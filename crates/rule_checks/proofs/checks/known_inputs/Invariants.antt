-- None of the roles so far is refused.
use Rattle.std.proofs.Common.{◌≡◌, [], ◌∷◌, map, take, None}
use Rattle.rule_checks.specs.declared.refusals.Where.TheVariants as place
use Rattle.rule_checks.specs.Refusals.{first_refusal, unknown_role}
use Rattle.rule_checks.proofs.checks.known_inputs.Given as goal

abbrev pub invariant-loop-role : goal.invariant-loop-role
invariant-loop-role l = first_refusal (map (λ given. unknown_role place.Program l.cast (given.0 ∷ [])) (take l.role-index l.inputs)) ≡ None
