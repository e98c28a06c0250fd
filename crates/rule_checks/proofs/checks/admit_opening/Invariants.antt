-- None of the rules so far is refused.
use Rattle.std.proofs.Common.{◌≡◌, map, None}
use Rattle.dioc_terms.specs.Bundles.{numbers_from}
use Rattle.dioc_terms.specs.Plain.{plain}
use Rattle.rule_checks.specs.Refusals.{first_refusal, rule_refusal}
use Rattle.rule_checks.proofs.checks.admit_opening.Given as goal

abbrev pub invariant-loop-number : goal.invariant-loop-number
invariant-loop-number l = first_refusal (map (rule_refusal (plain l.bundle)) (numbers_from 0 l.number)) ≡ None
