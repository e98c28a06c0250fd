-- None of the changes so far is refused.
use Rattle.std.proofs.Common.{◌≡◌, map, take, None}
use Rattle.dioc_terms.specs.Plain.{plain}
use Rattle.rule_checks.specs.Parts.{change_refusal}
use Rattle.rule_checks.specs.Refusals.{first_refusal}
use Rattle.rule_checks.proofs.checks.admit_adds.Given as goal

abbrev pub invariant-loop-timed : goal.invariant-loop-timed
invariant-loop-timed l = first_refusal (map (λ timed. change_refusal (plain l.bundle) timed.change) (take l.timed-index l.script)) ≡ None
