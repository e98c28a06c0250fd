-- None of the rules so far is refused.
use Rattle.std.proofs.Common.{◌≡◌, map, take, None}
use Rattle.dioc_terms.specs.Plain.{plain}
use Rattle.mend.specs.Refusals.{first_mend_refusal, mend_rule_refusal}
use Rattle.mend.proofs.checks.check_rules.Given as goal

abbrev pub invariant-loop-number : goal.invariant-loop-number
invariant-loop-number l = first_mend_refusal (map (mend_rule_refusal (plain l.bundle)) (take l.number-index l.numbers)) ≡ None
