-- None of the mended bodies so far is refused, and the mended rules so far are there.
use Rattle.std.proofs.Common.{◌≡◌, map, take, None}
use Rattle.dioc_terms.specs.Plain.{plain, plain_rule}
use Rattle.mend.specs.Traces.{mended_rule}
use Rattle.mend.specs.Refusals.{first_mend_refusal, mended_body_refusal}
use Rattle.mend.proofs.bundle_parts.add_rules.Given as goal

abbrev pub invariant-loop-number : goal.invariant-loop-number
invariant-loop-number l = record {
  passed : first_mend_refusal (map (mended_body_refusal (plain l.bundle)) (take l.number-index l.numbers)) ≡ None;
  made : map plain_rule l.made.items ≡ map (mended_rule l.bundle.cast) (take l.number-index (plain l.bundle).rules);
}
