-- What a mended bundle plays, the bundle itself plays.
use Rattle.std.proofs.Common.{◌≡◌, ◌++◌, None, map, get_or}
use Rattle.std.proofs.lemmas.Option.{slice_get-get_or}
use Rattle.dioc_terms.specs.Bundles.{IsFormed}
use Rattle.dioc_terms.specs.Plain.{PlainBundle}
use Rattle.mend.specs.Traces.{IsMendable, PlaysWithout}
use Rattle.mend.specs.Laws.{MendedPlaysWithout}
use Rattle.mend.specs.Refusals.{mend_program_tests, mend_rule_refusal, rule_numbers, mended_tests, mend_refusal}
use Rattle.mend.proofs.Passed.{program_none, rule_mendable}
use Rattle.mend.proofs.Tests.{both_none}

mendable : (b : PlainBundle) → IsFormed b → mend_refusal b ≡ None → IsMendable b
mendable b formed none =
    let parts = both_none (mend_program_tests b) (map (mend_rule_refusal b) (rule_numbers b) ++ mended_tests b) none in
    let rules = both_none (map (mend_rule_refusal b) (rule_numbers b)) (mended_tests b) parts.1 in
    record {
      cast = formed.cast;
      marks = formed.choreo.indices;
      free = (program_none b parts.0).1;
      rules = λ k d inside. rule_mendable b formed rules.0 k (get_or b.rules k d) (slice_get-get_or b.rules k d inside);
    }

pub mended-plays : PlaysWithout → MendedPlaysWithout
mended-plays plays b es formed none h = plays b es (mendable b formed none) h
