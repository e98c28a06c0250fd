-- Rules whose conditions join no texts, and so are tested without memory.
use Rattle.std.specs.Prelude.{Bool}
use Rattle.dioc_terms.specs.Conditions.{has_no_join}
use Rattle.dioc_terms.specs.Plain.{PlainRule}

abbrev pub joins_nothing : PlainRule → Bool
joins_nothing rule = has_no_join rule.cond
