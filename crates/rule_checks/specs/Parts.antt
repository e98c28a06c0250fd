-- The tests of the rules in the two parts in which they are made: those of the rules of the start,
-- and those of the changes of the script.
use Rattle.std.specs.Prelude.{List, map, Option, None}
use Rattle.dioc_terms.specs.declared.bundles.Change.{Change}
use Rattle.dioc_terms.specs.declared.bundles.Change.TheVariants as change
use Rattle.dioc_terms.specs.declared.bundles.Timed.{Timed}
use Rattle.dioc_terms.specs.Bundles.{numbers_from}
use Rattle.dioc_terms.specs.Plain.{PlainBundle}
use Rattle.rule_checks.specs.declared.refusals.Refusal.{Refusal}
use Rattle.rule_checks.specs.Refusals.{rule_refusal}

abbrev pub opening_tests : PlainBundle → List (Option Refusal)
opening_tests b = map (rule_refusal b) (numbers_from 0 b.opening)

-- an add has the refusal of its rule, no other change has one
abbrev pub change_refusal : PlainBundle → Change → Option Refusal
change_refusal b (change.Add n) = rule_refusal b n
change_refusal b _ = None

abbrev pub script_tests : PlainBundle → List (Option Refusal)
script_tests b = map (λ (timed : Timed). change_refusal b timed.change) b.script
