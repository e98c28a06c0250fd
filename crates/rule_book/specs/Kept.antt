-- What is kept of rules and of changes, and when it is so in a bundle.
use Rattle.std.specs.Prelude.{◌≡◌, ℕ, List, map, Some, slice_get, ⊤}
use Rattle.std.specs.List.{AllByRecursion}
use Rattle.dioc_terms.specs.declared.bundles.Change.{Change}
use Rattle.dioc_terms.specs.declared.bundles.Change.TheVariants as change
use Rattle.dioc_terms.specs.Expressions.{expression}
use Rattle.dioc_terms.specs.Plain.{PlainRule}
use Rattle.dioc_terms.specs.Terms.{cast_of}
use Rattle.rule_book.specs.declared.kept.KeptChange.{KeptChange}
use Rattle.rule_book.specs.declared.kept.KeptChange.TheVariants as kept
use Rattle.rule_book.specs.declared.kept.KeptRule.{KeptRule}

-- the change of the script that a kept change is
abbrev pub change_of : KeptChange → Change
change_of (kept.Add name rule) = change.Add rule.number
change_of (kept.Drop name) = change.Drop name
change_of (kept.Env key v) = change.Env key v

-- the numbers of the rules that are kept under names, in their order
abbrev pub order_of : List (List ℕ × KeptRule) → List ℕ
order_of entries = map (λ entry. entry.1.number) entries

-- what is kept under a name is so in the rule of its number
pub record IsKept (rules : List PlainRule) (name : List ℕ) (kept : KeptRule) : Type 0 where
  pub rule : PlainRule
  pub at : slice_get rules kept.number ≡ Some rule
  pub named : name ≡ rule.name
  pub priority : kept.priority ≡ rule.priority
  pub condition : expression kept.cond ≡ rule.cond
  pub roles : kept.roles ≡ cast_of rule.body

abbrev pub AreKept : List PlainRule → List (List ℕ × KeptRule) → Type 0
AreKept rules entries = AllByRecursion (λ entry. IsKept rules entry.0 entry.1) entries

-- the rule that a kept change adds is so among the rules
abbrev pub IsKeptChange : List PlainRule → KeptChange → Type 0
IsKeptChange rules (kept.Add name rule) = IsKept rules name rule
IsKeptChange rules _ = ⊤
