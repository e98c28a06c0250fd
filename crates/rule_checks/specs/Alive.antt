-- The names of the rules in the book, through the changes of a script.
use Rattle.std.specs.Prelude.{ℕ, zero, suc, max, List, [], ◌∷◌, length, not, filter, Option, Some, None, slice_get}
use Rattle.indexmap.specs.IndexSet.{insert_key}
use Rattle.dioc_terms.specs.declared.bundles.Change.{Change}
use Rattle.dioc_terms.specs.declared.bundles.Change.TheVariants as change
use Rattle.dioc_terms.specs.declared.bundles.Timed.{Timed}
use Rattle.dioc_terms.specs.Equality.{name_eq}
use Rattle.dioc_terms.specs.Plain.{PlainRule}

module _ (rules : List PlainRule) where
  -- the name of rule m among them, last where it is new; a number past the rules adds nothing
  abbrev pub added_name : ℕ → List (List ℕ) → List (List ℕ)
  added_name m names = by_rule (slice_get rules m)
    where
      by_rule : Option PlainRule → List (List ℕ)
      by_rule None = names
      by_rule (Some rule) = insert_key name_eq names rule.name

  abbrev pub changed_names : Change → List (List ℕ) → List (List ℕ)
  changed_names (change.Add m) names = added_name m names
  changed_names (change.Drop name) names = filter (λ other. not (name_eq name other)) names
  changed_names (change.Env key v) names = names

  -- those of the first so many rules
  abbrev pub first_names : ℕ → List (List ℕ)
  first_names zero = []
  first_names (suc n) = added_name n (first_names n)

  -- the greatest number of names, at the start and after each change
  abbrev pub most_names : List (List ℕ) → List Timed → ℕ
  most_names names [] = length names
  most_names names (timed ∷ rest) =
      max (length names) (most_names (changed_names timed.change names) rest)
