-- What a condition asks of a property.
use Rattle.std.specs.Prelude.{◌≡◌, ℕ, ℤ, List, false, Option, None, Some}
use Rattle.std.specs.Coded.{Coded-set, coded_bool, Unit-prop, Π_prop}
use Rattle.dioc_terms.specs.declared.values.Value.{Value}
use Rattle.dioc_terms.specs.declared.values.Value.TheVariants.{Int}
use Rattle.dioc_terms.specs.Equality.{value_eq}
use Rattle.dioc_terms.specs.Expressions.{Expression}
use Rattle.dioc_terms.specs.Stores.{Store}
use Rattle.dioc_terms.specs.Values.{holds}

-- the condition doesn't hold where the property of that name isn't this whole number
abbrev pub IsWanted : Expression → Option (List ℕ × ℤ) → Type 0
IsWanted e None = Unit {0}
IsWanted e (Some wanted) = (s : Store) (props env : List ℕ → Value)
    → value_eq (props wanted.0) (Int wanted.1) ≡ false → holds e s props env ≡ false

pub IsWanted-prop : (e : Expression) (wanted : Option (List ℕ × ℤ)) → IsProp (IsWanted e wanted)
IsWanted-prop e None = Unit-prop
IsWanted-prop e (Some wanted) = Π_prop (λ s. Π_prop (λ props. Π_prop (λ env.
    Π_prop (λ other. Coded-set coded_bool (holds e s props env) false))))
