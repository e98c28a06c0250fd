-- An item that was read goes behind the others.
use Rattle.std.specs.Prelude.{◌≡◌, ℕ, List, [], ◌∷◌, ◌++◌, Option, Some}

-- an item was read, with the place behind it, and stands behind the others
pub record IsAppended {A : Type 0} (found : Option (A × ℕ)) (old new : List A) (next : ℕ) :
    Type 0 where
  pub item : A
  pub was : found ≡ Some (item, next)
  pub items : new ≡ old ++ item ∷ []
