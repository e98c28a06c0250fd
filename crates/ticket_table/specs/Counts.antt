-- Totals, and how often a number stands in a list.
use Rattle.std.specs.Prelude.{ℕ, ◌+◌, List, [], ◌∷◌, ◌==◌, cond}

module _ {A : Type 0} where
  -- f of each, added up
  abbrev pub total : (A → ℕ) → List A → ℕ
  total f [] = 0
  total f (x ∷ xs) = f x + total f xs

abbrev pub one_if : ℕ → ℕ → ℕ
one_if m n = cond (m == n) 1 0

-- how often n stands among these numbers
abbrev pub times : ℕ → List ℕ → ℕ
times n numbers = total (λ m. one_if m n) numbers
