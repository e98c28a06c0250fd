-- The longest front of a list of lexemes that a relation reads.
use Rattle.std.specs.Prelude.{◌≤◌, List, length}
use Rattle.aioc_tokens.specs.Lexemes.{Lexeme}

-- This value is read up to there, and none is read further. A relation reads a value up to a rest
-- of the list.
pub record Longest {A : Type 0} (Reads : A → List Lexeme → Type 0) (value : A) (to : List Lexeme) :
    Type 0 where
  pub reads : Reads value to
  pub longest : (other : A) (end : List Lexeme) → Reads other end → length to ≤ length end

-- nothing is read
abbrev pub NoFront : {A : Type 0} → (A → List Lexeme → Type 0) → Type 0
NoFront {A} Reads = (value : A) (to : List Lexeme) → Reads value to → ⊥
