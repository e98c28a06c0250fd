-- What is wanted behind the first tokens of a bundle.
use Rattle.std.specs.Prelude.{◌≡◌, ℕ, ◌+◌, ◌<◌, Bool, true, List, [], ◌∷◌, ◌++◌, length, reverse, Option, Some, None, option_map, is_some}
use Rattle.aioc_tokens.specs.Lexemes.{Lexeme}
use Rattle.wanted_tokens.specs.declared.looks.Look.{Look}
use Rattle.wanted_tokens.specs.declared.goals.Goal.{Goal}
use Rattle.wanted_tokens.specs.declared.goals.Goal.TheVariants as goal
use Rattle.wanted_tokens.specs.Looks.{look}
use Rattle.wanted_tokens.specs.Wanted.{Reading, reading_behind, stop, unwanted}
use Rattle.wanted_items.specs.declared.items.Item.{Item}
use Rattle.wanted_items.specs.declared.walks.Walk.{Walk}
use Rattle.wanted_items.specs.Items.{lexeme_of}

-- the goal takes a token that is seen so, in a text of either version
abbrev pub IsTakenBy : Goal → Look → Type 0
IsTakenBy goal look = (second : Bool) → is_some (reading_behind second (goal ∷ []) look) ≡ true

abbrev pub TakesItem : Goal → Item → Type 0
TakesItem goal item = IsTakenBy goal (look (lexeme_of item ∷ []))

-- what a walk stands for
abbrev pub reading_of : Walk → Reading
reading_of walk = record { second = walk.second; wanted = reverse walk.goals.items }

-- the first unwanted token of a bundle that begins with these is found from this reading on
abbrev pub AreReadTo : List Lexeme → Reading → Type 0
AreReadTo front reading =
    (others : List Lexeme) → unwanted goal.Bundle (front ++ others)
    ≡ option_map (λ n. length front + n) (stop others reading)

-- one of the tokens isn't wanted, whatever follows them
pub record StopsBefore (front : List Lexeme) : Type 0 where
  pub place : ℕ
  pub earlier : place < length front
  pub stops : (others : List Lexeme) → unwanted goal.Bundle (front ++ others) ≡ Some place

-- a walk over these tokens, or none where one of them isn't wanted
abbrev pub IsWalk : List Lexeme → Option Walk → Type 0
IsWalk front None = StopsBefore front
IsWalk front (Some walk) = AreReadTo front (reading_of walk)
