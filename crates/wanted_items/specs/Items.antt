-- What may stand at a place of a text: a token that would be taken there.
use Rattle.std.specs.Prelude.{ℕ, Bool, true, false, not, ◌==◌, List, [], ◌∷◌, ◌++◌, length, Option, Some, None, codes}
use Rattle.aioc_tokens.specs.Lexemes.{Lexeme, Name, Number, Text, Reserved, Symbol}
use Rattle.wanted_tokens.specs.declared.goals.Goal.TheVariants as goal
use Rattle.wanted_tokens.specs.Looks.{place_word_spelling}
use Rattle.wanted_tokens.specs.Wanted.{unwanted}
use Rattle.wanted_items.specs.declared.items.Item.{Item}
use Rattle.wanted_items.specs.declared.items.Item.TheVariants as item

-- the token that stands for an item: for a kind of tokens a plain one of the kind
abbrev pub lexeme_of : Item → Lexeme
lexeme_of item.Name = Name (codes "x")
lexeme_of item.Number = Number (codes "0")
lexeme_of item.Two = Number (codes "2")
lexeme_of item.Text = Text []
lexeme_of (item.Reserved word) = Reserved word
lexeme_of (item.Placed word) = Name (place_word_spelling word)
lexeme_of (item.Symbol punctuator) = Symbol punctuator

-- the place is that at which a list stops
abbrev pub stops_at : ℕ → Option ℕ → Bool
stops_at at None = false
stops_at at (Some place) = place == at

-- behind these tokens of a bundle the item's token would be taken
abbrev pub is_wanted : List Lexeme → Item → Bool
is_wanted front item =
    not (stops_at (length front) (unwanted goal.Bundle (front ++ lexeme_of item ∷ [])))

-- and the text may end there
abbrev pub is_over : Option ℕ → Bool
is_over None = true
is_over (Some place) = false

abbrev pub may_end : List Lexeme → Bool
may_end front = is_over (unwanted goal.Bundle front)
