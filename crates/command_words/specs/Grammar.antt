-- The same reading of words as a grammar: six rules, one for each way in which words are written.
use Rattle.std.specs.Prelude.{◌≡◌, List, [], ◌∷◌, ◌++◌, map, true, false, Some, codes}
use Rattle.command_words.specs.Words.{Text, KnownOptions, Item, named, word, takes_value, is_plain, items}

pub data Spells (known : KnownOptions) : List Text → List Item → Type 0 where
  nothing : Spells known [] []
  -- `--name`
  flag : {name : Text} {words : List Text} {found : List Item}
      → takes_value known name ≡ Some false → Spells known words found
      → Spells known ((codes "--" ++ name) ∷ words) (named name (codes "true") ∷ found)
  -- `--name=value`
  one_word : {name value : Text} {words : List Text} {found : List Item}
      → takes_value known name ≡ Some true → Spells known words found
      → Spells known ((codes "--" ++ (name ++ (codes "=" ++ value))) ∷ words)
      (named name value ∷ found)
  -- `--name` and then its value
  two_words : {name value : Text} {words : List Text} {found : List Item}
      → takes_value known name ≡ Some true → is_plain value ≡ true → Spells known words found
      → Spells known ((codes "--" ++ name) ∷ value ∷ words) (named name value ∷ found)
  -- a word with no hyphen first, or a hyphen alone
  positional : {text : Text} {words : List Text} {found : List Item}
      → is_plain text ≡ true → Spells known words found
      → Spells known (text ∷ words) (word text ∷ found)
  -- `--`, and then words of any form
  ended : {words : List Text} → Spells known (codes "--" ∷ words) (map word words)

-- what is read of words is what they spell, both ways
abbrev pub IsGrammar : KnownOptions → Type 0
IsGrammar known = (words : List Text) (found : List Item)
    → (items known words ≡ Some found → Spells known words found)
    × (Spells known words found → items known words ≡ Some found)
