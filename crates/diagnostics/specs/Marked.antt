-- The marks of constructs lie at the first tokens of the constructs, in the order of their indices.
use Rattle.std.specs.Prelude.{◌≡◌, ℕ, suc, ◌+◌, Bool, true, false, List, [], ◌∷◌, ◌++◌, drop}
use Rattle.aioc_tokens.specs.Lexemes.{Lexeme}
use Rattle.dioc_terms.specs.Terms.{Term, constructs}
use Rattle.dioc_syntax.specs.Choreographies.{Form, Stands, one_part, beside, one_step, last_step, in_turn, nothing, interaction, input, assignment, choice, loop, scope, group, block, no_else, otherwise}
use Rattle.text_places.specs.Marks.{is_construct, goes_on, sort_at, IsNth, Construct}

-- a mark stands at the front
abbrev pub is_mark : List Lexeme → Bool
is_mark list = is_construct list 0

-- from a list up to a rest of it, as many marks stand
pub data Marks : List Lexeme → ℕ → List Lexeme → Type 0 where
  no_more : {to : List Lexeme} → Marks to 0 to
  other : {first : Lexeme} {others to : List Lexeme} {count : ℕ}
      → is_mark (first ∷ others) ≡ false
      → Marks others count to
      → Marks (first ∷ others) count to
  mark : {first : Lexeme} {others to : List Lexeme} {count : ℕ}
      → is_mark (first ∷ others) ≡ true
      → Marks others count to
      → Marks (first ∷ others) (suc count) to

-- The constructs of a choreography that stands in a text: of each the place in its index, and the
-- list that begins with its first token.
abbrev pub places : {version : ℕ} {form : Form} {room earlier : ℕ} {from to : List Lexeme}
    {whole : Term} → Stands version form room earlier from whole to → List (ℕ × List Lexeme)
places (one_part part) = places part
places (beside first bar second) = places first ++ places second
places (one_step step) = places step
places (last_step step semicolon) = places step
places (in_turn first semicolon second) = places first ++ places second
places (nothing begins) = []
places (interaction {earlier = earlier} {from = from} rooms begins sends ends) =
    (earlier, from) ∷ []
places (input {earlier = earlier} {from = from} rooms begins) = (earlier, from) ∷ []
places (assignment {earlier = earlier} {from = from} begins given) = (earlier, from) ∷ []
places (choice {earlier = earlier} {from = from} begins guard head first second) =
    (earlier, from) ∷ (places first ++ places second)
places (loop {earlier = earlier} {from = from} begins guard head body) =
    (earlier, from) ∷ places body
places (scope {earlier = earlier} {from = from} begins body extra props) =
    (earlier, from) ∷ places body
places (group rooms opens inside closes) = places inside
places (block rooms opens inside closes) = places inside
places no_else = []
places (otherwise begins body) = places body

-- the list begins with a mark, and as many marks stand before it as the construct's place says
pub record IsPlace (from : List Lexeme) (earlier : ℕ) (place : ℕ × List Lexeme) : Type 0 where
  pub before : ℕ
  pub number : place.0 ≡ earlier + before
  pub marks : Marks from before place.1
  pub begins : is_mark place.1 ≡ true

abbrev pub ArePlaces : List Lexeme → ℕ → List (ℕ × List Lexeme) → Type 0
ArePlaces from earlier [] = Unit {0}
ArePlaces from earlier (first ∷ others) = IsPlace from earlier first × ArePlaces from earlier others

-- no name before this list is made a mark by it
abbrev pub is_calm : List Lexeme → Bool
is_calm to = goes_on (sort_at to 0) (sort_at to 1) (sort_at to 2)

pub record AreMarked {version : ℕ} {form : Form} {room earlier : ℕ} {from to : List Lexeme}
    {whole : Term} (stands : Stands version form room earlier from whole to) : Type 0 where
  pub each : ArePlaces from earlier (places stands)
  pub all : Marks from (constructs whole) to

-- of each choreography that stands in a text the constructs are marked, and nothing else is
abbrev pub ConstructsAreMarked : Type 0
ConstructsAreMarked = (version : ℕ) (form : Form) (room earlier : ℕ) (from to : List Lexeme)
    (whole : Term) (stands : Stands version form room earlier from whole to)
    → is_calm to ≡ false → AreMarked stands

-- of these constructs the one of that place begins at the list
abbrev pub BeginsAt : ℕ → List Lexeme → List (ℕ × List Lexeme) → Type 0
BeginsAt number at [] = Unit {0}
BeginsAt number at (first ∷ others) =
    (first.0 ≡ number → first.1 ≡ at) × BeginsAt number at others

-- Where a choreography stands in a text behind tokens without marks, the mark of a number that is
-- counted from those tokens on lies at the first token of the construct with this place in its
-- index.
abbrev pub MarksAreFirstTokens : Type 0
MarksAreFirstTokens = (text : List Lexeme) (from start number place : ℕ) (version : ℕ) (form : Form)
    (room : ℕ) (to : List Lexeme) (whole : Term)
    (stands : Stands version form room 0 (drop start text) whole to)
    → Marks (drop from text) 0 (drop start text)
    → is_calm to ≡ false
    → IsNth Construct text from number place
    → BeginsAt number (drop place text) (places stands)
