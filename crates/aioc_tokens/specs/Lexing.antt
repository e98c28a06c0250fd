-- The tokens of a text, and the first byte that is in none.
use Rattle.std.specs.Prelude.{ℕ, ◌+◌, ◌-◌, ◌<◌, ◌≤◌, List, [], ◌∷◌, length, drop, slice_range, slice_get}
use Rattle.std.specs.Option.{option_map_or}
use Rattle.aioc_tokens.specs.declared.kinds.Kind.{Kind}
use Rattle.aioc_tokens.specs.declared.kinds.Token.{Token}
use Rattle.aioc_tokens.specs.Tokens.{Spells, IsBlank, IsLongestToken, IsFront}

-- A text that begins at this place has these tokens, and between them nothing but spaces and
-- comments.
pub data Lexes : ℕ → List ℕ → List Token → Type 0 where
  ended : {at : ℕ} → Lexes at [] []
  blank_first : {at count : ℕ} {text : List ℕ} {tokens : List Token} → IsBlank text count
      → Lexes (at + count) (drop count text) tokens → Lexes at text tokens
  token_first : {at count : ℕ} {text : List ℕ} {kind : Kind} {tokens : List Token}
      → IsLongestToken text kind count → Lexes (at + count) (drop count text) tokens
      → Lexes at text (record { kind = kind; start = at; end = at + count } ∷ tokens)

-- In a text that begins at this place, the first byte that is in no token, space or comment stands
-- there.
pub data Breaks : ℕ → List ℕ → ℕ → Type 0 where
  at_once : {at byte : ℕ} {others : List ℕ} → ((count : ℕ) → ¬ IsBlank (byte ∷ others) count)
      → ((kind : Kind) (count : ℕ) → ¬ IsFront (byte ∷ others) kind count)
      → Breaks at (byte ∷ others) at
  after_blank : {at count bad : ℕ} {text : List ℕ} → IsBlank text count
      → Breaks (at + count) (drop count text) bad → Breaks at text bad
  after_token : {at count bad : ℕ} {text : List ℕ} {kind : Kind} → IsLongestToken text kind count
      → Breaks (at + count) (drop count text) bad → Breaks at text bad

-- each token has a byte, none begins before the end of the one before it, and all lie between these
-- places
abbrev pub InOrder : ℕ → ℕ → List Token → Type 0
InOrder from to [] = from ≤ to
InOrder from to (next ∷ others) =
    (from ≤ next.start) × (next.start < next.end) × InOrder next.end to others

-- the bytes of a token
abbrev pub bytes_of : List ℕ → Token → List ℕ
bytes_of text token = slice_range text token.start token.end

-- a token lies in the text, and its bytes are a token of its kind
pub record IsTokenOf (text : List ℕ) (token : Token) : Type 0 where
  pub ordered : token.start ≤ token.end
  pub within : token.end ≤ length text
  pub spells : Spells token.kind (bytes_of text token)

-- at its place a token is the longest
abbrev pub IsLongestAt : List ℕ → Token → Type 0
IsLongestAt text token = IsLongestToken (drop token.start text) token.kind (token.end - token.start)

-- where the token at this place of the list begins, or the end of the text
abbrev pub place_of : List ℕ → List Token → ℕ → ℕ
place_of text tokens at =
    option_map_or (λ (token : Token). token.start) (slice_get tokens at) (length text)
