-- What holds of a text up to one of its tokens.
use Rattle.std.specs.Prelude.{ℕ, List, [], ◌∷◌, ◌++◌, take}
use Rattle.aioc_tokens.specs.declared.kinds.Token.{Token}
use Rattle.aioc_tokens.specs.Lexing.{Lexes, place_of}
use Rattle.aioc_tokens.specs.Lexemes.{Lexeme, lexemes, HasLexemes, HasSpelling}
use Rattle.aioc_tokens.specs.Spelling.{spelling}

-- each byte of the text is in a token, a space or a comment
abbrev pub HasTokens : List ℕ → Type 0
HasTokens text = (tokens : List Token) × Lexes 0 text tokens

-- the text up to a token, and a line feed
abbrev pub up_to : List ℕ → List Token → ℕ → List ℕ
up_to text tokens at = take (place_of text tokens at) text ++ 10 ∷ []

-- and behind that what is written of a lexeme
abbrev pub with_last : List ℕ → List Token → ℕ → Lexeme → List ℕ
with_last text tokens at last = take (place_of text tokens at) text ++ 10 ∷ spelling last

-- They are read as the lexemes before the token, and that one behind them. So one lexeme after the
-- other can be tried in the place of the token.
pub record FrontsAreRead : Type 0 where
  pub alone : (text : List ℕ) (tokens : List Token) (at : ℕ) → Lexes 0 text tokens
      → HasLexemes (up_to text tokens at) (take at (lexemes text tokens))
  pub with_another : (text : List ℕ) (tokens : List Token) (at : ℕ) (last : Lexeme)
      → Lexes 0 text tokens → HasSpelling last
      → HasLexemes (with_last text tokens at last) (take at (lexemes text tokens) ++ last ∷ [])
