-- What holds of texts with the same pieces.
use Rattle.std.specs.Prelude.{◌≡◌, ℕ, List}
use Rattle.aioc_tokens.specs.declared.kinds.Token.{Token}
use Rattle.aioc_tokens.specs.Lexing.{Lexes}
use Rattle.aioc_tokens.specs.Lexemes.{Lexeme, HasLexemes, lexemes}
use Rattle.dioc_terms.specs.Plain.{PlainBundle}
use Rattle.bundle_text.specs.Grammar.{ReadsAs}
use Rattle.bundle_layout.specs.Pieces.{Piece, HasPieces, SamePieces}

-- a text has one list of pieces
abbrev pub OneListOfPieces : Type 0
OneListOfPieces =
    (text : List ℕ) (pieces others : List Piece) → HasPieces text pieces → HasPieces text others
    → pieces ≡ others

-- of two texts with the same pieces the one is read as the other: they have the same lexemes
abbrev pub SameLexemes : Type 0
SameLexemes =
    (text other : List ℕ) (found : List Lexeme) → SamePieces text other → HasLexemes text found
    → HasLexemes other found

-- so the tokens of both have the same lexemes at each place
abbrev pub SameTokens : Type 0
SameTokens =
    (text other : List ℕ) (tokens others : List Token) → SamePieces text other
    → Lexes 0 text tokens → Lexes 0 other others → lexemes text tokens ≡ lexemes other others

-- and the one reads as a bundle where the other does
abbrev pub ReadsTheSame : Type 0
ReadsTheSame =
    (text other : List ℕ) (b : PlainBundle) → SamePieces text other → ReadsAs text b
    → ReadsAs other b
