-- What a text is made of: its tokens and its comments, in their order.
use Rattle.std.specs.Prelude.{◌≡◌, ℕ, List, [], ◌∷◌, take, drop, IsTrue}
use Rattle.aioc_tokens.specs.Tokens.{is_space, BeginsComment, line_length, IsLongestToken}
use Rattle.bundle_layout.specs.declared.parts.PartKind.{PartKind}
use Rattle.bundle_layout.specs.declared.parts.PartKind.TheVariants.{Token, Comment}

-- a token or a comment, by its bytes
pub record Piece : Type 0 where
  pub kind : PartKind
  pub bytes : List ℕ

-- the first bytes of a text, as many as this, are its first token, or a comment up to the end of
-- its line
abbrev pub IsFirst : PartKind → List ℕ → ℕ → Type 0
IsFirst (Token kind) text count = IsLongestToken text kind count
IsFirst Comment text count = BeginsComment text × (count ≡ line_length text)

-- a text has these pieces, and between them nothing but spaces and line feeds
pub data HasPieces : List ℕ → List Piece → Type 0 where
  no_piece : HasPieces [] []
  space_first : {byte : ℕ} {others : List ℕ} {pieces : List Piece}
      → IsTrue (is_space byte)
      → HasPieces others pieces
      → HasPieces (byte ∷ others) pieces
  piece_first : {text : List ℕ} {kind : PartKind} (count : ℕ) {pieces : List Piece}
      → IsFirst kind text count
      → HasPieces (drop count text) pieces
      → HasPieces text (record { kind = kind; bytes = take count text } ∷ pieces)

-- two texts have the same tokens and the same comments, in the same order
pub record SamePieces (text other : List ℕ) : Type 0 where
  pub pieces : List Piece
  pub of_text : HasPieces text pieces
  pub of_other : HasPieces other pieces
