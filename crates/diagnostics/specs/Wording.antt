-- Pieces of a line.
use Rattle.std.specs.Prelude.{ℕ, List, decimal}
use Rattle.diagnostics.specs.declared.wording.Piece.{Piece}
use Rattle.diagnostics.specs.declared.wording.Piece.TheVariants as piece

-- the bytes of a piece
abbrev pub piece_text : Piece → List ℕ
piece_text (piece.Bytes bytes) = bytes.now
piece_text (piece.Number number) = decimal number
