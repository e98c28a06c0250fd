-- The parts of a text as the code holds them, and what may stand behind one.
use Rattle.std.specs.Prelude.{◌≡◌, ℕ, ◌+◌, ◌<◌, ◌≤◌, Bool, false, not, ◌||◌, ◌==◌, List, [], ◌∷◌, ◌++◌, drop, length, map, slice_range, IsTrue}
use Rattle.std.specs.Char.{is_ascii_digit}
use Rattle.std.specs.List.{list_all}
use Rattle.aioc_tokens.specs.declared.kinds.Kind.TheVariants.{Name, Number, Text, Symbol}
use Rattle.aioc_tokens.specs.declared.kinds.Kind.{Kind}
use Rattle.aioc_tokens.specs.declared.words.Sort.{Sort}
use Rattle.aioc_tokens.specs.declared.words.Sort.TheVariants.{End}
use Rattle.aioc_tokens.specs.Tokens.{is_name_byte, BeginsComment, IsLongestToken, Spells}
use Rattle.bundle_layout.specs.declared.parts.PartKind.{PartKind}
use Rattle.bundle_layout.specs.declared.parts.PartKind.TheVariants.{Token, Comment}
use Rattle.bundle_layout.specs.declared.parts.Part.{Part}
use Rattle.bundle_layout.specs.Pieces.{Piece, HasPieces}

-- the bytes of a part
abbrev pub bytes_of : List ℕ → Part → List ℕ
bytes_of text part = slice_range text part.start part.end

-- the pieces that parts of a text are
abbrev pub pieces_of : List ℕ → List Part → List Piece
pieces_of text parts = map (λ part. record { kind = part.kind; bytes = bytes_of text part }) parts

-- these bytes are a token of that kind, or a comment in one line
abbrev pub IsSpelled : PartKind → List ℕ → Type 0
IsSpelled (Token kind) bytes = Spells kind bytes
IsSpelled Comment bytes =
    BeginsComment bytes × IsTrue (list_all (λ byte. not (byte == 10)) bytes)

-- a part lies in the text
pub record LiesIn (text : List ℕ) (part : Part) : Type 0 where
  pub some : part.start < part.end
  pub within : part.end ≤ length text
  pub spelled : IsSpelled part.kind (bytes_of text part)

-- a token of this kind
abbrev pub token_part : Kind → Sort → ℕ → ℕ → Part
token_part kind sort start end =
    record { kind = Token kind; sort = sort; start = start; end = end }

-- a comment
abbrev pub comment_part : ℕ → ℕ → Part
comment_part start end = record { kind = Comment; sort = End; start = start; end = end }

-- the part is the token that begins at this place
pub record IsTokenAt (text : List ℕ) (at : ℕ) (sort : Sort) (part : Part) : Type 0 where
  pub kind : Kind
  pub count : ℕ
  pub is : part ≡ token_part kind sort at (at + count)
  pub longest : IsLongestToken (drop at text) kind count

-- directly behind a part of this kind the byte would belong to it, or make another symbol or a
-- comment of it
abbrev pub goes_on : PartKind → ℕ → Bool
goes_on (Token Name) byte = is_name_byte byte
goes_on (Token Number) byte = is_ascii_digit byte
goes_on (Token Text) byte = false
goes_on (Token Symbol) byte = byte == 61 || byte == 43 || byte == 62 || byte == 47
goes_on Comment byte = not (byte == 10)

-- a part of this kind ends before this text
abbrev pub EndsBefore : PartKind → List ℕ → Type 0
EndsBefore kind [] = Unit {0}
EndsBefore kind (byte ∷ others) = goes_on kind byte ≡ false

-- Behind these bytes, which end with a part of this kind, a text adds its pieces to these.
pub record IsReady (kind : PartKind) (written : List ℕ) (pieces : List Piece) : Type 0 where
  pub extends : (others : List ℕ) (more : List Piece) → EndsBefore kind others
      → HasPieces others more → HasPieces (written ++ others) (pieces ++ more)
