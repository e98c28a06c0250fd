-- The lexemes of a text are those of its pieces.
use Rattle.std.proofs.Common.{◌≡◌, ℕ, ◌+◌, ◌≤◌, List, [], ◌∷◌, length, take, drop, refl, ap, sym, ◌∙◌, subst, arith, drop-drop}
use Rattle.aioc_tokens.specs.declared.kinds.Token.{Token}
use Rattle.aioc_tokens.specs.Tokens.{comment}
use Rattle.aioc_tokens.specs.Lexing.{Lexes, blank_first, token_first, bytes_of}
use Rattle.aioc_tokens.specs.Lexemes.{Lexeme, lexeme, lexemes, HasLexemes}
use Rattle.aioc_tokens.proofs.Readings.{one_reading}
use Rattle.aioc_tokens.proofs.Written.{IsRead, nothing_read, space_read, whole_read}
use Rattle.dioc_terms.specs.Plain.{PlainBundle}
use Rattle.limits.specs.Limits.{most_bytes}
use Rattle.bundle_text.specs.Grammar.{ReadsAs, Spells}
use Rattle.bundle_layout.specs.declared.parts.PartKind.{PartKind}
use Rattle.bundle_layout.specs.declared.parts.PartKind.TheVariants as kinds
use Rattle.bundle_layout.specs.Pieces.{Piece, IsFirst, HasPieces, no_piece, space_first, piece_first, SamePieces}

-- what the grammar sees of a piece, before that of the others
abbrev pub with_seen : PartKind → List ℕ → List Lexeme → List Lexeme
with_seen (kinds.Token kind) bytes others = lexeme kind bytes ∷ others
with_seen kinds.Comment bytes others = others

abbrev pub seen : List Piece → List Lexeme
seen [] = []
seen (first ∷ others) = with_seen first.kind first.bytes (seen others)

-- one piece before what is read
first_read : (whole : List ℕ) (at : ℕ) (text : List ℕ) (kind : PartKind) (count : ℕ) (found : List Lexeme) → drop at whole ≡ text → IsFirst kind text count → IsRead whole (at + count) (drop count text) found
    → IsRead whole at text (with_seen kind (take count text) found)
first_read whole at text (kinds.Token kind) count found rest first read =
    let token : Token = record { kind = kind; start = at; end = at + count } in
    let bytes : bytes_of whole token ≡ take count text = ap (λ most. take most (drop at whole)) (omega arith) ∙ ap (take count) rest in
    record {
      rest_is = rest;
      tokens = token ∷ read.tokens;
      lexes = token_first first read.lexes;
      lexemes_are = λ i. lexeme kind (bytes i) ∷ read.lexemes_are i;
    }
first_read whole at text kinds.Comment count found rest first read = record {
  rest_is = rest;
  tokens = read.tokens;
  lexes = blank_first (comment first.0 first.1) read.lexes;
  lexemes_are = read.lexemes_are;
}

pieces_read : (whole : List ℕ) (at : ℕ) (text : List ℕ) (pieces : List Piece) → drop at whole ≡ text → HasPieces text pieces → IsRead whole at text (seen pieces)
pieces_read whole at text pieces rest no_piece = nothing_read whole at rest
pieces_read whole at text pieces rest (space_first {byte = byte} {others = others} is has) =
    space_read whole at byte others (seen pieces) is rest (pieces_read whole (at + 1) others pieces (sym (drop-drop 1 at whole) ∙ ap (drop 1) rest) has)
pieces_read whole at text pieces rest (piece_first {kind = kind} count {pieces = more} first has) =
    first_read whole at text kind count (seen more) rest first (pieces_read whole (at + count) (drop count text) more (sym (drop-drop count at whole) ∙ ap (drop count) rest) has)

pub pieces_seen : (text : List ℕ) (pieces : List Piece) → HasPieces text pieces → HasLexemes text (seen pieces)
pieces_seen text pieces has = whole_read text (seen pieces) (pieces_read text 0 text pieces refl has)

pub same_lexemes : (text other : List ℕ) (found : List Lexeme) → SamePieces text other → HasLexemes text found → HasLexemes other found
same_lexemes text other found same has =
    subst (HasLexemes other) (one_reading text (seen same.pieces) found (pieces_seen text same.pieces same.of_text) has) (pieces_seen other same.pieces same.of_other)

pub same_tokens : (text other : List ℕ) (tokens others : List Token) → SamePieces text other → Lexes 0 text tokens → Lexes 0 other others → lexemes text tokens ≡ lexemes other others
same_tokens text other tokens others same lexes other_lexes =
    one_reading other (lexemes text tokens) (lexemes other others)
    (same_lexemes text other (lexemes text tokens) same (record { tokens = tokens; lexes = lexes; lexemes_are = refl }))
    (record { tokens = others; lexes = other_lexes; lexemes_are = refl })

pub same_reading : (text other : List ℕ) (b : PlainBundle) → SamePieces text other → ReadsAs text b → ReadsAs other b
same_reading text other b same reads = record { found = reads.found; lexemes = same_lexemes text other reads.found same reads.lexemes; bundle = reads.bundle }

pub same_bundle : (text other : List ℕ) (b : PlainBundle) → SamePieces text other → length other ≤ most_bytes → Spells text b → Spells other b
same_bundle text other b same short spells = record { small = short; reads = same_reading text other b same spells.reads }
