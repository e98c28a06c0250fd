-- A text has one list of pieces.
use Rattle.std.proofs.Common.{◌≡◌, ℕ, true, List, get_or, [], ◌∷◌, take, drop, refl, ap, sym, ◌∙◌, subst, arith, le_antisymm}
use Rattle.std.proofs.lemmas.Bool.{both_ways}
use Rattle.aioc_tokens.specs.Tokens.{is_space, space, comment}
use Rattle.aioc_tokens.proofs.Firsts.{same_kind, blank_or_token}
use Rattle.aioc_tokens.proofs.Blanks.{blank_size}
use Rattle.aioc_tokens.proofs.Walk.{token_size}
use Rattle.bundle_layout.specs.declared.parts.PartKind.{PartKind}
use Rattle.bundle_layout.specs.declared.parts.PartKind.TheVariants.{Token, Comment}
use Rattle.bundle_layout.specs.Pieces.{Piece, IsFirst, HasPieces, no_piece, space_first, piece_first}

none_at_end : (kind : PartKind) (count : ℕ) → IsFirst kind [] count → ⊥
none_at_end (Token kind) count first = let size = token_size [] kind count first in omega (arith, size.0, size.1)
none_at_end Comment count first = let size = blank_size [] count (comment first.0 first.1) in omega (arith, size.0, size.1)

none_at_space : (byte : ℕ) (others : List ℕ) (kind : PartKind) (count : ℕ) → is_space byte ≡ true → IsFirst kind (byte ∷ others) count → ⊥
none_at_space byte others (Token kind) count is first = blank_or_token (byte ∷ others) kind count 1 (space is) first
none_at_space byte others Comment count is first = both_ways _ (ap (λ word. is_space (get_or word 0 0)) first.0) is

same_first : (text : List ℕ) (kind other : PartKind) (count more : ℕ) → IsFirst kind text count → IsFirst other text more → (kind ≡ other) × (count ≡ more)
same_first text (Token kind) (Token other) count more one two = (ap Token (same_kind text kind other count more one.front two.front), le_antisymm (two.longest kind count one.front) (one.longest other more two.front))
same_first text (Token kind) Comment count more one two = absurd (one.no_comment two.0)
same_first text Comment (Token other) count more one two = absurd (two.no_comment one.0)
same_first text Comment Comment count more one two = (refl, one.1 ∙ sym two.1)

pub one_list : (text : List ℕ) (pieces others : List Piece) → HasPieces text pieces → HasPieces text others → pieces ≡ others
one_list text pieces others no_piece no_piece = refl
one_list text pieces others no_piece (piece_first {kind = kind} count first rest) = absurd (none_at_end kind count first)
one_list text pieces others (piece_first {kind = kind} count first rest) no_piece = absurd (none_at_end kind count first)
one_list text pieces others (space_first {others = left} is has) (space_first other_is other_has) = one_list left pieces others has other_has
one_list text pieces others (space_first {byte = byte} {others = left} is has) (piece_first {kind = kind} count first rest) = absurd (none_at_space byte left kind count is first)
one_list text pieces others (piece_first {kind = kind} count first rest) (space_first {byte = byte} {others = left} is has) = absurd (none_at_space byte left kind count is first)
one_list text pieces others (piece_first {kind = kind} count {pieces = more} first rest) (piece_first {kind = other} far {pieces = left} other_first other_rest) =
    let same = same_first text kind other count far first other_first in
    let left_same = one_list (drop count text) more left rest (subst (λ count. HasPieces (drop count text) left) (sym same.1) other_rest) in
    λ i. record { kind = same.0 i; bytes = take (same.1 i) text } ∷ left_same i
