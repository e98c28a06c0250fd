-- A part that ends before what follows it is the first piece there.
use Rattle.std.proofs.Common.{◌≡◌, ℕ, suc, ◌+◌, ◌==◌, ◌&&◌, not, Bool, true, false, cond, List, [], ◌∷◌, ◌++◌, length, flat_map, refl, ap, sym, ◌∙◌, subst, arith, length-append, append_assoc, drop_at, take_at}
use Rattle.std.specs.List.{list_all, prefix_len}
use Rattle.aioc_tokens.specs.declared.kinds.Kind.{Kind}
use Rattle.aioc_tokens.specs.declared.kinds.Kind.TheVariants as kinds
use Rattle.aioc_tokens.specs.Tokens.{is_name_byte, is_printable, is_space, escaped, quoted, IsNameSpelling, IsLongestToken, BeginsComment, Spells}
use Rattle.aioc_tokens.specs.Lexemes.{Number, Symbol}
use Rattle.aioc_tokens.proofs.Runs.{name_longest, name_bytes}
use Rattle.aioc_tokens.specs.Packed.{text_end}
use Rattle.aioc_tokens.proofs.Quotes.{text_end_closes, text_longest}
use Rattle.aioc_tokens.proofs.Written.{spelling_front}
use Rattle.bundle_layout.specs.declared.parts.PartKind.{PartKind}
use Rattle.bundle_layout.specs.declared.parts.PartKind.TheVariants.{Token, Comment}
use Rattle.bundle_layout.specs.Pieces.{Piece, IsFirst, HasPieces, piece_first, space_first}
use Rattle.bundle_layout.specs.Parts.{IsSpelled, goes_on, EndsBefore}

-- a run of bytes that all pass ends where one that doesn't follows
run_ends : (passes : ℕ → Bool) (bytes others : List ℕ) → list_all passes bytes ≡ true → prefix_len passes others ≡ 0 → prefix_len passes (bytes ++ others) ≡ length bytes
run_ends passes [] others all stops = stops
run_ends passes (byte ∷ bytes) others all stops = go (passes byte) all (run_ends passes bytes others)
  where
    go : (pass : Bool) → (pass && list_all passes bytes) ≡ true → (list_all passes bytes ≡ true → prefix_len passes others ≡ 0 → prefix_len passes (bytes ++ others) ≡ length bytes)
        → cond pass (1 + prefix_len passes (bytes ++ others)) 0 ≡ suc (length bytes)
    go true rest ends = let same = ends rest stops in omega arith
    go false rest ends = absurd cc

-- nothing that follows goes on the part
no_run : (kind : PartKind) (others : List ℕ) → EndsBefore kind others → prefix_len (goes_on kind) others ≡ 0
no_run kind [] ends = refl
no_run kind (byte ∷ others) ends = rw ends refl

name_front : (bytes others : List ℕ) → IsNameSpelling bytes → prefix_len is_name_byte others ≡ 0 → IsLongestToken (bytes ++ others) kinds.Name (length bytes)
name_front [] others spells stops = absurd spells
name_front (first ∷ bytes) others spells stops =
    subst (IsLongestToken (first ∷ bytes ++ others) kinds.Name) (run_ends is_name_byte (first ∷ bytes) others (name_bytes (first ∷ bytes) spells) stops) (name_longest (first ∷ bytes ++ others) spells.0)

quoted_front : (value others : List ℕ) → list_all is_printable value ≡ true → IsLongestToken (quoted value ++ others) kinds.Text (length (quoted value))
quoted_front value others printable =
    let inside = flat_map escaped value in
    let ends = ap (text_end false) (append_assoc inside (34 ∷ []) others) ∙ text_end_closes value others printable in
    subst (IsLongestToken (quoted value ++ others) kinds.Text) (omega (arith, length-append inside (34 ∷ []))) (text_longest (quoted value ++ others) (suc (length inside)) refl ends)

token_front : (kind : Kind) (bytes others : List ℕ) → Spells kind bytes → EndsBefore (Token kind) others → IsLongestToken (bytes ++ others) kind (length bytes)
token_front kinds.Name bytes others spells ends = name_front bytes others spells (no_run (Token kinds.Name) others ends)
token_front kinds.Number bytes others spells ends = spelling_front (Number bytes) others spells (no_run (Token kinds.Number) others ends)
token_front kinds.Text bytes others spells ends =
    subst (λ bytes. IsLongestToken (bytes ++ others) kinds.Text (length bytes)) (sym spells.2) (quoted_front spells.0 others spells.1)
token_front kinds.Symbol bytes others spells ends =
    subst (λ bytes. IsLongestToken (bytes ++ others) kinds.Symbol (length bytes)) (sym spells.1) (spelling_front (Symbol spells.0) others tt (no_run (Token kinds.Symbol) others ends))

comment_begins : (bytes others : List ℕ) → BeginsComment bytes → BeginsComment (bytes ++ others)
comment_begins [] others begins = absurd cc
comment_begins (first ∷ []) others begins = absurd cc
comment_begins (first ∷ second ∷ bytes) others begins = begins

-- the bytes of a part that ends before others are the first piece of both
pub part_front : (kind : PartKind) (bytes others : List ℕ) → IsSpelled kind bytes → EndsBefore kind others → IsFirst kind (bytes ++ others) (length bytes)
part_front (Token kind) bytes others spelled ends = token_front kind bytes others spelled ends
part_front Comment bytes others spelled ends =
    (comment_begins bytes others spelled.0, sym (run_ends (λ byte. not (byte == 10)) bytes others spelled.1 (no_run Comment others ends)))

-- so a part stands before the pieces of what follows
pub part_before : (kind : PartKind) (bytes others : List ℕ) (more : List Piece) → IsSpelled kind bytes → EndsBefore kind others → HasPieces others more → HasPieces (bytes ++ others) (record { kind = kind; bytes = bytes } ∷ more)
part_before kind bytes others more spelled ends has =
    let left = subst (λ left. HasPieces left more) (sym (drop_at bytes others (length bytes) refl)) has in
    subst (λ (front : List ℕ). HasPieces (bytes ++ others) (record { kind = kind; bytes = front } ∷ more)) (take_at bytes others (length bytes) refl) (piece_first (length bytes) (part_front kind bytes others spelled ends) left)

-- spaces stand before the pieces of what follows
pub spaces_before : (gap others : List ℕ) (more : List Piece) → list_all is_space gap ≡ true → HasPieces others more → HasPieces (gap ++ others) more
spaces_before [] others more all has = has
spaces_before (byte ∷ gap) others more all has = go (is_space byte) refl all (λ rest. spaces_before gap others more rest has)
  where
    go : (pass : Bool) → is_space byte ≡ pass → (pass && list_all is_space gap) ≡ true → (list_all is_space gap ≡ true → HasPieces (gap ++ others) more) → HasPieces (byte ∷ gap ++ others) more
    go true is rest further = space_first is (further rest)
    go false is rest further = absurd cc
