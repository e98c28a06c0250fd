-- Writing parts one by one: what is written, with whatever may follow, has the pieces so far.
use Rattle.std.proofs.Common.{◌≡◌, ℕ, zero, suc, ◌+◌, ◌<◌, ◌&&◌, Bool, true, false, List, [], ◌∷◌, ◌++◌, length, get_or, take, drop, map, refl, ap, sym, ◌∙◌, subst, arith, append_assoc, append-nil}
use Rattle.std.specs.List.{list_all}
use Rattle.std.proofs.lemmas.Bool.{and_from}
use Rattle.std.proofs.lemmas.List.{take_more, map-append}
use Rattle.aioc_tokens.specs.declared.kinds.Kind.TheVariants as kinds
use Rattle.aioc_tokens.specs.Tokens.{is_space}
use Rattle.bundle_layout.specs.declared.parts.PartKind.{PartKind}
use Rattle.bundle_layout.specs.declared.parts.PartKind.TheVariants.{Token, Comment}
use Rattle.bundle_layout.specs.declared.parts.Part.{Part}
use Rattle.bundle_layout.specs.Pieces.{Piece, HasPieces, no_piece, space_first}
use Rattle.bundle_layout.specs.Parts.{bytes_of, pieces_of, IsSpelled, goes_on, EndsBefore, IsReady}
use Rattle.bundle_layout.proofs.Fronts.{part_before, spaces_before}

-- nothing is written
pub ready_begun : (kind : PartKind) (written : List ℕ) → written ≡ [] → IsReady kind written []
ready_begun kind written empty = record {
  extends = λ others more ends has. subst (λ (front : List ℕ). HasPieces (front ++ others) more) (sym empty) has;
}

-- what ends a part before the first byte of another ends it before the other and what follows
ends_before : (kind : PartKind) (gap bytes others : List ℕ) → 0 < length bytes → ((rest : List ℕ) → EndsBefore kind (gap ++ get_or bytes 0 0 ∷ rest)) → EndsBefore kind (gap ++ (bytes ++ others))
ends_before kind gap [] others some ends = absurd (omega arith)
ends_before kind gap (first ∷ bytes) others some ends = ends (bytes ++ others)

-- a gap and a part more
pub ready_more : (kind next : PartKind) (written gap bytes : List ℕ) (pieces : List Piece) → IsReady kind written pieces → list_all is_space gap ≡ true → 0 < length bytes
    → ((rest : List ℕ) → EndsBefore kind (gap ++ get_or bytes 0 0 ∷ rest)) → IsSpelled next bytes → IsReady next ((written ++ gap) ++ bytes) (pieces ++ record { kind = next; bytes = bytes } ∷ [])
ready_more kind next written gap bytes pieces ready spaces some ends spelled = record {
  extends = λ others more last has.
      let piece : Piece = record { kind = next; bytes = bytes } in
      let first = part_before next bytes others more spelled last has in
      let spaced = spaces_before gap (bytes ++ others) (piece ∷ more) spaces first in
      let whole = ready.extends (gap ++ (bytes ++ others)) (piece ∷ more) (ends_before kind gap bytes others some ends) spaced in
      let same : written ++ (gap ++ (bytes ++ others)) ≡ ((written ++ gap) ++ bytes) ++ others = sym (append_assoc written gap (bytes ++ others)) ∙ sym (append_assoc (written ++ gap) bytes others) in
      subst (λ text. HasPieces text ((pieces ++ piece ∷ []) ++ more)) same
      (subst (HasPieces (written ++ (gap ++ (bytes ++ others)))) (sym (append_assoc pieces (piece ∷ []) more)) whole);
}

-- the pieces of one part more
pub pieces_more : (text : List ℕ) (parts : List Part) (at : ℕ) (other : Part) → at < length parts
    → pieces_of text (take (at + 1) parts) ≡ pieces_of text (take at parts) ++ record { kind = (get_or parts at other).kind; bytes = bytes_of text (get_or parts at other) } ∷ []
pieces_more text parts at other within =
    let shown = λ (part : Part). let piece : Piece = record { kind = part.kind; bytes = bytes_of text part } in piece in
    ap (map shown) (take_more parts at other within) ∙ map-append shown (take at parts) (get_or parts at other ∷ [])

ends_at_line_feed : (kind : PartKind) → goes_on kind 10 ≡ false
ends_at_line_feed (Token kinds.Name) = refl
ends_at_line_feed (Token kinds.Number) = refl
ends_at_line_feed (Token kinds.Text) = refl
ends_at_line_feed (Token kinds.Symbol) = refl
ends_at_line_feed Comment = refl

-- a line feed behind the last part
pub ready_ended : (kind : PartKind) (written : List ℕ) (pieces : List Piece) → IsReady kind written pieces → HasPieces (written ++ 10 ∷ []) pieces
ready_ended kind written pieces ready =
    subst (HasPieces (written ++ 10 ∷ [])) (append-nil pieces) (ready.extends (10 ∷ []) [] (ends_at_line_feed kind) (space_first refl no_piece))

both : (one two : Bool) → (one && two) ≡ true → (one ≡ true) × (two ≡ true)
both true two pass = (refl, pass)
both false two pass = absurd cc

all_of_rest : (passes : ℕ → Bool) (bytes : List ℕ) (from : ℕ) → list_all passes bytes ≡ true → list_all passes (drop from bytes) ≡ true
all_of_rest passes bytes zero all = all
all_of_rest passes [] (suc from) all = refl
all_of_rest passes (byte ∷ bytes) (suc from) all = all_of_rest passes bytes from (both _ _ all).1

all_of_front : (passes : ℕ → Bool) (bytes : List ℕ) (count : ℕ) → list_all passes bytes ≡ true → list_all passes (take count bytes) ≡ true
all_of_front passes bytes zero all = refl
all_of_front passes [] (suc count) all = refl
all_of_front passes (byte ∷ bytes) (suc count) all = and_from _ _ (both _ _ all).0 (all_of_front passes bytes count (both _ _ all).1)

-- what all bytes pass, those of a slice pass
pub all_of_slice : (passes : ℕ → Bool) (bytes : List ℕ) (count from : ℕ) → list_all passes bytes ≡ true → list_all passes (take count (drop from bytes)) ≡ true
all_of_slice passes bytes count from all = all_of_front passes (drop from bytes) count (all_of_rest passes bytes from all)
