-- What repeated bytes and the pieces of items are, one further.
use Rattle.std.proofs.Common.{◌≡◌, ℕ, suc, ◌+◌, ◌<◌, List, [], ◌∷◌, ◌++◌, length, take, sym, ap, ◌∙◌, arith, append_assoc, append-nil, add-zero, add-one, get_or, Result, Ok, Err, OnOk, OnErr}
use Rattle.std.proofs.lemmas.List.{flat_map_more, length-take-le}
use Rattle.std.specs.List.{flat_map}
use Rattle.std.proofs.Math.Seq.{take-suc}
use Rattle.text_pieces.specs.Pieces.{KeepsFront}
use Rattle.text_pieces.proofs.KeptFronts.{front_after}
use Rattle.trace_picture.specs.Runs.{pieces_below, pieces_from, repeated}

-- the pieces of one item more
pub pieces_from_snoc : {T : Type 0} (piece : ℕ → T → List ℕ) (first : ℕ) (items : List T) (item : T) →
    pieces_from piece first (items ++ item ∷ []) ≡ pieces_from piece first items ++ piece (first + length items) item
pieces_from_snoc piece first [] item = append-nil (piece first item) ∙ ap (λ n. piece n item) (sym (add-zero first))
pieces_from_snoc piece first (x ∷ items) item =
    let shift : suc first + length items ≡ first + suc (length items) = omega arith in
    ap (λ rest. piece first x ++ rest) (pieces_from_snoc piece (suc first) items item)
    ∙ sym (append_assoc (piece first x) (pieces_from piece (suc first) items) (piece (suc first + length items) item))
    ∙ ap (λ n. (piece first x ++ pieces_from piece (suc first) items) ++ piece n item) shift

-- what stands there when the piece of one item more is written
pub pieces_from_step : {T : Type 0} (piece : ℕ → T → List ℕ) (items : List T) (i : ℕ) (x : T) (old middle new : List ℕ) → i < length items → x ≡ get_or items i x →
    middle ≡ old ++ pieces_from piece 0 (take i items) → new ≡ middle ++ piece i x → new ≡ old ++ pieces_from piece 0 (take (i + 1) items)
pieces_from_step piece items i x old middle new within at so_far more =
    let front : take (suc i) items ≡ take i items ++ x ∷ [] = take-suc items i x within ∙ ap (λ p. take i items ++ p ∷ []) (sym at) in
    let length_is = length-take-le i items (omega arith) in
    let counted : 0 + length (take i items) ≡ i = omega arith in
    let whole : pieces_from piece 0 (take (i + 1) items) ≡ pieces_from piece 0 (take i items) ++ piece i x =
    ap (λ k. pieces_from piece 0 (take k items)) (add-one i) ∙ ap (pieces_from piece 0) front ∙ pieces_from_snoc piece 0 (take i items) x
    ∙ ap (λ n. pieces_from piece 0 (take i items) ++ piece n x) counted in
    more ∙ ap (λ m. m ++ piece i x) so_far ∙ append_assoc old (pieces_from piece 0 (take i items)) (piece i x) ∙ ap (λ rest. old ++ rest) (sym whole)

-- what stands there when the text of one item more is written: of an item that is read where it stands, and of one that was taken from there
pub flat_map_at : {T : Type 0} (piece : T → List ℕ) (items : List T) (i : ℕ) (none : T) (old middle new : List ℕ) → i < length items →
    middle ≡ old ++ flat_map piece (take i items) → new ≡ middle ++ piece (get_or items i none) → new ≡ old ++ flat_map piece (take (i + 1) items)
flat_map_at piece items i none old middle new within so_far more =
    let front : take (i + 1) items ≡ take i items ++ get_or items i none ∷ [] = ap (λ k. take k items) (add-one i) ∙ take-suc items i none within in
    more ∙ ap (λ m. m ++ piece (get_or items i none)) so_far ∙ flat_map_more piece old (take i items) (get_or items i none) ∙ ap (λ l. old ++ flat_map piece l) (sym front)

pub flat_map_step : {T : Type 0} (piece : T → List ℕ) (items : List T) (i : ℕ) (x : T) (old middle new : List ℕ) → i < length items → x ≡ get_or items i x →
    middle ≡ old ++ flat_map piece (take i items) → new ≡ middle ++ piece x → new ≡ old ++ flat_map piece (take (i + 1) items)
flat_map_step piece items i x old middle new within at so_far more =
    flat_map_at piece items i x old middle new within so_far (more ∙ ap (λ y. middle ++ piece y) at)

-- what stands there when the piece of one number more is written, and when a byte is once more
pub pieces_below_step : (piece : ℕ → List ℕ) (i : ℕ) (old middle new : List ℕ) → middle ≡ old ++ pieces_below piece i → new ≡ middle ++ piece i → new ≡ old ++ pieces_below piece (i + 1)
pieces_below_step piece i old middle new so_far more =
    more ∙ ap (λ m. m ++ piece i) so_far ∙ append_assoc old (pieces_below piece i) (piece i) ∙ ap (λ k. old ++ pieces_below piece k) (sym (add-one i))

pub repeated_step : (byte i : ℕ) (old middle new : List ℕ) → middle ≡ old ++ repeated byte i → new ≡ middle ++ byte ∷ [] → new ≡ old ++ repeated byte (i + 1)
repeated_step byte i old middle new so_far more =
    more ∙ ap (λ m. m ++ byte ∷ []) so_far ∙ append_assoc old (repeated byte i) (byte ∷ []) ∙ ap (λ k. old ++ repeated byte k) (sym (add-one i))

-- what stands there when a text was written and then another one
pub behind_text : {A E : Type 0} (result : Result A E) (old first second middle new : List ℕ) → middle ≡ old ++ first → OnOk result (new ≡ middle ++ second) → OnOk result (new ≡ old ++ (first ++ second))
behind_text (Ok value) old first second middle new is more = more ∙ ap (λ m. m ++ second) is ∙ append_assoc old first second
behind_text (Err fault) old first second middle new is more = tt

-- what a writer leaves that has run out of memory behind others: the old bytes still stand in front
pub still_front : {A E : Type 0} (result : Result A E) (old more middle bytes : List ℕ) → middle ≡ old ++ more → KeepsFront middle bytes → OnErr result (KeepsFront old bytes)
still_front (Ok value) old more middle bytes is kept = tt
still_front (Err fault) old more middle bytes is kept = front_after old more middle bytes is kept
