-- Copying whole runs of bytes: what was written, with the run that is to be copied next, has the pieces so far.
use Rattle.std.proofs.Common.{◌≡◌, ℕ, zero, suc, ◌+◌, ◌-◌, ◌<◌, ◌≤◌, true, List, [], ◌∷◌, ◌++◌, length, get_or, take, drop, slice_range, refl, ap, sym, ◌∙◌, subst, arith, append_assoc, append-nil, drop-drop}
use Rattle.std.specs.List.{list_all}
use Rattle.std.proofs.lemmas.List.{take_all}
use Rattle.std.proofs.lemmas.List.Edits.{get_or-between, length-between}
use Rattle.aioc_tokens.specs.Tokens.{is_space}
use Rattle.bundle_layout.specs.declared.parts.PartKind.{PartKind}
use Rattle.bundle_layout.specs.declared.parts.Part.{Part}
use Rattle.bundle_layout.specs.Pieces.{Piece, HasPieces}
use Rattle.bundle_layout.specs.Parts.{bytes_of, pieces_of, LiesIn, EndsBefore, IsReady}
use Rattle.bundle_layout.proofs.Ready.{ready_begun, ready_more, pieces_more, ready_ended}

take_none : {X : Type 0} (count : ℕ) → take {A = X} count [] ≡ []
take_none zero = refl
take_none (suc count) = refl

take_joined : {X : Type 0} (count more : ℕ) (xs : List X) → take count xs ++ take more (drop count xs) ≡ take (count + more) xs
take_joined zero more xs = ap (λ count. take count xs) (omega arith)
take_joined (suc count) more [] = take_none more ∙ sym (take_none (suc count + more))
take_joined (suc count) more (x ∷ xs) = ap (λ rest. x ∷ rest) (take_joined count more xs) ∙ ap (λ count. take count (x ∷ xs)) (let same : suc (count + more) ≡ suc count + more = omega arith in same)

-- two slices side by side
slices_joined : {X : Type 0} (xs : List X) (from mid to : ℕ) → from ≤ mid → mid ≤ to → slice_range xs from mid ++ slice_range xs mid to ≡ slice_range xs from to
slices_joined xs from mid to one two =
    let left : drop mid xs ≡ drop (mid - from) (drop from xs) = ap (λ place. drop place xs) (omega arith) ∙ sym (drop-drop (mid - from) from xs) in
    ap (λ left. slice_range xs from mid ++ take (to - mid) left) left ∙ take_joined (mid - from) (to - mid) (drop from xs) ∙ ap (λ count. take count (drop from xs)) (omega arith)

first_of : (xs : List ℕ) (from to other : ℕ) → from < to → get_or (slice_range xs from to) 0 other ≡ get_or xs from other
first_of xs from to other some = get_or-between xs from to 0 other (omega (arith, some)) ∙ ap (λ place. get_or xs place other) (let same : from + 0 ≡ from = omega arith in same)

-- what was written, and the bytes from one place up to another that are to be copied next
pub record IsRunReady (bytes : List ℕ) (kind : PartKind) (written : List ℕ) (from to : ℕ) (pieces : List Piece) : Type 0 where
  pub ordered : from ≤ to
  pub within : to ≤ length bytes
  pub ready : IsReady kind (written ++ slice_range bytes from to) pieces

pub run_begun : (bytes : List ℕ) (kind : PartKind) (written : List ℕ) → written ≡ [] → IsRunReady bytes kind written 0 0 []
run_begun bytes kind written empty = record {
  ordered = omega arith;
  within = omega arith;
  ready = ready_begun kind (written ++ slice_range bytes 0 0) (append-nil written ∙ empty);
}

module _ (bytes : List ℕ) (parts : List Part) (place : ℕ) (other : Part) (inside : place < length parts) (kind : PartKind) (written : List ℕ) (from to : ℕ)
    (kept : IsRunReady bytes kind written from to (pieces_of bytes (take place parts))) (gap : List ℕ) (spaces : list_all is_space gap ≡ true) where
  -- a gap and a part more, behind what is to be copied
  part_added : LiesIn bytes (get_or parts place other) → ((others : List ℕ) → EndsBefore kind (gap ++ get_or bytes (get_or parts place other).start 0 ∷ others))
      → IsReady (get_or parts place other).kind (((written ++ slice_range bytes from to) ++ gap) ++ bytes_of bytes (get_or parts place other)) (pieces_of bytes (take (place + 1) parts))
  part_added lies ends =
      let part = get_or parts place other in
      let text = bytes_of bytes part in
      let first : get_or text 0 0 ≡ get_or bytes part.start 0 = first_of bytes part.start part.end 0 lies.some in
      let size : length text ≡ part.end - part.start = length-between bytes part.start part.end lies.within in
      let more : 0 < length text = omega (arith, size, lies.some) in
      subst (IsReady part.kind (((written ++ slice_range bytes from to) ++ gap) ++ text)) (sym (pieces_more bytes parts place other inside))
      (ready_more kind part.kind (written ++ slice_range bytes from to) gap text (pieces_of bytes (take place parts)) kept.ready spaces more
      (λ others. subst (λ (byte : ℕ). EndsBefore kind (gap ++ byte ∷ others)) (sym first) (ends others)) lies.spelled)

  -- it is copied with what stands before it
  pub run_goes_on : LiesIn bytes (get_or parts place other) → ((others : List ℕ) → EndsBefore kind (gap ++ get_or bytes (get_or parts place other).start 0 ∷ others))
      → (to ≤ (get_or parts place other).start) × (slice_range bytes to (get_or parts place other).start ≡ gap)
      → IsRunReady bytes (get_or parts place other).kind written from (get_or parts place other).end (pieces_of bytes (take (place + 1) parts))
  run_goes_on lies ends stands =
      let part = get_or parts place other in
      let run = slice_range bytes from to in
      let joined : (run ++ gap) ++ bytes_of bytes part ≡ slice_range bytes from part.end =
      ap (λ gap. (run ++ gap) ++ bytes_of bytes part) (sym stands.1) ∙ ap (λ front. front ++ bytes_of bytes part) (slices_joined bytes from to part.start kept.ordered stands.0)
      ∙ slices_joined bytes from part.start part.end (omega (arith, kept.ordered, stands.0)) (omega (arith, lies.some)) in
      let same : ((written ++ run) ++ gap) ++ bytes_of bytes part ≡ written ++ slice_range bytes from part.end =
      ap (λ front. front ++ bytes_of bytes part) (append_assoc written run gap) ∙ append_assoc written (run ++ gap) (bytes_of bytes part) ∙ ap (λ rest. written ++ rest) joined in
      record {
        ordered = omega (arith, kept.ordered, stands.0, lies.some);
        within = lies.within;
        ready = subst (λ all. IsReady part.kind all (pieces_of bytes (take (place + 1) parts))) same (part_added lies ends);
      }

  -- what stands before it is copied, and then a gap is written
  pub run_begins : LiesIn bytes (get_or parts place other) → ((others : List ℕ) → EndsBefore kind (gap ++ get_or bytes (get_or parts place other).start 0 ∷ others))
      → IsRunReady bytes (get_or parts place other).kind ((written ++ slice_range bytes from to) ++ gap) (get_or parts place other).start (get_or parts place other).end (pieces_of bytes (take (place + 1) parts))
  run_begins lies ends = record {
    ordered = omega (arith, lies.some);
    within = lies.within;
    ready = part_added lies ends;
  }

pub run_ended : (bytes : List ℕ) (parts : List Part) (place : ℕ) (kind : PartKind) (written : List ℕ) (from to : ℕ) → length parts ≤ place → IsRunReady bytes kind written from to (pieces_of bytes (take place parts))
    → HasPieces ((written ++ slice_range bytes from to) ++ 10 ∷ []) (pieces_of bytes parts)
run_ended bytes parts place kind written from to past kept =
    subst (λ parts. HasPieces ((written ++ slice_range bytes from to) ++ 10 ∷ []) (pieces_of bytes parts)) (take_all place parts past)
    (ready_ended kind (written ++ slice_range bytes from to) (pieces_of bytes (take place parts)) kept.ready)
