-- What a source has left after it gave some bytes.
use Rattle.std.proofs.Common.{◌≡◌, ℕ, ◌+◌, ◌<◌, min, List, [], ◌++◌, length, take, drop, Some, None, IfSome, ap, sym, ◌∙◌, arith, length-append, length-drop, take-append-drop, drop_of_length-le}
use Rattle.std.proofs.lemmas.List.{drop_at, drop-drop}
use Rattle.std.specs.Prelude.{Option}
use Rattle.std.specs.Io.KnownBytes.{Consumes}

-- Whoever gave one byte more than the limit had more than that left, and has left what stands behind them.
pub Consumes-past_limit : (before after : Option (List ℕ)) (given : List ℕ) (limit : ℕ) → length given ≡ limit + 1 → Consumes before after given
    → IfSome before (λ told. (limit < length told) × (after ≡ Some (drop (limit + 1) told)))
Consumes-past_limit None after given limit long consumed = tt
Consumes-past_limit (Some told) None given limit long consumed = absurd consumed
Consumes-past_limit (Some told) (Some rest) given limit long consumed =
    (omega (arith, ap length consumed, length-append given rest), ap Some (sym (ap (drop (limit + 1)) consumed ∙ drop_at given rest (limit + 1) long)))

-- A read from a place in the bytes gave what stands there, and goes on behind it. It gave none only at their end.
pub reads_from : (bytes piece : List ℕ) (at count : ℕ) → count ≡ min (length (drop at bytes)) (length piece) → take count piece ≡ take count (drop at bytes)
    → (drop at bytes ≡ take count piece ++ drop (at + count) bytes) × (count ≡ 0 → 0 < length piece → drop (at + count) bytes ≡ [])
reads_from bytes piece at count counted copied = (
  sym (take-append-drop count (drop at bytes)) ∙ ap (λ l. l ++ drop count (drop at bytes)) (sym copied) ∙ ap (λ l. take count piece ++ l) (drop-drop count at bytes),
  λ none some. drop_of_length-le bytes (omega (arith, length-drop at bytes)),
)
