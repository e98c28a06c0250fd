-- What a source has left, and what a reading of it gave.
use Rattle.std.specs.Prelude.{ℕ, ◌≤◌, List, length, Option}
use Rattle.std.specs.Io.KnownBytes.{Consumes}

-- at most this many bytes were given: what is left is the rest behind them
abbrev pub GivesAtMost : ℕ → Option (List ℕ) → Option (List ℕ) → Type 0
GivesAtMost most before after =
    (given : List ℕ) × (length given ≤ most) × Consumes before after given

-- what contracts see of a source: the bytes that it has left, where it tells them, and how often a
-- call has failed
pub record SourceState : Type 0 where
  pub left : Option (List ℕ)
  pub faults : ℕ
