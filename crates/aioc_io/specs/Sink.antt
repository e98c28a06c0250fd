-- What a sink took.
use Rattle.std.specs.Prelude.{◌⊎◌, ℕ, ◌<◌, List, length, take, Option}
use Rattle.std.specs.Io.KnownBytes.{Appends}
use Rattle.aioc_io.specs.Faults.{Rose}

-- the bytes were taken up to a place before their end, and none after it
abbrev pub TakesPart : Option (List ℕ) → Option (List ℕ) → List ℕ → Type 0
TakesPart before after bytes =
    (count : ℕ) × (count < length bytes) × Appends before after (take count bytes)

-- what contracts see of a sink: the bytes that it took, where it tells them, and how often a call
-- has failed
pub record SinkState : Type 0 where
  pub taken : Option (List ℕ)
  pub faults : ℕ

-- a sink took the line, or its count of faults rose and it took a part of it
abbrev pub SaysLine : SinkState → SinkState → List ℕ → Type 0
SaysLine sink sink_after line =
    Appends sink.taken sink_after.taken line
    ⊎ (Rose sink.faults sink_after.faults × TakesPart sink.taken sink_after.taken line)
