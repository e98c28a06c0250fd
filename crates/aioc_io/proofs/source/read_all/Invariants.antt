-- what was read so far is gone from the source, and is no more than the limit
use Rattle.std.proofs.Common.{◌≡◌, ◌-◌, ◌≤◌, length, vec_len}
use Rattle.std.specs.Io.KnownBytes.{Consumes}
use Rattle.aioc_io.specs.declared.source.TheConstants.{PIECE}
use Rattle.aioc_io.proofs.source.read_all.Given as goal

abbrev pub invariant-loop-count : goal.invariant-loop-count
invariant-loop-count g l =
    (vec_len l.bytes ≤ l.limit) × Consumes ((g.S.Source.state l.initial.source).left) ((g.S.Source.state l.source).left) l.bytes.items
    × ((g.S.Source.state l.initial.source).faults ≤ (g.S.Source.state l.source).faults) × (length l.piece ≡ PIECE)

abbrev pub decreases-loop-count : goal.decreases-loop-count
decreases-loop-count g l = l.limit - vec_len l.bytes
