-- the bytes before `done` were taken
use Rattle.std.proofs.Common.{◌-◌, ◌≤◌, length, take}
use Rattle.std.specs.Io.KnownBytes.{Appends}
use Rattle.aioc_io.proofs.sink.write_all.Given as goal

abbrev pub invariant-loop-done : goal.invariant-loop-done
invariant-loop-done g l =
    (l.done ≤ length l.bytes) × Appends ((g.O.Sink.state l.initial.out).taken) ((g.O.Sink.state l.out).taken) (take l.done l.bytes)
    × ((g.O.Sink.state l.initial.out).faults ≤ (g.O.Sink.state l.out).faults)

abbrev pub decreases-loop-done : goal.decreases-loop-done
decreases-loop-done g l = length l.bytes - l.done
