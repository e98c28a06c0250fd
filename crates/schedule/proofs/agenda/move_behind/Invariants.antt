-- The places so far are moved, and the rest are as they were.
use Rattle.std.proofs.Common.{◌≡◌, ◌++◌, drop, map, take}
use Rattle.schedule.specs.Agendas.{moved}
use Rattle.schedule.proofs.agenda.move_behind.Given as goal

abbrev pub invariant-loop-place : goal.invariant-loop-place
invariant-loop-place l =
    l.places ≡ map (moved l.at l.count) (take l.place-index l.initial.places) ++ drop l.place-index l.initial.places
