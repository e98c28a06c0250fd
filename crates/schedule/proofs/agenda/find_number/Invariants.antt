-- The acts of the roles so far come before the one that is left to find.
use Rattle.std.proofs.Common.{◌≡◌, ◌+◌, length, take}
use Rattle.std.specs.Prelude.{flat_map, map}
use Rattle.schedule.specs.Agendas.{moves_of, ready_seen}
use Rattle.schedule.proofs.agenda.find_number.Given as goal

abbrev pub invariant-loop-doer : goal.invariant-loop-doer
invariant-loop-doer l = l.number ≡ l.left + length (flat_map moves_of (map ready_seen (take l.doer l.agenda)))
