-- The count so far is of the roles so far.
use Rattle.std.proofs.Common.{◌≡◌, ◌≤◌, ◌*◌, ◌^◌, length, take}
use Rattle.std.specs.Prelude.{flat_map, map}
use Rattle.schedule.specs.Agendas.{moves_of, ready_seen}
use Rattle.schedule.proofs.agenda.count_acts.Given as goal

abbrev pub invariant-loop-ready : goal.invariant-loop-ready
invariant-loop-ready l = record {
  counted : l.count ≡ length (flat_map moves_of (map ready_seen (take l.ready-index l.agenda)));
  small : l.count ≤ l.ready-index * 2 ^ 64;
}
