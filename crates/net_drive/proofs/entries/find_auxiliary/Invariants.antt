-- None of the roles so far has an auxiliary act.
use Rattle.std.proofs.Common.{◌≡◌, drop}
use Rattle.std.specs.Prelude.{flat_map, map}
use Rattle.std.specs.List.{find}
use Rattle.net_drive.specs.Driven.{is_aux_move}
use Rattle.schedule.specs.Agendas.{moves_of, ready_seen}
use Rattle.net_drive.proofs.entries.find_auxiliary.Given as goal

abbrev pub invariant-loop-doer : goal.invariant-loop-doer
invariant-loop-doer l =
    find is_aux_move (flat_map moves_of (map ready_seen l.agenda)) ≡ find is_aux_move (flat_map moves_of (map ready_seen (drop l.doer l.agenda)))
