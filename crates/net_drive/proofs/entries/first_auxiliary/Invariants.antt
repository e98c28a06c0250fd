-- None of the acts so far is auxiliary.
use Rattle.std.proofs.Common.{◌≡◌, drop}
use Rattle.std.specs.List.{find}
use Rattle.drive_laws.specs.Laws.{is_aux_act}
use Rattle.net_core.specs.MovesIn.{chosen}
use Rattle.net_drive.proofs.entries.first_auxiliary.Given as goal

abbrev pub invariant-loop-place : goal.invariant-loop-place
invariant-loop-place l =
    find is_aux_act (chosen l.ready.ready.items l.ready.acts.items) ≡ find is_aux_act (chosen (drop l.place l.ready.ready.items) l.ready.acts.items)
