-- The net was driven on towards the entry, and the agenda is its.
use Rattle.std.proofs.Common.{◌≡◌, ◌-◌, List, [], ◌∷◌, length}
use Rattle.std.specs.Prelude.{map}
use Rattle.dioc_terms.specs.declared.entries.Entry.{Entry}
use Rattle.net_drive.specs.Driving.{DrivesOn, HasRoom}
use Rattle.schedule.specs.Agendas.{agenda_of, ready_seen}
use Rattle.net_drive.proofs.traces.reach_by.Given as goal

abbrev pub invariant-turns : goal.invariant-turns
invariant-turns g l = record {
  way : (rest : List Entry) → DrivesOn l.initial.net l.net [] (l.entry ∷ rest);
  room : HasRoom l.net;
  agenda : map ready_seen l.agenda.items ≡ agenda_of l.net;
}

abbrev pub decreases-turns : goal.decreases-turns
decreases-turns g l = l.net.limit - length l.net.history
