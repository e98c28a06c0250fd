-- The net was driven through the entries so far, and the agenda is its.
use Rattle.std.proofs.Common.{◌≡◌, drop, take}
use Rattle.std.specs.Prelude.{map}
use Rattle.net_drive.specs.Driving.{DrivesOn}
use Rattle.schedule.specs.Agendas.{agenda_of, ready_seen}
use Rattle.net_drive.proofs.traces.drive_through.Given as goal

abbrev pub invariant-loop-entry : goal.invariant-loop-entry
invariant-loop-entry g l = record {
  number : l.number ≡ l.entry-index;
  way : DrivesOn l.initial.net l.net (take l.entry-index l.trace) (drop l.entry-index l.trace);
  agenda : map ready_seen l.agenda.items ≡ agenda_of l.net;
}
