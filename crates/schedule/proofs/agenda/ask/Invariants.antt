-- The places so far are those of the acts so far, and of those behind the others.
use Rattle.std.proofs.Common.{◌≡◌, ◌≤◌, drop, take}
use Rattle.net_core.specs.Nets.{network_of}
use Rattle.network_steps.specs.Schedule.{is_ready}
use Rattle.schedule.specs.Agendas.{parted}
use Rattle.schedule.proofs.agenda.ask.Given as goal

abbrev pub invariant-loop-at : goal.invariant-loop-at
invariant-loop-at g l = record {
  parted : l.ready.items ≡ parted (is_ready (network_of l.net)) l.end (take l.at l.acts) (drop l.end l.acts);
  order : l.at ≤ l.end;
}
