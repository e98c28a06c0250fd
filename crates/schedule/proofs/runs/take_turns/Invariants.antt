-- The entries made so far, with the rest of the run, make the run; the agenda is that from before the last move.
use Rattle.std.proofs.Common.{◌-◌, length}
use Rattle.std.specs.Prelude.{map}
use Rattle.schedule.specs.Runs.{Goes}
use Rattle.schedule.specs.Agendas.{IsBehind, ready_seen}
use Rattle.schedule.proofs.runs.take_turns.Given as goal

abbrev pub invariant-turns : goal.invariant-turns
invariant-turns g l = record {
  goes : Goes l.initial.net l.fn.seed l.net l.numbers;
  stale : IsBehind l.net l.made (map ready_seen l.agenda.items);
}

abbrev pub decreases-turns : goal.decreases-turns
decreases-turns g l = l.net.limit - length l.net.history
