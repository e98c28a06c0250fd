-- The agenda so far is of the roles so far.
use Rattle.std.proofs.Common.{◌≡◌, take}
use Rattle.std.specs.Prelude.{map}
use Rattle.net_core.specs.Nets.{network_of}
use Rattle.schedule.specs.Agendas.{ready_in, ready_seen}
use Rattle.schedule.proofs.agenda.list_ready.Given as goal

abbrev pub invariant-loop-role : goal.invariant-loop-role
invariant-loop-role g l = map ready_seen l.agenda.items ≡ map (ready_in (network_of l.net)) (take l.role-index l.cast)
