-- The states so far are the old ones and those of the roles so far.
use Rattle.std.proofs.Common.{◌≡◌, ◌++◌, map, take}
use Rattle.dioc_terms.specs.Plain.{plain}
use Rattle.network_steps.specs.Network.{network_start}
use Rattle.net_core.specs.Standing.{local_in}
use Rattle.net_core.proofs.starting.add_states.Given as goal

abbrev pub invariant-loop-role : goal.invariant-loop-role
invariant-loop-role g l =
    map g.R.Runs.local l.states.items
    ≡ map g.R.Runs.local l.initial.states.items ++ map (local_in (network_start (plain l.bundle))) (take l.role-index l.cast)
