-- What may keep a step of a role from being made.
use Rattle.std.specs.Prelude.{Bool, ◌&&◌, not, Option, Some, None, if◌then◌else◌}
use Rattle.dioc_terms.specs.declared.names.Role.{Role}
use Rattle.dioc_terms.specs.declared.entries.Act.{Act}
use Rattle.dioc_terms.specs.Equality.{member}
use Rattle.dioc_terms.specs.Plain.{PlainBundle}
use Rattle.process_steps.specs.Steps.{offers, is_offered}
use Rattle.network_steps.specs.Network.{Network}
use Rattle.network_steps.specs.declared.moves.StepFault.{StepFault}
use Rattle.network_steps.specs.declared.moves.StepFault.TheVariants.{Ended, Full, NoAct, NotYet}

-- the first fault of a step: the network has ended, the history is full, the act isn't offered, its
-- message isn't there
abbrev pub first_fault : Bool → Bool → Bool → Bool → Option StepFault
first_fault ended full offered ready =
    if ended then Some Ended else if full then Some Full else if not offered then Some NoAct else if
    not ready then Some NotYet else None

-- a role of the cast offers the act
abbrev pub is_offered_by : PlainBundle → Network → Role → Act → Bool
is_offered_by b N q a = member q b.cast && is_offered a (offers q (N.processes q))
