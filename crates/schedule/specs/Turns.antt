-- What a turn of a schedule is: a move that has no fault, and the net after it.
use Rattle.std.specs.Prelude.{◌≡◌, ℕ, List, Bool, Option, Some, None, length, slice_get}
use Rattle.dioc_terms.specs.declared.entries.Act.{Act}
use Rattle.dioc_terms.specs.declared.names.Role.{Role}
use Rattle.dioc_terms.specs.Plain.{setting}
use Rattle.network_steps.specs.Network.{NextNetwork, network_ended}
use Rattle.network_steps.specs.declared.moves.Move.{Move}
use Rattle.network_steps.specs.declared.moves.StepFault.{StepFault}
use Rattle.network_steps.specs.declared.moves.Move.TheVariants as move
use Rattle.network_steps.specs.Schedule.{move_place, move_step, moves, scheduled}
use Rattle.net_core.specs.Changes.{change_fault}
use Rattle.net_core.specs.Nets.{NetState, network_of}
use Rattle.net_core.specs.Steps.{GoesOn, fault_of}
use Rattle.schedule.specs.declared.roles.Listed.{Listed}
use Rattle.schedule.specs.Agendas.{IsListedAs, Shown, move_at}

-- whether the network of a net has ended
abbrev pub has_ended : NetState → Bool
has_ended net = network_ended net.bundle.cast (network_of net)

-- a move has no fault
abbrev pub CanMake : NetState → Move → Type 0
CanMake net move.Change = change_fault net ≡ None
CanMake net (move.Act q a) = fault_of net q a ≡ None

-- the move is the one that the schedule takes next
abbrev pub IsScheduled : NetState → Option ℕ → Move → Type 0
IsScheduled net seed next =
    let listed = moves (setting net.bundle) (network_of net) in
    slice_get listed (move_place seed (length listed)) ≡ Some next

-- the agenda lists it there
abbrev pub IsNext : NetState → Option ℕ → List Shown → Listed → Type 0
IsNext net seed agenda made =
    let all = moves (setting net.bundle) (network_of net) in
    IsListedAs agenda all (move_place seed (length all)) made

-- the move that an agenda lists there has no fault
pub record CanMakeListed (net : NetState) (agenda : List Shown) (made : Listed) : Type 0 where
  pub move : Move
  pub there : move_at agenda made ≡ Some move
  pub can : CanMake net move

-- the act that an agenda lists there has this fault
abbrev pub IsRefusedAs : NetState → List Shown → Listed → StepFault → Type 0
IsRefusedAs net agenda made fault = (q : Role) (a : Act) → move_at agenda made ≡ Some (move.Act q a)
    → fault_of net q a ≡ Some fault

-- the net has made this move
pub record IsMoveOf (old : NetState) (m : Move) (new : NetState) : Type 0 where
  pub outcome : NextNetwork
  pub steps : move_step (setting old.bundle) (network_of old) m ≡ Some outcome
  pub goes : GoesOn old outcome new

-- the net has made the move that the schedule takes next
pub record Advances (old : NetState) (seed : Option ℕ) (new : NetState) : Type 0 where
  pub outcome : NextNetwork
  pub takes : scheduled (setting old.bundle) (network_of old) seed ≡ Some outcome
  pub goes : GoesOn old outcome new
