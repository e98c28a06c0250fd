-- The move that an entry shows, and what it is for a net to make a move.
use Rattle.std.specs.Prelude.{◌≡◌, List, Bool, true, false, Option, Some, None}
use Rattle.dioc_terms.specs.declared.entries.Act.{Act}
use Rattle.dioc_terms.specs.declared.entries.Entry.{Entry}
use Rattle.dioc_terms.specs.declared.names.Role.{Role}
use Rattle.dioc_terms.specs.Messages.{act_of, doer}
use Rattle.dioc_terms.specs.Plain.{setting}
use Rattle.network_steps.specs.Network.{NextNetwork}
use Rattle.network_steps.specs.declared.moves.Move.{Move}
use Rattle.network_steps.specs.declared.moves.Move.TheVariants as move
use Rattle.net_core.specs.Nets.{NetState, network_of}
use Rattle.net_core.specs.Steps.{GoesOn}
use Rattle.network_steps.specs.Schedule.{move_step}
use Rattle.schedule.specs.declared.roles.Listed.{Listed}
use Rattle.schedule.specs.Agendas.{Shown, move_at}

-- the act of that role, or else the script's next change
abbrev pub move_by : Option Role → Option Act → Move
move_by (Some r) (Some a) = move.Act r a
move_by _ _ = move.Change

-- the move that an entry shows: its doer's act, or else the script's next change
abbrev pub shown_move : Entry → Move
shown_move e = move_by (doer e) (act_of e)

-- whether the net made the step: it went on by it, or there is no such step and the net stays
abbrev pub Makes : Option NextNetwork → NetState → NetState → Bool → Type 0
Makes step old new true = (outcome : NextNetwork) × (step ≡ Some outcome) × GoesOn old outcome new
Makes step old new false = (step ≡ None) × (new ≡ old)

-- the same of the move that an agenda lists there
abbrev pub MakesListed : NetState → List Shown → Listed → NetState → Bool → Type 0
MakesListed old agenda made new is_made = (m : Move) → move_at agenda made ≡ Some m
    → Makes (move_step (setting old.bundle) (network_of old) m) old new is_made
