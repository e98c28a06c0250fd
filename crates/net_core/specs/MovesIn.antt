-- The moves that the roles of a net have, by their locals and the mail.
use Rattle.std.specs.Prelude.{◌≡◌, ℕ, List, [], ◌∷◌, ◌++◌, map, filter, length, slice_get, Bool, false, nat_le, nat_lt}
use Rattle.std.specs.List.{filter_map, list_all}
use Rattle.dioc_terms.specs.declared.names.Role.{Role}
use Rattle.dioc_terms.specs.declared.entries.Act.{Act}
use Rattle.dpoc_process.specs.LocalStates.{LocalState, offered}
use Rattle.network_steps.specs.Network.{Network}
use Rattle.network_steps.specs.declared.moves.Move.{Move}
use Rattle.network_steps.specs.declared.moves.Move.TheVariants as move
use Rattle.network_steps.specs.Schedule.{is_ready}
use Rattle.process_steps.specs.Steps.{offers}
use Rattle.role_mailbox.specs.declared.mail.Mail.{Mail}
use Rattle.net_core.specs.Deeds.{IsAt, is_there}
use Rattle.net_core.specs.Standing.{ScriptedChange}

-- the acts that a role offers, without takes whose message isn't pending
abbrev pub local_moves : Role → LocalState → Mail → List Move
local_moves q s mail = map (move.Act q) (filter (λ a. is_there a mail) (offered s))

-- those of the roles, role by role
abbrev pub moves_in : List Role → List LocalState → Mail → List Move
moves_in (q ∷ qs) (s ∷ ss) mail = local_moves q s mail ++ moves_in qs ss mail
moves_in _ _ mail = []

-- whether the first of the changes may stand after so many visible entries
abbrev pub is_first_due : List ScriptedChange → ℕ → Bool
is_first_due [] visible_entries = false
is_first_due (due ∷ rest) visible_entries = nat_le due.after visible_entries

-- the acts that a role can do now: those that it offers, without takes whose message isn't pending
abbrev pub ready_of : Network → Role → List Act
ready_of N q = filter (is_ready N) (offers q (N.processes q))

-- the acts at these places
abbrev pub chosen : List ℕ → List Act → List Act
chosen places acts = filter_map (slice_get acts) places

-- whether an act stands at each of these places
abbrev pub are_places : List ℕ → List Act → Bool
are_places places acts = list_all (λ place. nat_lt place (length acts)) places

-- the role is at a place, and these are the acts that it can do now
pub record ReadyAt (cast : List Role) (locals : List LocalState) (mail : Mail) (q : Role)
    (acts : List Act) : Type 0 where
  pub local : LocalState
  pub is_at : IsAt cast locals q local
  pub ready : acts ≡ filter (λ a. is_there a mail) (offered local)
