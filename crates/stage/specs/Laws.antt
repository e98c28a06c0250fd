-- What holds of where roles stand in the run of a network, whatever the bundle.
use Rattle.std.specs.Prelude.{◌≡◌, List, [], ◌∷◌, ◌++◌, Some}
use Rattle.dioc_terms.specs.declared.names.Role.{Role}
use Rattle.dioc_terms.specs.declared.entries.Act.{Act}
use Rattle.dioc_terms.specs.declared.entries.Entry.{Entry}
use Rattle.dioc_terms.specs.Attempts.{Does}
use Rattle.dioc_terms.specs.Messages.{doer, act_of}
use Rattle.dioc_terms.specs.Plain.{PlainBundle, setting}
use Rattle.dioc_terms.specs.Processes.{Process}
use Rattle.dioc_terms.specs.Stores.{Store}
use Rattle.process_steps.specs.Steps.{Deed, entry_of, store_after, step}
use Rattle.network_steps.specs.Network.{Network, given_at, network_run}
use Rattle.turn_lock.specs.Items.{items_of, BeginsWith}
use Rattle.stage.specs.Owners.{cast_place, owner_in}
use Rattle.stage.specs.Roles.{RoleStandsAt}

-- Others leave alone: a history that begins with what a seat has seen, and has no more entries of
-- the seat's role than were seen, leaves the role where it stood.
abbrev pub OthersLeaveAlone : Type 0
OthersLeaveAlone =
    (b : PlainBundle) (seen H mine : List Entry) (N : Network) (q : Role) (P : Process) (s : Store)
    → BeginsWith H seen → items_of (owner_in b.cast) (cast_place b.cast q) H ≡ mine
    → items_of (owner_in b.cast) (cast_place b.cast q) seen ≡ mine → network_run b H ≡ Some N
    → RoleStandsAt b seen q P s → RoleStandsAt b H q P s

-- Deeds move: after its own deed the role stands where its step took it.
abbrev pub DeedsMove : Type 0
DeedsMove =
    (b : PlainBundle) (H : List Entry) (N : Network) (q : Role) (P : Process) (s : Store) (a : Act)
    (d : Deed) (Q : Process)
    → network_run b H ≡ Some N → RoleStandsAt b H q P s
    → step q s P a (given_at (setting b) N q a) ≡ Does d Q → doer (entry_of d) ≡ Some q
    → act_of (entry_of d) ≡ Some a
    → RoleStandsAt b (H ++ entry_of d ∷ []) q Q (store_after d s)
