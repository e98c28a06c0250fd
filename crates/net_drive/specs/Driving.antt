-- What it is to drive a net through a trace: a turn towards an entry, the way to it, the whole.
use Rattle.std.specs.Prelude.{◌≡◌, ◌⊎◌, ◌≤◌, ◌<◌, ◌+◌, ℕ, List, [], ◌∷◌, ◌++◌, length, Bool, true, false, Option, Some, None, flat_map, slice_get}
use Rattle.std.specs.List.{find}
use Rattle.dioc_terms.specs.declared.entries.Act.{Act}
use Rattle.dioc_terms.specs.declared.entries.Entry.{Entry}
use Rattle.dioc_terms.specs.Messages.{visible}
use Rattle.dioc_terms.specs.Plain.{setting}
use Rattle.drive_laws.specs.Laws.{is_aux_act}
use Rattle.network_steps.specs.Network.{Network, network_run, network_step}
use Rattle.network_steps.specs.declared.moves.Move.{Move}
use Rattle.network_steps.specs.declared.moves.Move.TheVariants as move
use Rattle.net_drive.specs.declared.entries.Tried.{Tried}
use Rattle.net_drive.specs.declared.entries.Tried.TheVariants as tried
use Rattle.net_drive.specs.Driven.{driven, driven_from, first_auxiliary, is_aux_move, may_come, put_before}
use Rattle.net_drive.specs.Making.{shown_move}
use Rattle.net_drive.specs.Strays.{IsDriveStray}
use Rattle.net_core.specs.Nets.{NetState, network_of}
use Rattle.schedule.specs.declared.roles.Listed.{Listed}
use Rattle.schedule.specs.Agendas.{Shown, move_at, moves_of}
use Rattle.schedule.specs.Turns.{IsMoveOf}

-- there is room for all that it takes to drive a trace of at most so many entries
pub record HasRoom (net : NetState) : Type 0 where
  pub roles : length net.bundle.cast ≤ 32
  pub entries : length (visible net.history) ≤ 1000000
  pub limit : net.limit ≡ 18446744073709551615

-- ---- the first auxiliary move

-- the first auxiliary act of these stands at this place
pub record IsFirstActAt (acts : List Act) (place : ℕ) : Type 0 where
  pub act : Act
  pub there : slice_get acts place ≡ Some act
  pub first : find is_aux_act acts ≡ Some act

-- the first auxiliary move of an agenda is listed there
pub record IsFirstListed (agenda : List Shown) (made : Listed) : Type 0 where
  pub move : Move
  pub there : move_at agenda made ≡ Some move
  pub first : find is_aux_move (flat_map moves_of agenda) ≡ Some move

-- ---- an entry that is tried

-- what became of an entry, by whether the move that it shows was made, and whether it was noted
abbrev pub judged : Move → Bool → Bool → Tried
judged m true true = tried.Came
judged m true false = tried.Strays
judged move.Change false noted = tried.Strays
judged (move.Act r a) false noted = tried.Waits

-- the entry may come, and the net has done it
pub record HasCome (old : NetState) (e : Entry) (new : NetState) : Type 0 where
  pub may : may_come (network_of old) e ≡ true
  pub steps : network_step (setting old.bundle) (network_of old) e ≡ Some (network_of new)
  pub history : new.history ≡ old.history ++ e ∷ []
  pub made : IsMoveOf old (shown_move e) new

-- the entry has come; it may not come yet, and the net stays; it may come, and can't be done
abbrev pub IsTried : NetState → Entry → NetState → Tried → Type 0
IsTried old e new tried.Came = HasCome old e new
IsTried old e new tried.Waits = (may_come (network_of old) e ≡ false) × (new ≡ old)
IsTried old e new tried.Strays =
    (may_come (network_of old) e ≡ true)
    × (network_step (setting old.bundle) (network_of old) e ≡ None)

-- ---- a net that is driven on

-- entries before those that are driven, where they are
abbrev pub put_all : List Entry → Option (List Entry) → Option (List Entry)
put_all [] entries = entries
put_all (e ∷ es) entries = put_before e (put_all es entries)

-- The net was driven on through the shown entries of a trace, with the rest of it left. What is
-- driven of both from the old net is what was made, and then what is driven of the rest.
pub record DrivesOn (old new : NetState) (shown rest : List Entry) : Type 0 where
  pub made : List Entry
  pub history : new.history ≡ old.history ++ made
  pub shows : visible made ≡ shown
  pub leads : (count : ℕ) → driven_from (setting old.bundle) (length made + count)
      (network_of old) (shown ++ rest)
      ≡ put_all made (driven_from (setting old.bundle) count (network_of new) rest)
  pub bundle : new.bundle ≡ old.bundle
  pub limit : new.limit ≡ old.limit

-- a run that shows as much as the net can't do the entry, though it may come or no auxiliary move
-- is left
pub record IsStuckAt (net : NetState) (e : Entry) : Type 0 where
  pub history : List Entry
  pub network : Network
  pub runs : network_run net.bundle history ≡ Some network
  pub shows : visible history ≡ visible net.history
  pub strays : network_step (setting net.bundle) network e ≡ None
  pub why : (may_come network e ≡ true) ⊎ (first_auxiliary (setting net.bundle) network ≡ None)

-- a turn towards an entry: it has come, or the net has made an auxiliary move, or it is stuck
abbrev pub IsTurn : NetState → Entry → NetState → Tried → Type 0
IsTurn old e new tried.Came = (rest : List Entry) → DrivesOn old new (e ∷ []) rest
IsTurn old e new tried.Waits =
    (length old.history < length new.history)
    × ((rest : List Entry) → DrivesOn old new [] (e ∷ rest))
IsTurn old e new tried.Strays = IsStuckAt old e

-- whether the entry has come, with the auxiliary moves before it
abbrev pub Reaches : NetState → Entry → NetState → Bool → Type 0
Reaches old e new true = (rest : List Entry) → DrivesOn old new (e ∷ []) rest
Reaches old e new false = IsStuckAt old e

-- the net has made auxiliary moves until none was left
pub record Settles (old new : NetState) : Type 0 where
  pub drives : DrivesOn old new [] []
  pub rests : first_auxiliary (setting new.bundle) (network_of new) ≡ None

-- a net without entries was driven through the trace, or that entry of it strays
abbrev pub IsDriven : NetState → List Entry → NetState → Option ℕ → Type 0
IsDriven old trace new None =
    (driven old.bundle trace ≡ Some new.history) × (visible new.history ≡ trace)
IsDriven old trace new (Some n) = IsDriveStray old.bundle trace n
