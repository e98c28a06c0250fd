-- What it is to do entries again: whether the network notes each, and how far a net came with them.
use Rattle.std.specs.Prelude.{◌≡◌, ◌≤◌, ◌<◌, List, [], ◌∷◌, ◌++◌, length, take, Bool, true, false, Some, None}
use Rattle.dioc_terms.specs.declared.entries.Entry.{Entry}
use Rattle.dioc_terms.specs.Plain.{setting}
use Rattle.network_steps.specs.Network.{network_step}
use Rattle.net_drive.specs.declared.resuming.Redone.{Redone}
use Rattle.net_drive.specs.declared.resuming.Redone.TheVariants as redone
use Rattle.net_drive.specs.Resumed.{IsFirstStray, run_stray}
use Rattle.net_core.specs.Nets.{NetState, network_of}

-- whether the net did the entry again: it is the last one of its history, or the network can't do
-- it
abbrev pub Redoes : NetState → Entry → NetState → Bool → Type 0
Redoes old e new true = new.history ≡ old.history ++ e ∷ []
Redoes old e new false = network_step (setting old.bundle) (network_of old) e ≡ None

-- how far a net without entries did these again: to their end, to the first that its network can't
-- do, or to its limit
abbrev pub IsRedone : NetState → List Entry → NetState → Redone → Type 0
IsRedone old entries new redone.Whole = (new.history ≡ entries) × (length entries ≤ old.limit)
IsRedone old entries new (redone.Stray n) =
    (n ≤ old.limit) × IsFirstStray old.bundle entries n
    × (run_stray old.bundle (take old.limit entries) ≡ Some n)
IsRedone old entries new redone.Full =
    (old.limit < length entries) × (new.history ≡ take old.limit entries)
