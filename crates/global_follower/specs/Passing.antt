-- How a follower goes past entries.
use Rattle.std.specs.Prelude.{◌≡◌, Bool, true, false, Option, Some, None, if◌then◌else◌}
use Rattle.dioc_terms.specs.declared.entries.Entry.{Entry}
use Rattle.dioc_terms.specs.Messages.{is_aux}
use Rattle.dioc_terms.specs.Plain.{Setting}
use Rattle.global_steps.specs.Follow.{State, follow}

-- the answer says whether an entry is played: then the state is the one behind it, and else it
-- stays as it was
abbrev pub GoesTo : State → State → Option State → Bool → Type 0
GoesTo state next behind true = behind ≡ Some next
GoesTo state next behind false = (behind ≡ None) × (next ≡ state)

-- the state behind an entry that is played, or passed over as auxiliary
abbrev pub passed : Setting → State → Entry → Option State
passed b state entry = if is_aux entry then Some state else follow b state entry

-- the answer says whether the entry is passed, and where it is this is the state behind it
abbrev pub PlaysOn : Setting → State → Entry → State → Bool → Type 0
PlaysOn b state entry next true = passed b state entry ≡ Some next
PlaysOn b state entry next false = passed b state entry ≡ None
