-- What the mark of a place comes to once the place has acted.
use Rattle.std.specs.Prelude.{◌≡◌, ℕ, Bool, not, true, false, if◌then◌else◌, nat_lt, Option, None, Some}
use Rattle.dioc_terms.specs.declared.names.Role.{Role}
use Rattle.dioc_terms.specs.declared.entries.Act.{Act}
use Rattle.dioc_terms.specs.Attempts.{Does}
use Rattle.dioc_terms.specs.Processes.{Process, Flag}
use Rattle.dioc_terms.specs.Stores.{Store}
use Rattle.dioc_terms.specs.Values.{is_true}
use Rattle.dpoc_process.specs.Growth.{value_at}
use Rattle.dpoc_process.specs.Handed.{Handed, Message, given_like}
use Rattle.flat_role.specs.declared.marks.Mark.{Mark as KeptMark}
use Rattle.flat_role.specs.declared.marks.Mark.TheVariants as kept
use Rattle.flat_role.specs.KeptMarks.{meant}
use Rattle.flat_role.specs.Leaves.{front, is_leaf}
use Rattle.flat_role.specs.Replacing.{replaces}
use Rattle.process_steps.specs.Steps.{Deed, Given}
use Rattle.role_statuses.specs.Flat.{mark_of}
use Rattle.role_statuses.specs.Kept.{marked}
use Rattle.role_statuses.specs.Moves.{move}
use Rattle.role_statuses.specs.Statuses.{Status, Finished, is_over}

-- another process runs there
abbrev pub runs_update : KeptMark → Bool
runs_update (kept.Became update) = true
runs_update m = false

-- the act puts no other process in the place of this one: only its first act can do so
abbrev pub stays_itself : KeptMark → Process → Handed → Bool
stays_itself kept.Untouched P h = not (replaces P h)
stays_itself m P h = true

-- The place of this process acts: by its mark, with what its leader picks and with what comes.
pub record IsMoving (me : Role) (s : Store) (a : Act) (given : Given) (P : Process) (m : KeptMark)
    (pick : Bool) (h : Handed) (d : Deed) (y : Status) : Type 0 where
  -- no part of it acts
  pub acts : is_leaf (meant me P m) P ≡ true
  -- no other process runs there, and none comes
  pub stays : runs_update m ≡ false
  pub keeps : stays_itself m P h ≡ true
  pub brings : given ≡ given_like h
  pub picks : pick ≡ is_true (value_at s (front me (meant me P m) P))
  pub moves : move me s (marked (meant me P m) Finished Finished) P a given ≡ Does d y

-- a mark, and whether nothing is left to do, are those of a status
pub record IsMovedTo (me : Role) (P : Process) (y : Status) (r : KeptMark × Bool) : Type 0 where
  pub mark_is : mark_of me y P ≡ meant me P r.0
  pub over_is : is_over me y P ≡ r.1

-- they are those of the status to which the place comes, whatever its act was
abbrev pub Moves : Process → KeptMark → Bool → Handed → KeptMark × Bool → Type 0
Moves P m pick h r = (me : Role) (s : Store) (a : Act) (given : Given) (d : Deed) (y : Status)
    → IsMoving me s a given P m pick h d y → IsMovedTo me P y r

-- the flag that comes
abbrev pub came : Handed → Bool
came (Message (Flag b)) = b
came h = false

-- how many of the last messages are taken
abbrev pub taken_in : KeptMark → ℕ
taken_in (kept.Waiting n) = n
taken_in m = 0

-- so many are done, where more are left of all
abbrev pub count_from : ℕ → ℕ → Option ℕ
count_from n all = if nat_lt n all then Some n else None

-- Where so many are done: the mark, or else what is next.

abbrev pub told_or : Option ℕ → Bool → KeptMark × Bool → KeptMark × Bool
told_or None b next = next
told_or (Some n) b next = (kept.Telling b n, false)

abbrev pub gathered_or : Option ℕ → KeptMark × Bool → KeptMark × Bool
gathered_or None next = next
gathered_or (Some n) next = (kept.Gathering n, false)

abbrev pub left_or : Option ℕ → KeptMark × Bool
left_or None = (kept.Finished, true)
left_or (Some n) = (kept.Left n, false)

abbrev pub awaited_or : Option ℕ → KeptMark × Bool
awaited_or None = (kept.Finished, true)
awaited_or (Some n) = (kept.Waiting n, false)

-- the body, or what is next where nothing is to be done in it
abbrev pub body_or : Bool → KeptMark × Bool → KeptMark × Bool
body_or true next = next
body_or false next = (kept.Body, false)

-- a turn of a loop that the role leads, and what is in a scope that it leads, with so many others
abbrev pub turn_or : Bool → ℕ → KeptMark × Bool
turn_or ended all = body_or ended (gathered_or (count_from 0 all) (kept.Untouched, false))

abbrev pub scope_or : Bool → ℕ → KeptMark × Bool
scope_or ended all = body_or ended (gathered_or (count_from 0 all) (left_or (count_from 0 all)))
