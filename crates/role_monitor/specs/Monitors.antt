-- A monitor of a program, and the entries that it has read.
use Rattle.std.specs.Prelude.{◌≡◌, ◌<◌, suc, List, [], ◌∷◌, ◌++◌, length, Some, None, Result, IfErr, OnErr, OnOk}
use Rattle.dioc_terms.specs.declared.entries.Entry.{Entry}
use Rattle.dioc_terms.specs.declared.names.Role.{Role}
use Rattle.dioc_terms.specs.Plain.{PlainBundle, plain}
use Rattle.flat_role.specs.FlatStates.{local_of}
use Rattle.marked_laws.specs.Laws.{IsSound}
use Rattle.role_monitor.specs.declared.monitor.Monitor.{Monitor}
use Rattle.role_monitor.specs.declared.monitor.FeedFault.{FeedFault}
use Rattle.role_monitor.specs.declared.monitor.FeedFault.TheVariants as fault
use Rattle.role_monitor.specs.Judging.{HoldsMail, HoldsScript}
use Rattle.role_monitor.specs.Monitoring.{MonitorState, mon_run, own_entries}
use Rattle.rule_book.specs.KeptBooks.{book_of}

-- the parts of the monitor are those of the state; its messages are in any order
pub record Shows (b : PlainBundle) (monitor : Monitor) (M : MonitorState) : Type 0 where
  pub local : local_of monitor.state ≡ M.local
  pub mail : HoldsMail M.mail monitor.mail
  pub book : book_of monitor.book ≡ M.book
  pub changes : monitor.changes ≡ M.changes
  pub updates : monitor.updates.items ≡ M.updates
  pub script : HoldsScript b monitor.book monitor.changes

-- the monitor of this role of the bundle has read these entries, and the role deviates in none of
-- them
pub record HasRead (b : PlainBundle) (r : Role) (monitor : Monitor)
    (entries : List Entry) : Type 0 where
  pub sound : IsSound b
  pub bundle : plain monitor.bundle.now ≡ b
  pub role : monitor.role.now ≡ r
  pub state : MonitorState
  pub runs : mon_run b r entries ≡ Some state
  pub shows : Shows b monitor state
  pub fed : monitor.fed ≡ length entries
  pub judged : monitor.judged ≡ length (own_entries r entries)

-- the fault of reading one entry more: of a deviation the entry's number from 1, where the role
-- can't have made that entry; nothing is said of want of memory
abbrev pub Deviated : PlainBundle → Role → List Entry → Entry → FeedFault → Type 0
Deviated b r entries e (fault.Deviates n) =
    (n ≡ suc (length entries)) × (mon_run b r (entries ++ e ∷ []) ≡ None)
Deviated b r entries e fault.Memory = Unit {0}

-- the monitor has read some entries, and there may be one more
abbrev pub MayRead : Monitor → Type 0
MayRead monitor =
    (b : PlainBundle) × (r : Role) × (entries : List Entry) × HasRead b r monitor entries
    × (length entries < 18446744073709551615)

-- where all is well the monitor has read one entry more
abbrev pub ReadsOn : {T E : Type 0} → Result T E → Monitor → Entry → Monitor → Type 0
ReadsOn result old e new =
    (b : PlainBundle) (r : Role) (entries : List Entry) → HasRead b r old entries
    → OnOk result (HasRead b r new (entries ++ e ∷ []))

-- where it isn't the monitor has read what it had read before
abbrev pub StaysRead : {T E : Type 0} → Result T E → Monitor → Monitor → Type 0
StaysRead result old new =
    (b : PlainBundle) (r : Role) (entries : List Entry) → HasRead b r old entries
    → OnErr result (HasRead b r new entries)

-- why one entry more isn't read
abbrev pub Refuses : {T : Type 0} → Result T FeedFault → Monitor → Entry → Type 0
Refuses result old e =
    (b : PlainBundle) (r : Role) (entries : List Entry) → HasRead b r old entries
    → IfErr result (Deviated b r entries e)
