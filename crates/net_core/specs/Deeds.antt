-- What a role's deed changes of the mail and of the history.
use Rattle.std.specs.Prelude.{◌≡◌, ℕ, List, [], ◌∷◌, ◌++◌, Bool, true, false, Option, Some, None, is_some, if◌then◌else◌, slice_get, slice_set}
use Rattle.dioc_terms.specs.declared.entries.Act.{Act}
use Rattle.dioc_terms.specs.declared.entries.Act.TheVariants as act
use Rattle.dioc_terms.specs.declared.entries.Entry.{Entry}
use Rattle.dioc_terms.specs.declared.processes.Key.{Key}
use Rattle.dioc_terms.specs.Attempts.{Does}
use Rattle.dioc_terms.specs.Equality.{key_eq}
use Rattle.dioc_terms.specs.Processes.{Process, Load}
use Rattle.dioc_terms.specs.declared.names.Role.{Role}
use Rattle.dioc_terms.specs.Plain.{PlainRule}
use Rattle.dioc_terms.specs.Rules.{Book}
use Rattle.dioc_terms.specs.Stores.{Store}
use Rattle.dpoc_process.specs.LocalStates.{LocalState, offered, local_done, step_at}
use Rattle.global_steps.specs.Follow.{book_choice, updates_after}
use Rattle.network_steps.specs.Network.{decision}
use Rattle.network_steps.specs.declared.moves.StepFault.{StepFault}
use Rattle.network_steps.specs.declared.moves.StepFault.TheVariants as fault
use Rattle.process_steps.specs.Steps.{Deed, Puts, Takes, Given, Alone, Got, FromBook, entry_of, ended, is_offered}
use Rattle.role_mailbox.specs.declared.mail.Mail.{Mail}
use Rattle.role_mailbox.specs.Pending.{payload_at}

-- what is pending for a key after a deed, by what was pending before
abbrev pub pending_with : Deed → Key → Option Load → Option Load
pending_with (Puts k l) other before = if key_eq other k then Some l else before
pending_with (Takes k x l) other before = if key_eq other k then None else before
pending_with _ other before = before

pub record MailAfter (d : Deed) (old new : Mail) : Type 0 where
  pub at : (k : Key) → payload_at k new ≡ pending_with d k (payload_at k old)

-- the role did the act with what came from outside: its local, the mail, the number of updates and
-- the entries are those after it
pub record IsDone (a : Act) (given : Given) (old : LocalState) (old_mail : Mail) (count : ℕ)
    (before : List Entry) (new : LocalState) (new_mail : Mail) (new_count : ℕ)
    (after : List Entry) : Type 0
  where
    pub deed : Deed
    pub left : Process
    pub does : step_at old a given ≡ Does deed left
    pub becomes : new ≡ local_done old deed left
    pub mail : MailAfter deed old_mail new_mail
    pub updates : new_count ≡ updates_after (entry_of deed) count
    pub entries : after ≡ before ++ entry_of deed ∷ []

abbrev pub message_given : Option Load → Given
message_given None = Alone
message_given (Some l) = Got l

-- what comes from outside to an act of a role: the pending message of a take, the book for a scope
abbrev pub given_to : List Role → List PlainRule → Mail → Book → ℕ → Store → Act → Given
given_to cast rules mail book count s (act.Take k) = message_given (payload_at k mail)
given_to cast rules mail book count s (act.Scope i) =
    FromBook (λ head. decision cast count head (book_choice rules book head s))
given_to cast rules mail book count s _ = Alone

-- whether the act begins a scope
abbrev pub asks_scope : Act → Bool
asks_scope (act.Scope i) = true
asks_scope _ = false

-- every act but a take whose message isn't pending
abbrev pub is_there : Act → Mail → Bool
is_there (act.Take k) mail = is_some (payload_at k mail)
is_there _ mail = true

-- the role offered the act, its message was there, and it did the act
pub record ActDone (a : Act) (given : Store → Given) (old : LocalState) (old_mail : Mail)
    (count : ℕ) (before : List Entry) (new : LocalState) (new_mail : Mail) (new_count : ℕ)
    (after : List Entry) : Type 0
  where
    pub offers : is_offered a (offered old) ≡ true
    pub there : is_there a old_mail ≡ true
    pub done : IsDone a (given old.store) old old_mail count before new new_mail new_count after

-- the role at a place of the cast did the act
pub record RoleDid (cast : List Role) (q : Role) (a : Act) (given : Store → Given)
    (old : List LocalState) (old_mail : Mail) (count : ℕ) (before : List Entry)
    (new : List LocalState) (new_mail : Mail) (new_count : ℕ) (after : List Entry) : Type 0 where
  pub place : ℕ
  pub at : slice_get cast place ≡ Some q
  pub local : LocalState
  pub here : slice_get old place ≡ Some local
  pub becomes : LocalState
  pub locals : new ≡ slice_set old place becomes
  pub did : ActDone a given local old_mail count before becomes new_mail new_count after

-- a role at a place of the cast, with its local
pub record IsAt (cast : List Role) (locals : List LocalState) (q : Role)
    (local : LocalState) : Type 0 where
  pub place : ℕ
  pub at : slice_get cast place ≡ Some q
  pub here : slice_get locals place ≡ Some local

-- the role is at a place, and this is whether it has ended
pub record DoneAt (cast : List Role) (locals : List LocalState) (q : Role)
    (done : Bool) : Type 0 where
  pub local : LocalState
  pub is_at : IsAt cast locals q local
  pub is_done : done ≡ ended local.process

-- the role is at a place, and doesn't offer the act
pub record NotOffered (cast : List Role) (locals : List LocalState) (q : Role)
    (a : Act) : Type 0 where
  pub local : LocalState
  pub is_at : IsAt cast locals q local
  pub lacks : is_offered a (offered local) ≡ false

-- it offers the act, a take whose message isn't pending
pub record NotThere (cast : List Role) (locals : List LocalState) (mail : Mail) (q : Role)
    (a : Act) : Type 0
  where
    pub local : LocalState
    pub is_at : IsAt cast locals q local
    pub offers : is_offered a (offered local) ≡ true
    pub waits : is_there a mail ≡ false

-- why a role's act is refused; nothing is said of want of memory
abbrev pub RefusedFor : List Role → List LocalState → Mail → Role → Act → StepFault → Type 0
RefusedFor cast locals mail q a fault.NoAct = NotOffered cast locals q a
RefusedFor cast locals mail q a fault.NotYet = NotThere cast locals mail q a
RefusedFor cast locals mail q a fault.Memory = Unit {0}
RefusedFor cast locals mail q a _ = ⊥
