-- What an act does to the mail, and what comes to an act that isn't a scope's.
use Rattle.std.specs.Prelude.{◌≡◌, ℕ, List, Bool, true, false, Option, None, Some, if◌then◌else◌}
use Rattle.dioc_terms.specs.declared.entries.Act.{Act}
use Rattle.dioc_terms.specs.declared.entries.Act.TheVariants as act
use Rattle.dioc_terms.specs.declared.processes.Key.{Key}
use Rattle.dioc_terms.specs.Equality.{key_eq}
use Rattle.dioc_terms.specs.Processes.{Load}
use Rattle.dpoc_process.specs.LocalStates.{IsNumbered, LocalState, offered, step_at}
use Rattle.process_steps.specs.Laws.{is_done}
use Rattle.process_steps.specs.Steps.{Given, Alone, is_offered}
use Rattle.role_mailbox.specs.declared.mail.Mail.{Mail}
use Rattle.role_mailbox.specs.Pending.{payload_at}
use Rattle.net_core.specs.Deeds.{asks_scope, is_there, message_given}

abbrev pub given_from_mail : Act → Mail → Given
given_from_mail (act.Take k) mail = message_given (payload_at k mail)
given_from_mail _ mail = Alone

-- what is pending for a key after the take of an act, by what was pending before
abbrev pub taken_with : Act → Key → Option Load → Option Load
taken_with (act.Take k) other before = if key_eq other k then None else before
taken_with _ other before = before

-- what is pending for a key after the put of an act, by what was pending before
abbrev pub put_with : Act → Option Load → Key → Option Load → Option Load
put_with (act.Put k) sent other before = if key_eq other k then sent else before
put_with _ sent other before = before

pub record TakenBy (a : Act) (old new : Mail) : Type 0 where
  pub at : (k : Key) → payload_at k new ≡ taken_with a k (payload_at k old)

pub record PutBy (a : Act) (sent : Option Load) (old new : Mail) : Type 0 where
  pub at : (k : Key) → payload_at k new ≡ put_with a sent k (payload_at k old)

-- the act can be done where it is offered and its message is there, and what it puts isn't pending
pub record CanStep (local : LocalState) (a : Act) (mail : Mail) : Type 0 where
  pub can : asks_scope a ≡ false → is_offered a (offered local) ≡ true → is_there a mail ≡ true
      → is_done (step_at local a (given_from_mail a mail)) ≡ true
  pub free : (k : Key) → a ≡ act.Put k → is_offered a (offered local) ≡ true → payload_at k mail
      ≡ None

-- the act has the number that is given, if any, among these
abbrev pub IsNumberedIf : Option ℕ → Act → List Act → Type 0
IsNumberedIf None a acts = Unit {0}
IsNumberedIf (Some number) a acts = IsNumbered number a acts

-- what is put of an act: the key of its message
abbrev pub put_key : Act → Option Key
put_key (act.Put k) = Some k
put_key _ = None

-- whether the act takes a message
abbrev pub is_take : Act → Bool
is_take (act.Take k) = true
is_take _ = false
