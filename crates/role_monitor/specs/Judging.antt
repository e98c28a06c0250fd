-- What the parts of a monitor's program do to the parts of its state.
use Rattle.std.specs.Prelude.{◌≡◌, ℕ, List, map, drop, length, slice_get, Bool, true, false, Option, Some, None, if◌then◌else◌}
use Rattle.dioc_terms.specs.declared.bundles.Timed.{Timed}
use Rattle.dioc_terms.specs.declared.entries.Act.{Act}
use Rattle.dioc_terms.specs.declared.entries.Act.TheVariants as act
use Rattle.dioc_terms.specs.declared.entries.Entry.{Entry}
use Rattle.dioc_terms.specs.declared.processes.Key.{Key}
use Rattle.dioc_terms.specs.declared.processes.ScopeHead.{ScopeHead}
use Rattle.dioc_terms.specs.declared.names.Role.{Role}
use Rattle.dioc_terms.specs.Attempts.{Does}
use Rattle.dioc_terms.specs.Equality.{entry_eq, member, role_eq}
use Rattle.dioc_terms.specs.Plain.{PlainBundle, PlainRule, Setting}
use Rattle.dioc_terms.specs.Processes.{Process, Load}
use Rattle.dioc_terms.specs.Rules.{Book}
use Rattle.dioc_terms.specs.Terms.{is_in}
use Rattle.dpoc_process.specs.LocalStates.{LocalState, local_done, step_at}
use Rattle.global_steps.specs.Follow.{book_choice}
use Rattle.marked_laws.specs.MailLaws.{HasDistinctKeys}
use Rattle.network_steps.specs.Network.{decision, pending_at, without}
use Rattle.process_steps.specs.Laws.{is_done, load_fits}
use Rattle.process_steps.specs.Steps.{Deed, Decision, Given, Alone, Got, entry_of}
use Rattle.role_mailbox.specs.declared.mail.Mail.{Mail}
use Rattle.role_mailbox.specs.Pending.{payload_at}
use Rattle.role_monitor.specs.Monitoring.{MonitorState, arrived, mail_with, others_entry, own_entry, own_mail}
use Rattle.role_monitor.specs.declared.updates.Update.{Update}
use Rattle.rule_book.specs.declared.book.Book.{Book as KeptBook}
use Rattle.rule_book.specs.KeptBooks.{coming, IsBookOf}

-- the state of these parts
abbrev pub monitor_state : LocalState → List (Key × Load) → Book → ℕ → List Update → MonitorState
monitor_state local mail book changes updates =
    record {
      local = local;
      mail = mail;
      book = book;
      changes = changes;
      updates = updates;
    }

-- the mail has these messages, and nothing of their order
pub record HoldsMail (pending : List (Key × Load)) (mail : Mail) : Type 0 where
  pub at : (k : Key) → payload_at k mail ≡ pending_at k pending

-- the same messages
pub record SameMessages (old new : Mail) : Type 0 where
  pub at : (k : Key) → payload_at k new ≡ payload_at k old

-- the book is one of the bundle's rules, after so many changes of its script
pub record HoldsScript (b : PlainBundle) (kept : KeptBook) (count : ℕ) : Type 0 where
  pub of : IsBookOf b.rules kept
  pub next : coming kept ≡ map (λ (timed : Timed). timed.change) (drop count b.script)

-- the roles of each rule's body are in the cast
abbrev pub RulesInCast : PlainBundle → Type 0
RulesInCast b =
    (m : ℕ) (rule : PlainRule) → slice_get b.rules m ≡ Some rule → (q : Role)
    → is_in q rule.body ≡ true → member q b.cast ≡ true

-- what comes to an act that isn't a scope's, by the mail alone
abbrev pub mail_given : Act → Mail → Given
mail_given (act.Take k) mail = arrived (payload_at k mail)
mail_given _ mail = Alone

-- the messages without that of a take
abbrev pub taken_by : Act → List (Key × Load) → List (Key × Load)
taken_by (act.Take k) mail = without k mail
taken_by _ mail = mail

-- the messages with that of a put of the role to itself
abbrev pub put_by : Role → Act → Option Load → List (Key × Load) → List (Key × Load)
put_by me (act.Put k) (Some l) mail = if role_eq k.to me then mail_with k l mail else mail
put_by me _ sent mail = mail

-- the mail after the take of an act
pub record TakenBy (a : Act) (old new : Mail) : Type 0 where
  pub holds : (pending : List (Key × Load)) → HasDistinctKeys pending → HoldsMail pending old
      → HoldsMail (taken_by a pending) new

-- the mail after the put of an act of the role
pub record PutBy (me : Role) (a : Act) (sent : Option Load) (old new : Mail) : Type 0 where
  pub holds : (pending : List (Key × Load)) → HoldsMail pending old
      → HoldsMail (put_by me a sent pending) new

-- whether a message of this tag came, and fits it
abbrev pub is_fitting : Key → Option Load → Bool
is_fitting k None = false
is_fitting k (Some l) = load_fits k.tag l

-- whether this is the entry
abbrev pub is_entry : Option Entry → Entry → Bool
is_entry None e = false
is_entry (Some d) e = entry_eq e d

-- the role made the step that the entry shows, and its mail is that after it
pub record MakesEntry (s : LocalState) (a : Act) (given : Given) (e : Entry) (old_mail : Mail)
    (s' : LocalState) (new_mail : Mail) : Type 0 where
  pub deed : Deed
  pub left : Process
  pub does : step_at s a given ≡ Does deed left
  pub shows : entry_eq e (entry_of deed) ≡ true
  pub becomes : s' ≡ local_done s deed left
  pub mail : (pending : List (Key × Load)) → HasDistinctKeys pending → HoldsMail pending old_mail
      → HoldsMail (own_mail s.role deed pending) new_mail

-- no step by the act shows the entry
abbrev pub FailsEntry : LocalState → Act → Given → Entry → Type 0
FailsEntry s a given e = (d : Deed) (P : Process) → step_at s a given ≡ Does d P
    → entry_eq e (entry_of d) ≡ false

-- a message that doesn't fit its tag can't be taken
abbrev pub MisfitsStay : LocalState → Act → Type 0
MisfitsStay s a = (k : Key) (l : Load) → a ≡ act.Take k → load_fits k.tag l ≡ false
    → is_done (step_at s a (Got l)) ≡ false

-- what the book decides of scopes, for a role with this store
abbrev pub decides : Setting → LocalState → Book → List Update → ScopeHead → Decision
decides b s book us head =
    decision b.cast (length us) head (book_choice b.rules book head s.store)

-- the monitor after the role's own entry, whatever else is there
abbrev pub KeepsScope : Setting → LocalState → Book → List Update → Entry → Act → LocalState
    → List Update → Type 0
KeepsScope b s book us e a s' us' =
    (pending : List (Key × Load)) (count : ℕ)
    → own_entry b (monitor_state s pending book count us) e a
    ≡ Some (monitor_state s' pending book count us')

-- an entry of the role is kept
pub record KeepsOwn (b : Setting) (s : LocalState) (mail : Mail) (book : Book) (us : List Update)
    (e : Entry) (a : Act) (s' : LocalState) (mail' : Mail) (us' : List Update) : Type 0 where
  pub left : List (Key × Load) → List (Key × Load)
  pub keeps : (pending : List (Key × Load)) (count : ℕ) → HasDistinctKeys pending
      → HoldsMail pending mail
      → own_entry b (monitor_state s pending book count us) e a
      ≡ Some (monitor_state s' (left pending) book count us')
  pub holds : (pending : List (Key × Load)) → HasDistinctKeys pending → HoldsMail pending mail
      → HoldsMail (left pending) mail'

-- an entry of the role isn't kept
pub record RefusesOwn (b : Setting) (s : LocalState) (mail : Mail) (book : Book) (us : List Update)
    (e : Entry) (a : Act) : Type 0 where
  pub refuses : (pending : List (Key × Load)) (count : ℕ) → HoldsMail pending mail
      → own_entry b (monitor_state s pending book count us) e a ≡ None

-- an entry of another role is believed
pub record Believes (b : Setting) (me : Role) (mail : Mail) (book : Book) (us : List Update)
    (e : Entry) (mail' : Mail) (us' : List Update) : Type 0 where
  pub left : List (Key × Load) → List (Key × Load)
  pub gives : (s : LocalState) (pending : List (Key × Load)) (count : ℕ) → s.role ≡ me
      → others_entry b (monitor_state s pending book count us) e
      ≡ monitor_state s (left pending) book count us'
  pub holds : (pending : List (Key × Load)) → HoldsMail pending mail
      → HoldsMail (left pending) mail'
