-- What lies under the lock of a stage: a history that the network of its bundle can run, and what
-- all roles share of the network after it.
use Rattle.std.specs.Prelude.{◌≡◌, ℕ, ◌≤◌, List, [], ◌∷◌, ◌++◌, map, length, drop, Bool, true, false, Option, Some, None, slice_get}
use Rattle.dioc_terms.specs.declared.entries.Entry.{Entry}
use Rattle.dioc_terms.specs.declared.names.Role.{Role}
use Rattle.dioc_terms.specs.declared.processes.Key.{Key}
use Rattle.dioc_terms.specs.Messages.{visible}
use Rattle.dioc_terms.specs.Plain.{PlainBundle, PlainRule}
use Rattle.dioc_terms.specs.Processes.{Process}
use Rattle.dioc_terms.specs.Stores.{Store}
use Rattle.marked_laws.specs.Laws.{IsSound}
use Rattle.network_steps.specs.Network.{Network, network_run, network_ended, pending_at}
use Rattle.network_steps.specs.Schedule.{changes_in, IsPrompt}
use Rattle.process_steps.specs.Steps.{ended}
use Rattle.role_mailbox.specs.declared.mail.Mail.{Mail}
use Rattle.role_mailbox.specs.Pending.{payload_at}
use Rattle.net_core.specs.Standing.{ScriptedChange, due_of}
use Rattle.rule_book.specs.declared.book.Book.{Book as KeptBook}
use Rattle.rule_book.specs.KeptBooks.{book_of, coming, IsBookOf}
use Rattle.stage.specs.declared.faults.Why.{Why}
use Rattle.stage.specs.declared.faults.Why.TheVariants as why
use Rattle.stage.specs.Roles.{RoleStandsAt}

-- what contracts see of a home
pub record HomeState : Type 0 where
  pub bundle : PlainBundle
  pub limit : ℕ
  pub history : List Entry
  -- for each role of the cast, whether it is marked as finished
  pub finished : List Bool
  pub stopped : Option Why

abbrev pub with_entry : HomeState → Entry → HomeState
with_entry home e = record home { history = home.history ++ e ∷ [] }

-- before the first entry
abbrev pub opening_home : PlainBundle → ℕ → HomeState
opening_home bundle limit =
    record {
      bundle = bundle;
      limit = limit;
      history = [];
      finished = map (λ (q : Role). false) bundle.cast;
      stopped = None;
    }

-- the history is a prompt run of the bundle within the limit, and what the roles share is that of
-- the network after it
pub record IsSharedAfter (b : PlainBundle) (limit : ℕ) (H : List Entry) (mail : Mail)
    (book : KeptBook) (script : List ScriptedChange) (count : ℕ) : Type 0 where
  pub sound : IsSound b
  pub network : Network
  pub runs : network_run b H ≡ Some network
  pub within : length H ≤ limit
  pub small : limit ≤ 4294967295
  pub prompt : IsPrompt b H
  -- the mail as a map, and nothing of its order
  pub pending : (k : Key) → payload_at k mail ≡ pending_at k network.pending
  pub opened : book_of book ≡ network.book
  pub of : IsBookOf b.rules book
  -- the changes that are still to come, in the book and beside it
  pub next : coming book ≡ map (λ (due : ScriptedChange). due.change) script
  pub rest : script ≡ drop network.changes (map (due_of b.rules) b.script)
  pub changes : network.changes ≡ changes_in H
  pub visible : network.visible ≡ length (visible H)
  pub updates : count ≡ network.updates
  pub few : count ≤ length H

-- the role's process has ended after the history
pub record HasEnded (b : PlainBundle) (H : List Entry) (q : Role) : Type 0 where
  pub process : Process
  pub store : Store
  pub stands : RoleStandsAt b H q process store
  pub done : ended process ≡ true

-- the history has as many entries as it may, and its network has not ended
pub record IsCut (b : PlainBundle) (limit : ℕ) (H : List Entry) : Type 0 where
  pub network : Network
  pub runs : network_run b H ≡ Some network
  pub full : length H ≡ limit
  pub goes : network_ended b.cast network ≡ false

-- a finish mark stands only where its role has ended, and the stop mark of a limit only where the
-- history was cut
pub record MarksHold (b : PlainBundle) (limit : ℕ) (H : List Entry) (finished : List Bool)
    (stopped : Option Why) : Type 0 where
  pub marks : length finished ≡ length b.cast
  pub finish : (i : ℕ) (q : Role) → slice_get b.cast i ≡ Some q → slice_get finished i ≡ Some true
      → HasEnded b H q
  pub stop : stopped ≡ Some why.Limit → IsCut b limit H

-- what holds of every home
pub record IsSoundHome (home : HomeState) : Type 0 where
  pub sound : IsSound home.bundle
  pub network : Network
  pub runs : network_run home.bundle home.history ≡ Some network
  pub within : length home.history ≤ home.limit
  pub small : home.limit ≤ 4294967295
  pub prompt : IsPrompt home.bundle home.history
  pub marks : MarksHold home.bundle home.limit home.history home.finished home.stopped

-- the names of rules, by their numbers
abbrev pub names_of : List PlainRule → List (List ℕ)
names_of rules = map (λ (rule : PlainRule). rule.name) rules

-- what a home keeps stands for the network of its bundle after its history
pub record IsHome (of : PlainBundle) (limit : ℕ) (H : List Entry) (cast : List Role)
    (names : List (List ℕ)) (mail : Mail) (book : KeptBook) (script : List ScriptedChange)
    (count : ℕ) (finished : List Bool) (stopped : Option Why) : Type 0
  where
    pub shared : IsSharedAfter of limit H mail book script count
    pub same_cast : cast ≡ of.cast
    pub same_names : names ≡ names_of of.rules
    pub marks : MarksHold of limit H finished stopped
