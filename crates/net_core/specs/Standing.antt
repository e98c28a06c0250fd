-- What a net keeps, and that this stands for the network of its bundle after its history.
use Rattle.std.specs.Prelude.{◌≡◌, ◌≤◌, ℕ, List, length, map, drop, Option, Some}
use Rattle.dioc_terms.specs.declared.bundles.Change.{Change}
use Rattle.dioc_terms.specs.declared.bundles.Timed.{Timed}
use Rattle.dioc_terms.specs.declared.entries.Entry.{Entry}
use Rattle.dioc_terms.specs.declared.names.Role.{Role}
use Rattle.dioc_terms.specs.declared.processes.Key.{Key}
use Rattle.dioc_terms.specs.Messages.{visible}
use Rattle.dioc_terms.specs.Plain.{PlainRule, PlainBundle}
use Rattle.dioc_terms.specs.Terms.{Term}
use Rattle.dpoc_process.specs.LocalStates.{LocalState}
use Rattle.global_steps.specs.Follow.{change_entry}
use Rattle.marked_laws.specs.Laws.{IsSound}
use Rattle.network_steps.specs.Network.{Network, network_run, pending_at}
use Rattle.role_mailbox.specs.declared.mail.Mail.{Mail}
use Rattle.role_mailbox.specs.Pending.{payload_at}
use Rattle.rule_book.specs.declared.book.Book.{Book as KeptBook}
use Rattle.rule_book.specs.KeptBooks.{book_of, coming, IsBookOf}

-- the local of a role in a network
abbrev pub local_in : Network → Role → LocalState
local_in N q = record { role = q; process = N.processes q; store = N.stores q }

-- what replaces a scope: the name and the body of a rule
pub record Body : Type 0 where
  pub name : List ℕ
  pub body : Term

abbrev pub body_of : PlainRule → Body
body_of rule = record { name = rule.name; body = rule.body }

-- a change of the script, with the entry that it shows
pub record ScriptedChange : Type 0 where
  pub after : ℕ
  pub change : Change
  pub entry : Option Entry

abbrev pub due_of : List PlainRule → Timed → ScriptedChange
due_of rules timed =
    record {
      after = timed.after;
      change = timed.change;
      entry = change_entry rules timed.change;
    }

-- what a net keeps
pub record Parts : Type 0 where
  pub cast : List Role
  -- the roles with their processes and stores, in the order of the cast
  pub locals : List LocalState
  pub mail : Mail
  pub book : KeptBook
  -- what may replace a scope, by the numbers of the rules
  pub bodies : List Body
  -- the changes of the script that are still to come
  pub coming : List ScriptedChange
  pub updates : ℕ
  pub history : List Entry

-- the parts are the network after the history, which is a run of the bundle within the limit
pub record HoldsRun (b : PlainBundle) (limit : ℕ) (parts : Parts) : Type 0 where
  pub sound : IsSound b
  pub network : Network
  pub runs : network_run b parts.history ≡ Some network
  pub within : length parts.history ≤ limit
  pub cast : parts.cast ≡ b.cast
  pub locals : parts.locals ≡ map (local_in network) b.cast
  -- the mail as a map, and nothing of its order
  pub pending : (k : Key) → payload_at k parts.mail ≡ pending_at k network.pending
  pub book : book_of parts.book ≡ network.book
  pub of : IsBookOf b.rules parts.book
  pub next : coming parts.book ≡ map (λ (due : ScriptedChange). due.change) parts.coming
  pub bodies : parts.bodies ≡ map body_of b.rules
  pub coming : parts.coming ≡ drop network.changes (map (due_of b.rules) b.script)
  pub updates : parts.updates ≡ network.updates
  pub visible : network.visible ≡ length (visible parts.history)
