-- The network: one process and one store for each role, the messages on their way, and the book.
use Rattle.std.specs.Prelude.{ℕ, suc, List, [], ◌∷◌, ◌++◌, Bool, true, false, ◌&&◌, nat_le, Option, Some, None, if◌then◌else◌, slice_get, option_and_then}
use Rattle.std.specs.List.{list_all}
use Rattle.dioc_terms.specs.declared.names.Role.{Role}
use Rattle.dioc_terms.specs.declared.processes.Key.{Key}
use Rattle.dioc_terms.specs.declared.processes.ScopeHead.{ScopeHead}
use Rattle.dioc_terms.specs.declared.entries.Act.{Act}
use Rattle.dioc_terms.specs.declared.entries.Act.TheVariants as act
use Rattle.dioc_terms.specs.declared.entries.Entry.{Entry}
use Rattle.dioc_terms.specs.declared.bundles.Timed.{Timed}
use Rattle.dioc_terms.specs.Equality.{key_eq, entry_eq}
use Rattle.dioc_terms.specs.Messages.{is_aux, doer, act_of}
use Rattle.dioc_terms.specs.Attempts.{Attempt, Stuck, Does}
use Rattle.dioc_terms.specs.Plain.{PlainBundle, Setting, setting}
use Rattle.dioc_terms.specs.Processes.{Process, Load}
use Rattle.dioc_terms.specs.Rules.{Book, apply, opening_book}
use Rattle.dioc_terms.specs.Stores.{Store}
use Rattle.dioc_terms.specs.Terms.{stamped}
use Rattle.projection.specs.Projection.{projected}
use Rattle.process_steps.specs.Steps.{Deed, Puts, Takes, Given, Alone, Got, FromBook, Decision, Keeps, Replaces, entry_of, store_after, step, ended}
use Rattle.global_steps.specs.Follow.{BookChoice, KeepsBody, TakesRule, book_choice, opening_store, change_entry, updates_after, updated}

pub record Network : Type 0 where
  pub processes : Role → Process
  pub stores : Role → Store
  -- in the order of their puts
  pub pending : List (Key × Load)
  pub book : Book
  -- the numbers of updates, of changes, and of visible entries so far
  pub updates : ℕ
  pub changes : ℕ
  pub visible : ℕ

-- the first message of exactly this key
abbrev pub pending_at : Key → List (Key × Load) → Option Load
pending_at k [] = None
pending_at k (message ∷ rest) = if key_eq k message.0 then Some message.1 else pending_at k rest

-- the messages without the first of this key
abbrev pub without : Key → List (Key × Load) → List (Key × Load)
without k [] = []
without k (message ∷ rest) = if key_eq k message.0 then rest else message ∷ without k rest

-- what the leader does with the book's answer: a rule's body is stamped as the next update, one
-- level higher, and projected
abbrev pub decision : List Role → ℕ → ScopeHead → BookChoice → Decision
decision cast updates head KeepsBody = Keeps
decision cast updates head (TakesRule name body) =
    Replaces name (suc updates) (projected cast (stamped body (suc updates) (suc head.level)))

-- what comes to a role's act: the pending message of a take's key, the book for a scope, by the
-- role's own store
abbrev pub given_at : Setting → Network → Role → Act → Given
given_at b N r (act.Take k) = message_of (pending_at k N.pending)
  where
    message_of : Option Load → Given
    message_of None = Alone
    message_of (Some l) = Got l
given_at b N r (act.Scope i) =
    FromBook (λ head. decision b.cast N.updates head (book_choice b.rules N.book head (N.stores r)))
given_at b N r _ = Alone

-- a put goes last, a take removes the first message of its key
abbrev pub pending_after : Deed → List (Key × Load) → List (Key × Load)
pending_after (Puts k l) pending = pending ++ (k, l) ∷ []
pending_after (Takes k x l) pending = without k pending
pending_after _ pending = pending

abbrev pub visible_after : Entry → ℕ → ℕ
visible_after e visible = if is_aux e then visible else suc visible

-- what a step gives: its entry, and the network after it
pub record NextNetwork : Type 0 where
  pub entry : Entry
  pub network : Network

-- the step of a role by an act, where its process offers the act and what it needs is there
abbrev pub act_step : Setting → Network → Role → Act → Option NextNetwork
act_step b N r a = outcome (step r (N.stores r) (N.processes r) a (given_at b N r a))
  where
    outcome : Attempt Deed Process → Option NextNetwork
    outcome Stuck = None
    outcome (Does deed P) = Some (record {
      entry = entry_of deed;
      network = record {
        processes = updated r P N.processes;
        stores = updated r (store_after deed (N.stores r)) N.stores;
        pending = pending_after deed N.pending;
        book = N.book;
        updates = updates_after (entry_of deed) N.updates;
        changes = N.changes;
        visible = visible_after (entry_of deed) N.visible;
      };
    })

-- the script's next change, which may stand once its stated number of visible entries is there
abbrev pub change_step : Setting → Network → Option NextNetwork
change_step b N = by_script (slice_get b.script N.changes)
  where
    changed : Timed → Option Entry → Option NextNetwork
    changed timed None = None
    changed timed (Some e) = if nat_le timed.after N.visible
        then Some (record {
          entry = e;
          network = record {
            processes = N.processes;
            stores = N.stores;
            pending = N.pending;
            book = apply b.rules N.book timed.change;
            updates = N.updates;
            changes = suc N.changes;
            visible = suc N.visible;
          };
        })
        else None

    by_script : Option Timed → Option NextNetwork
    by_script None = None
    by_script (Some timed) = changed timed (change_entry b.rules timed.change)

-- the network after an entry, where the entry is exactly that of the outcome
abbrev pub network_after : Entry → Option NextNetwork → Option Network
network_after e None = None
network_after e (Some outcome) = if entry_eq e outcome.entry then Some outcome.network else None

-- the network after an entry, where the network can do it
abbrev pub network_step : Setting → Network → Entry → Option Network
network_step b N e = by_doer (doer e) (act_of e)
  where
    by_doer : Option Role → Option Act → Option Network
    by_doer (Some r) (Some a) = network_after e (act_step b N r a)
    by_doer _ _ = network_after e (change_step b N)

-- the network before its first step
abbrev pub network_start : PlainBundle → Network
network_start b = record {
  processes = projected b.cast b.choreo;
  stores = opening_store b;
  pending = [];
  book = opening_book b.rules b.opening b.env;
  updates = 0;
  changes = 0;
  visible = 0;
}

-- the network after entries, where it can do each after those before it
abbrev pub run_from : Setting → Network → List Entry → Option Network
run_from b N [] = Some N
run_from b N (e ∷ es) = option_and_then (λ next. run_from b next es) (network_step b N e)

abbrev pub network_run : PlainBundle → List Entry → Option Network
network_run b es = run_from (setting b) (network_start b) es

abbrev pub no_message : List (Key × Load) → Bool
no_message [] = true
no_message (message ∷ rest) = false

-- each process has ended, and no message is pending
abbrev pub network_ended : List Role → Network → Bool
network_ended cast N = list_all (λ q. ended (N.processes q)) cast && no_message N.pending
