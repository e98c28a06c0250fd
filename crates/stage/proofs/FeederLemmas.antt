-- Why the script's next change is refused, and what is made with it.
use Rattle.std.proofs.Common.{◌≡◌, ◌<◌, ℕ, zero, suc, List, [], ◌∷◌, length, map, drop, Bool, Option, Some, None, slice_get, refl, sym, ap, ◌∙◌, subst}
use Rattle.std.specs.List.{list_all}
use Rattle.std.specs.Option.{option_or}
use Rattle.std.specs.Prelude.{nat_le, nat_lt, option_map, option_and_then}
use Rattle.dioc_terms.specs.declared.bundles.Change.{Change}
use Rattle.dioc_terms.specs.declared.bundles.Change.TheVariants as change
use Rattle.dioc_terms.specs.declared.bundles.Timed.{Timed}
use Rattle.dioc_terms.specs.declared.entries.Entry.{Entry}
use Rattle.dioc_terms.specs.declared.entries.Entry.TheVariants as entry
use Rattle.dioc_terms.specs.declared.names.Role.{Role}
use Rattle.dioc_terms.specs.Messages.{doer, visible}
use Rattle.dioc_terms.specs.Plain.{PlainBundle, PlainRule}
use Rattle.global_steps.specs.Follow.{change_entry}
use Rattle.marked_laws.proofs.Shapes.{none_some, some_same}
use Rattle.network_steps.specs.Schedule.{changes_in}
use Rattle.role_mailbox.specs.declared.mail.Mail.{Mail}
use Rattle.net_core.proofs.ChangeLemmas as scripted
use Rattle.net_core.specs.Scripts.{ChangeMade}
use Rattle.net_core.specs.Standing.{ScriptedChange, body_of, due_of, local_in}
use Rattle.net_core.specs.StepLaws.{StepsRun}
use Rattle.rule_book.specs.declared.book.Book.{Book as KeptBook}
use Rattle.stage.proofs.ChangedHome.{with_locals}
use Rattle.stage.proofs.HomeLemmas.{no_fault_if, no_stop, not_full, or_none}
use Rattle.stage.specs.Changes.{IsChanged, first_after, next_entry}
use Rattle.stage.specs.declared.faults.CommitFault.{CommitFault}
use Rattle.stage.specs.declared.faults.CommitFault.TheVariants as fault
use Rattle.stage.specs.declared.faults.Why.{Why}
use Rattle.stage.specs.Faults.{fault_if, feeder_fault, full_fault, next_fault, stop_fault}
use Rattle.stage.specs.Homes.{HomeState, IsHome, IsSharedAfter}

abbrev after_in : Timed → ℕ
after_in timed = timed.after

-- the first of the changes still to come is the script's next one
first_of : (rules : List PlainRule) (script : List Timed) (n : ℕ) → first_after (drop n (map (due_of rules) script)) ≡ option_map after_in (slice_get script n)
first_of rules [] zero = refl
first_of rules (timed ∷ rest) zero = refl
first_of rules [] (suc n) = refl
first_of rules (timed ∷ rest) (suc n) = first_of rules rest n

-- the fault of a change that asks for so many visible entries
abbrev pub fault_after : HomeState → Option ℕ → Option CommitFault
fault_after home None = Some fault.NoMore
fault_after home (Some n) = option_or (full_fault home) (fault_if (nat_lt (length (visible home.history)) n) fault.NotYet)

by_after : (home : HomeState) (o : Option Timed) → fault_after home (option_map after_in o) ≡ next_fault home o
by_after home None = refl
by_after home (Some timed) = refl

-- who has a home's next change has its fault
pub next_is : (home : HomeState) (limit : ℕ) (mail : Mail) (book : KeptBook) (script : List ScriptedChange) (count : ℕ) → IsSharedAfter home.bundle limit home.history mail book script count
    → (o : Option ℕ) → o ≡ first_after script → fault_after home o ≡ next_fault home (slice_get home.bundle.script (changes_in home.history))
next_is home limit mail book script count is o first =
    let b = home.bundle in
    let asks : o ≡ option_map after_in (slice_get b.script (changes_in home.history)) =
    first ∙ ap first_after is.rest ∙ first_of b.rules b.script is.network.changes ∙ ap (λ n. option_map after_in (slice_get b.script n)) is.changes in
    ap (fault_after home) asks ∙ by_after home (slice_get b.script (changes_in home.history))

next_free : (home : HomeState) (o : Option Timed) → next_fault home o ≡ None → length home.history < home.limit
next_free home None h = absurd (none_some (sym h))
next_free home (Some timed) h =
    let parts = or_none (full_fault home) (fault_if (nat_lt (length (visible home.history)) timed.after) fault.NotYet) h in
    not_full home.limit home.history (no_fault_if (nat_le home.limit (length home.history)) fault.Full parts.0)

-- what it says that a home has no fault for the script's next change
pub feeder_free : (home : HomeState) → feeder_fault home ≡ None → (home.stopped ≡ None) × (length home.history < home.limit)
feeder_free home h =
    let next = slice_get home.bundle.script (changes_in home.history) in
    let ends = fault_if (list_all (λ finished. finished) home.finished) fault.Ended in
    let stop = or_none (stop_fault home.stopped) (option_or ends (next_fault home next)) h in
    let rest = or_none ends (next_fault home next) stop.1 in
    (no_stop home.stopped stop.0, next_free home next rest.1)

module _ (b : PlainBundle) (limit : ℕ) (H : List Entry) (mail : Mail) (book : KeptBook) (script : List ScriptedChange) (count : ℕ) (is : IsSharedAfter b limit H mail book script count)
    (laws : StepsRun) (script' : List ScriptedChange) (book' : KeptBook) (H' : List Entry) (made : ChangeMade b.rules script (length (visible H)) book H script' book' H') where
  abbrev entry_at : Option Timed → Option Entry
  entry_at o = option_and_then (λ (timed : Timed). change_entry b.rules timed.change) o

  -- what is made is the script's next change
  entry_is : entry_at (slice_get b.script (changes_in H)) ≡ Some made.entry
  entry_is =
      let next = scripted.next b limit b.cast (map (local_in is.network) b.cast) mail book (map body_of b.rules) script count H
      (with_locals b limit H mail book script count is) laws script' book' H' made in
      ap (λ n. entry_at (slice_get b.script n)) (sym is.changes) ∙ ap entry_at next.stands ∙ ap (λ (due : ScriptedChange). due.entry) (sym next.same) ∙ made.shows

-- the home with what is made
pub is_changed : (of : PlainBundle) (limit : ℕ) (H : List Entry) (cast : List Role) (names : List (List ℕ)) (mail : Mail) (book : KeptBook) (script : List ScriptedChange) (count : ℕ) (finished : List Bool) (stopped : Option Why)
    → IsHome of limit H cast names mail book script count finished stopped → StepsRun
    → (script' : List ScriptedChange) (book' : KeptBook) (H' : List Entry) → ChangeMade of.rules script (length (visible H)) book H script' book' H'
    → IsChanged (record { bundle = of; limit = limit; history = H; finished = finished; stopped = stopped }) (record { bundle = of; limit = limit; history = H'; finished = finished; stopped = stopped })
is_changed of limit H cast names mail book script count finished stopped is laws script' book' H' made = record {
  entry = made.entry;
  next = entry_is of limit H mail book script count is.shared laws script' book' H' made;
  added = ap (λ (h : List Entry). record { bundle = of; limit = limit; history = h; finished = finished; stopped = stopped }) made.entries;
}

-- where nothing was changed the home stands as before
pub home_unchanged : (of : PlainBundle) (limit : ℕ) (H : List Entry) (cast : List Role) (names : List (List ℕ)) (mail : Mail) (book : KeptBook) (script : List ScriptedChange) (count : ℕ) (finished : List Bool) (stopped : Option Why)
    → IsHome of limit H cast names mail book script count finished stopped
    → (script' : List ScriptedChange) (book' : KeptBook) (H' : List Entry) → script' ≡ script → book' ≡ book → H' ≡ H
    → IsHome of limit H' cast names mail book' script' count finished stopped
home_unchanged of limit H cast names mail book script count finished stopped is script' book' H' same_script same_book same_history =
    subst (λ h. IsHome of limit h cast names mail book' script' count finished stopped) (sym same_history)
    (subst (λ l. IsHome of limit H cast names mail book' l count finished stopped) (sym same_script)
    (subst (λ k. IsHome of limit H cast names mail k script count finished stopped) (sym same_book) is))

change_nobodys : (rules : List PlainRule) (c : Change) (e : Entry) → change_entry rules c ≡ Some e → doer e ≡ None
change_nobodys rules (change.Add m) e h = of_rule (slice_get rules m) h
  where
    of_rule : (o : Option PlainRule) → option_map (λ (rule : PlainRule). entry.Add rule.name) o ≡ Some e → doer e ≡ None
    of_rule None k = absurd (none_some k)
    of_rule (Some rule) k = ap doer (sym (some_same k))
change_nobodys rules (change.Drop name) e h = ap doer (sym (some_same h))
change_nobodys rules (change.Env key v) e h = ap doer (sym (some_same h))

-- the script's next change is no role's
pub next_nobodys : (home : HomeState) (e : Entry) → next_entry home ≡ Some e → doer e ≡ None
next_nobodys home e h = by_next (slice_get home.bundle.script (changes_in home.history)) h
  where
    by_next : (o : Option Timed) → option_and_then (λ (timed : Timed). change_entry home.bundle.rules timed.change) o ≡ Some e → doer e ≡ None
    by_next None k = absurd (none_some k)
    by_next (Some timed) k = change_nobodys home.bundle.rules timed.change e k
