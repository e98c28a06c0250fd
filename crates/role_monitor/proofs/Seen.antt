-- Changes of the script, and entries of others.
use Rattle.std.proofs.Common.{◌≡◌, ◌+◌, ℕ, zero, suc, List, [], ◌∷◌, map, drop, true, false, Some, None, slice_get, refl, sym, ap, ap₂, ◌∙◌, add-one}
use Rattle.std.specs.Prelude.{option_map}
use Rattle.std.proofs.lemmas.Bool.{cond-true, cond-false}
use Rattle.std.proofs.lemmas.Option.{slice_get-map}
use Rattle.dioc_terms.specs.declared.bundles.Change.{Change}
use Rattle.dioc_terms.specs.declared.bundles.Timed.{Timed}
use Rattle.dioc_terms.specs.declared.entries.Chosen.{Chosen}
use Rattle.dioc_terms.specs.declared.entries.Chosen.TheVariants as chosen
use Rattle.dioc_terms.specs.declared.entries.Entry.{Entry}
use Rattle.dioc_terms.specs.declared.entries.Entry.TheVariants as entry
use Rattle.dioc_terms.specs.declared.entries.Note.{Note}
use Rattle.dioc_terms.specs.declared.names.Role.{Role}
use Rattle.dioc_terms.specs.declared.names.Index.{Index}
use Rattle.dioc_terms.specs.declared.processes.Key.{Key}
use Rattle.dioc_terms.specs.Equality.{role_eq}
use Rattle.dioc_terms.specs.Plain.{PlainBundle, Setting}
use Rattle.dioc_terms.specs.Processes.{Load}
use Rattle.dioc_terms.specs.Rules.{Book, apply}
use Rattle.dpoc_process.specs.LocalStates.{LocalState}
use Rattle.global_steps.specs.Follow.{shows}
use Rattle.role_mailbox.specs.declared.mail.Mail.{Mail}
use Rattle.role_monitor.specs.Judging.{Believes, HoldsMail, HoldsScript, monitor_state}
use Rattle.role_monitor.specs.Monitoring.{change_outcome, change_noted, heard_update, mail_with_some, noted_load, received, with_change, with_update}
use Rattle.role_monitor.specs.declared.updates.Update.{Update}
use Rattle.rule_book.specs.declared.book.Book.{Book as KeptBook}
use Rattle.rule_book.specs.KeptBooks.{coming, IsBookOf}

abbrev change_in : Timed → Change
change_in timed = timed.change

drop_first : {A : Type 0} (xs : List A) (n : ℕ) → slice_get (drop n xs) 0 ≡ slice_get xs n
drop_first xs zero = refl
drop_first [] (suc n) = refl
drop_first (x ∷ xs) (suc n) = drop_first xs n

drop_next : (xs : List Timed) (n : ℕ) → drop 1 (map change_in (drop n xs)) ≡ map change_in (drop (suc n) xs)
drop_next [] zero = refl
drop_next (x ∷ xs) zero = refl
drop_next [] (suc n) = refl
drop_next (x ∷ xs) (suc n) = drop_next xs n

-- the change that comes next is the script's
pub next_is : (b : PlainBundle) (kept : KeptBook) (count : ℕ) (timed : Timed) → HoldsScript b kept count → slice_get b.script count ≡ Some timed → slice_get (coming kept) 0 ≡ Some timed.change
next_is b kept count timed script at =
    ap (λ l. slice_get l 0) script.next ∙ slice_get-map change_in (drop count b.script) 0 ∙ ap (option_map change_in) (drop_first b.script count ∙ at)

-- and then the one after it
pub goes_on : (b : PlainBundle) (old new : KeptBook) (count : ℕ) → HoldsScript b old count → IsBookOf b.rules new → coming new ≡ drop 1 (coming old) → HoldsScript b new (count + 1)
goes_on b old new count script of next = record {
  of = of;
  next = next ∙ ap (drop 1) script.next ∙ drop_next b.script count ∙ ap (λ n. map change_in (drop n b.script)) (sym (add-one count));
}

module _ (b : Setting) (e : Entry) (s : LocalState) (pending : List (Key × Load)) (us : List Update) (count : ℕ) where
  pub seen_made : (timed : Timed) (old new : Book) → slice_get b.script count ≡ Some timed → shows b.rules e timed.change ≡ true → new ≡ apply b.rules old timed.change
      → change_noted b (monitor_state s pending old count us) e ≡ monitor_state s pending new (count + 1) us
  seen_made timed old new at shown applied =
      let M = monitor_state s pending old count us in
      ap (change_outcome b M e) at ∙ cond-true (shows b.rules e timed.change) (with_change b M timed) M shown
      ∙ ap₂ (λ book n. monitor_state s pending book n us) (sym applied) (sym (add-one count))

  pub seen_other : (timed : Timed) (book : Book) → slice_get b.script count ≡ Some timed → shows b.rules e timed.change ≡ false
      → change_noted b (monitor_state s pending book count us) e ≡ monitor_state s pending book count us
  seen_other timed book at shown =
      let M = monitor_state s pending book count us in
      ap (change_outcome b M e) at ∙ cond-false (shows b.rules e timed.change) (with_change b M timed) M shown

  pub seen_none : (book : Book) → slice_get b.script count ≡ None → change_noted b (monitor_state s pending book count us) e ≡ monitor_state s pending book count us
  seen_none book at = ap (change_outcome b (monitor_state s pending book count us) e) at

module _ (b : Setting) (me : Role) (mail : Mail) (book : Book) (us : List Update) where
  -- a put to the role
  pub believes_put : (k : Key) (sent : Note) (mail' : Mail) → role_eq k.to me ≡ true
      → ((pending : List (Key × Load)) → HoldsMail pending mail → HoldsMail (mail_with_some k (noted_load b k.to us sent) pending) mail')
      → Believes b me mail book us (entry.Put k sent) mail' us
  believes_put k sent mail' mine holds = record {
    left = mail_with_some k (noted_load b k.to us sent);
    gives = λ s pending count same.
        let M = monitor_state s pending book count us in
        cond-true (role_eq k.to s.role) (received b M k sent) M (ap (role_eq k.to) same ∙ mine);
    holds = holds;
  }

  -- a put to another role
  pub believes_other : (k : Key) (sent : Note) → role_eq k.to me ≡ false → Believes b me mail book us (entry.Put k sent) mail us
  believes_other k sent other = record {
    left = λ pending. pending;
    gives = λ s pending count same.
        let M = monitor_state s pending book count us in
        cond-false (role_eq k.to s.role) (received b M k sent) M (ap (role_eq k.to) same ∙ other);
    holds = λ pending held. held;
  }

  -- the begin of an update
  pub believes_scope : (i : Index) (r : Role) (name : List ℕ) (n : ℕ) (us' : List Update) → us' ≡ with_update us (heard_update b.rules book us i name n)
      → Believes b me mail book us (entry.Scope i r (chosen.Rule name n)) mail us'
  believes_scope i r name n us' heard = record {
    left = λ pending. pending;
    gives = λ s pending count same. ap (monitor_state s pending book count) (sym heard);
    holds = λ pending held. held;
  }

  -- every other entry changes nothing
  pub believes_rest : (e : Entry) → ((k : Key) (sent : Note) → e ≡ entry.Put k sent → ⊥) → ((i : Index) (r : Role) (c : Chosen) → e ≡ entry.Scope i r c → ⊥) → Believes b me mail book us e mail us
  believes_rest (entry.Put k sent) not_put not_scope = absurd (not_put k sent refl)
  believes_rest (entry.Scope i r c) not_put not_scope = absurd (not_scope i r c refl)
  believes_rest (entry.Take k x) not_put not_scope = record { left = λ pending. pending; gives = λ s pending count same. refl; holds = λ pending held. held }
  believes_rest (entry.Set i r x v) not_put not_scope = record { left = λ pending. pending; gives = λ s pending count same. refl; holds = λ pending held. held }
  believes_rest (entry.Input i r x v) not_put not_scope = record { left = λ pending. pending; gives = λ s pending count same. refl; holds = λ pending held. held }
  believes_rest (entry.Pick i r t) not_put not_scope = record { left = λ pending. pending; gives = λ s pending count same. refl; holds = λ pending held. held }
  believes_rest (entry.Add name) not_put not_scope = record { left = λ pending. pending; gives = λ s pending count same. refl; holds = λ pending held. held }
  believes_rest (entry.Drop name) not_put not_scope = record { left = λ pending. pending; gives = λ s pending count same. refl; holds = λ pending held. held }
  believes_rest (entry.Env key v) not_put not_scope = record { left = λ pending. pending; gives = λ s pending count same. refl; holds = λ pending held. held }
