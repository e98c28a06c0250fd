-- The script's next change, and what it makes of what a net keeps.
use Rattle.std.proofs.Common.{◌≡◌, ◌≢◌, ◌<◌, ◌≤◌, ℕ, zero, suc, List, [], ◌∷◌, ◌++◌, length, map, drop, true, false, Option, Some, None, slice_get, get_or, refl, sym, ap, ap₂, ◌∙◌, subst, arith, length-append}
use Rattle.std.specs.Prelude.{option_map, nat_le, nat_lt}
use Rattle.std.proofs.lemmas.Bool.{le-leb, lt-leb, cond-true, cond-false, false_from_ne_true}
use Rattle.std.proofs.lemmas.Option.{slice_get-map}
use Rattle.std.proofs.lemmas.Bool.Decides.{Decides-ltb}
use Rattle.dioc_terms.specs.declared.bundles.Change.{Change}
use Rattle.dioc_terms.specs.declared.bundles.Change.TheVariants as change
use Rattle.dioc_terms.specs.declared.bundles.Timed.{Timed}
use Rattle.dioc_terms.specs.declared.entries.Entry.{Entry}
use Rattle.dioc_terms.specs.declared.entries.Entry.TheVariants as entry
use Rattle.dioc_terms.specs.declared.names.Role.{Role}
use Rattle.dioc_terms.specs.Messages.{is_aux, visible}
use Rattle.dioc_terms.specs.Plain.{PlainRule, PlainBundle, setting}
use Rattle.dioc_terms.specs.Rules.{apply}
use Rattle.dpoc_process.specs.LocalStates.{LocalState}
use Rattle.global_steps.specs.Follow.{change_entry}
use Rattle.marked_laws.proofs.Networks.{after_change, script_outcome, entry_outcome}
use Rattle.marked_laws.proofs.Shapes.{none_some, some_same, same_head, some_nil}
use Rattle.network_steps.specs.Network.{Network, NextNetwork, change_step, network_run}
use Rattle.role_mailbox.specs.declared.mail.Mail.{Mail}
use Rattle.rule_book.specs.declared.book.Book.{Book as KeptBook}
use Rattle.net_core.proofs.NetLemmas.{network_is, visible_now}
use Rattle.net_core.specs.Changes.{IsChangeOf, change_fault, script_fault}
use Rattle.net_core.specs.declared.bodies.Coming.{Coming}
use Rattle.net_core.specs.declared.faults.ChangeFault.{ChangeFault}
use Rattle.net_core.specs.declared.faults.ChangeFault.TheVariants as fault
use Rattle.net_core.specs.Nets.{NetState, network_at}
use Rattle.net_core.specs.Scripts.{ChangeMade, ChangeRefused, change_in}
use Rattle.net_core.specs.Standing.{Body, ScriptedChange, Parts, HoldsRun, due_of}
use Rattle.net_core.specs.StepLaws.{StepsRun}

drop_first : {A : Type 0} (xs : List A) (n : ℕ) → slice_get (drop n xs) 0 ≡ slice_get xs n
drop_first xs zero = refl
drop_first [] (suc n) = refl
drop_first (x ∷ xs) (suc n) = drop_first xs n

drop_more : {A : Type 0} (xs : List A) (n : ℕ) (x : A) (rest : List A) → drop n xs ≡ x ∷ rest → drop (suc n) xs ≡ rest
drop_more [] zero x rest h = absurd (some_nil (sym h))
drop_more (y ∷ ys) zero x rest h = (same_head h).1
drop_more [] (suc n) x rest h = absurd (some_nil (sym h))
drop_more (y ∷ ys) (suc n) x rest h = drop_more ys n x rest h

-- a change is visible
change_visible : (rules : List PlainRule) (c : Change) (e : Entry) → change_entry rules c ≡ Some e → is_aux e ≡ false
change_visible rules (change.Add m) e h = of_rule (slice_get rules m) h
  where
    of_rule : (o : Option PlainRule) → option_map (λ (rule : PlainRule). entry.Add rule.name) o ≡ Some e → is_aux e ≡ false
    of_rule None k = absurd (none_some k)
    of_rule (Some rule) k = ap is_aux (sym (some_same k))
change_visible rules (change.Drop name) e h = ap is_aux (sym (some_same h))
change_visible rules (change.Env key v) e h = ap is_aux (sym (some_same h))

-- the change of the script that is to come next
pub record IsNext (b : PlainBundle) (N : Network) (due : ScriptedChange) : Type 0 where
  pub timed : Timed
  pub stands : slice_get b.script N.changes ≡ Some timed
  pub same : due ≡ due_of b.rules timed

module _ (b : PlainBundle) (limit : ℕ) (parts : Parts) (is : HoldsRun b limit parts) where
  pub next_due : slice_get parts.coming 0 ≡ option_map (due_of b.rules) (slice_get b.script is.network.changes)
  next_due = ap (λ l. slice_get l 0) is.coming ∙ drop_first (map (due_of b.rules) b.script) is.network.changes ∙ slice_get-map (due_of b.rules) b.script is.network.changes

  none_next : parts.coming ≡ [] → slice_get b.script is.network.changes ≡ None
  none_next empty = by_case (slice_get b.script is.network.changes) (ap (λ (l : List ScriptedChange). slice_get l 0) (sym empty) ∙ next_due)
    where
      by_case : (o : Option Timed) → None ≡ option_map (due_of b.rules) o → o ≡ None
      by_case None h = refl
      by_case (Some timed) h = absurd (none_some h)

  is_next : (due : ScriptedChange) (rest : List ScriptedChange) → parts.coming ≡ due ∷ rest → IsNext b is.network due
  is_next due rest e = by_case (slice_get b.script is.network.changes) refl (ap (λ (l : List ScriptedChange). slice_get l 0) (sym e) ∙ next_due)
    where
      by_case : (o : Option Timed) → slice_get b.script is.network.changes ≡ o → Some due ≡ option_map (due_of b.rules) o → IsNext b is.network due
      by_case None at h = absurd (none_some (sym h))
      by_case (Some timed) at h = record { timed = timed; stands = at; same = some_same h }

module _ (b : PlainBundle) (limit : ℕ) (cast : List Role) (locals : List LocalState) (mail : Mail) (book : KeptBook) (bodies : List Body) (script : List ScriptedChange) (count : ℕ) (H : List Entry) where
  abbrev pub with_change : KeptBook → List ScriptedChange → List Entry → Parts
  with_change book script H = record {
    cast = cast;
    locals = locals;
    mail = mail;
    book = book;
    bodies = bodies;
    coming = script;
    updates = count;
    history = H;
  }

  -- where nothing was changed, what a net keeps stands as before
  pub changed_same : HoldsRun b limit (with_change book script H) → (script' : List ScriptedChange) (book' : KeptBook) (H' : List Entry) → script' ≡ script → book' ≡ book → H' ≡ H
      → HoldsRun b limit (with_change book' script' H')
  changed_same is script' book' H' same_script same_book same_history =
      subst (λ h. HoldsRun b limit (with_change book' script' h)) (sym same_history)
      (subst (λ l. HoldsRun b limit (with_change book' l H)) (sym same_script)
      (subst (λ k. HoldsRun b limit (with_change k script H)) (sym same_book) is))

  module _ (is : HoldsRun b limit (with_change book script H)) (laws : StepsRun) (script' : List ScriptedChange) (book' : KeptBook) (H' : List Entry)
      (made : ChangeMade b.rules script (length (visible H)) book H script' book' H') where
    pub next : IsNext b is.network made.due
    next = is_next b limit (with_change book script H) is made.due script' made.script

    shown : change_entry b.rules next.timed.change ≡ Some made.entry
    shown = ap (λ (due : ScriptedChange). due.entry) (sym next.same) ∙ made.shows

    due_now : nat_le next.timed.after is.network.visible ≡ true
    due_now = le-leb next.timed.after is.network.visible (omega (arith, ap (λ (due : ScriptedChange). due.after) next.same, made.stands, is.visible))

    pub changes : change_step (setting b) is.network ≡ Some (record { entry = made.entry; network = after_change (setting b) is.network next.timed })
    changes = ap (script_outcome (setting b) is.network) next.stands ∙ ap (entry_outcome (setting b) is.network next.timed) shown
        ∙ cond-true (nat_le next.timed.after is.network.visible) (Some (record { entry = made.entry; network = after_change (setting b) is.network next.timed })) None due_now

    pub runs : network_run b (H ++ made.entry ∷ []) ≡ Some (after_change (setting b) is.network next.timed)
    runs = laws.change b H is.network (record { entry = made.entry; network = after_change (setting b) is.network next.timed }) is.sound is.runs changes

    visible_more : suc is.network.visible ≡ length (visible (H ++ made.entry ∷ []))
    visible_more = sym (cond-false (is_aux made.entry) is.network.visible (suc is.network.visible) (change_visible b.rules next.timed.change made.entry shown))
        ∙ visible_now H made.entry is.network.visible is.visible

    -- what a net keeps after a change
    pub stands_changed : length H < limit → HoldsRun b limit (with_change book' script' H')
    stands_changed room = record {
      sound = is.sound;
      network = after_change (setting b) is.network next.timed;
      runs = subst (λ h. network_run b h ≡ Some (after_change (setting b) is.network next.timed)) (sym made.entries) runs;
      within = subst (λ (h : List Entry). length h ≤ limit) (sym made.entries) (one_longer H made.entry room);
      cast = is.cast;
      locals = is.locals;
      pending = is.pending;
      book = made.book ∙ ap₂ (apply b.rules) is.book (ap change_in next.same);
      of = made.of;
      next = made.next ∙ ap (drop 1) (is.next ∙ ap (map change_in) made.script);
      bodies = is.bodies;
      coming = sym (drop_more (map (due_of b.rules) b.script) is.network.changes made.due script' (sym is.coming ∙ made.script));
      updates = is.updates;
      visible = visible_more ∙ ap (λ h. length (visible h)) (sym made.entries);
    }
      where
        one_longer : (H : List Entry) (e : Entry) → length H < limit → length (H ++ e ∷ []) ≤ limit
        one_longer H e room = omega (arith, length-append H (e ∷ []))

module _ (of : PlainBundle) (limit : ℕ) (cast : List Role) (locals : List LocalState) (mail : Mail) (book : KeptBook) (bodies : List Body) (script : List ScriptedChange) (count : ℕ) (H : List Entry)
    (is : HoldsRun of limit (with_change of limit cast locals mail book bodies script count H book script H)) (room : length H < limit) where
  abbrev state : List Entry → NetState
  state history = record { bundle = of; history = history; limit = limit }

  at : network_at of H ≡ is.network
  at = network_is of H is.network is.runs

  fault_is : {f : Option ChangeFault} → script_fault (slice_get of.script is.network.changes) is.network.visible ≡ f → change_fault (state H) ≡ f
  fault_is same =
      cond-false (nat_le limit (length H)) (Some fault.Full) (script_fault (slice_get of.script (network_at of H).changes) (network_at of H).visible) (lt-leb limit (length H) room)
      ∙ ap (λ (N : Network). script_fault (slice_get of.script N.changes) N.visible) at ∙ same

  pub change_made : StepsRun → (script' : List ScriptedChange) (book' : KeptBook) (H' : List Entry)
      → ChangeMade of.rules script (length (visible H)) book H script' book' H' → IsChangeOf (state H) (state H')
  change_made laws script' book' H' made =
      let due = next of limit cast locals mail book bodies script count H is laws script' book' H' made in
      let out : NextNetwork = record { entry = made.entry; network = after_change (setting of) is.network due.timed } in
      record {
        outcome = out;
        no_fault = fault_is (ap (λ o. script_fault o is.network.visible) due.stands
            ∙ cond-false (nat_lt is.network.visible due.timed.after) (Some fault.NotYet) None
            (lt_false is.network.visible due.timed.after (omega (arith, ap (λ (d : ScriptedChange). d.after) due.same, made.stands, is.visible))));
        steps = subst (λ N. change_step (setting of) N ≡ Some out) (sym at)
            (changes of limit cast locals mail book bodies script count H is laws script' book' H' made);
        goes = record {
          history = made.entries;
          network = ap (network_at of) made.entries
              ∙ network_is of (H ++ made.entry ∷ []) out.network (runs of limit cast locals mail book bodies script count H is laws script' book' H' made);
          bundle = refl;
          limit = refl;
        };
      }
    where
      lt_false : (m n : ℕ) → n ≤ m → nat_lt m n ≡ false
      lt_false m n h = false_from_ne_true (nat_lt m n) (λ t. absurd (omega (arith, (Decides-ltb m n).0 t)))

  pub change_refused : (f : ChangeFault) → ChangeRefused script (length (visible H)) f → f ≢ fault.Memory → change_fault (state H) ≡ Some f
  change_refused fault.NoMore refused h = fault_is (ap (λ o. script_fault o is.network.visible)
      (none_next of limit (with_change of limit cast locals mail book bodies script count H book script H) is refused))
  change_refused fault.NotYet refused h =
      let next = is_next of limit (with_change of limit cast locals mail book bodies script count H book script H) is refused.due refused.rest refused.script in
      fault_is (ap (λ o. script_fault o is.network.visible) next.stands
      ∙ cond-true (nat_lt is.network.visible next.timed.after) (Some fault.NotYet) None
      ((Decides-ltb is.network.visible next.timed.after).1 (omega (arith, ap (λ (due : ScriptedChange). due.after) next.same, refused.later, is.visible))))
  change_refused fault.Memory refused h = absurd (h refl)
  change_refused fault.Full refused h = absurd refused

-- the change that was looked at is the one that is taken out
pub looked_at : (items rest : List Coming) (x next : Coming) → items ≡ x ∷ rest → next ≡ get_or items 0 next → next ≡ x
looked_at items rest x next e is = is ∙ ap (λ l. get_or l 0 next) e
