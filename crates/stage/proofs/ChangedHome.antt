-- What a home keeps after the script's next change.
use Rattle.std.proofs.Common.{◌≡◌, ◌<◌, ℕ, suc, List, [], ◌∷◌, ◌++◌, length, map, Bool, true, is_some, is_none, Option, Some, None, refl, sym, ap, ◌∙◌, subst, arith, length-append}
use Rattle.dioc_terms.specs.declared.entries.Entry.{Entry}
use Rattle.dioc_terms.specs.declared.names.Role.{Role}
use Rattle.dioc_terms.specs.Messages.{doer, visible}
use Rattle.dioc_terms.specs.Plain.{PlainBundle, setting}
use Rattle.marked_laws.proofs.Shapes.{some_same}
use Rattle.network_steps.specs.Network.{Network, network_run}
use Rattle.net_laws.proofs.ScriptLemmas.{change_is_nobodys}
use Rattle.network_steps.specs.Schedule.{changes_in, IsPrompt}
use Rattle.dpoc_process.specs.LocalStates.{LocalState}
use Rattle.role_mailbox.specs.declared.mail.Mail.{Mail}
use Rattle.net_core.proofs.ChangeLemmas.{changes, runs, stands_changed}
use Rattle.net_core.specs.Scripts.{ChangeMade}
use Rattle.net_core.specs.Standing.{ScriptedChange, HoldsRun, body_of, local_in}
use Rattle.net_core.specs.StepLaws.{StepsRun}
use Rattle.rule_book.specs.declared.book.Book.{Book as KeptBook}
use Rattle.stage.proofs.HomeLemmas.{ended_stays, stopped_not}
use Rattle.stage.proofs.PromptRuns.{one_change_more, prompt_more}
use Rattle.stage.specs.declared.faults.Why.{Why}
use Rattle.stage.specs.Homes.{HasEnded, IsHome, IsSharedAfter}

some_of_none : (o : Option Role) → o ≡ None → is_some o ≡ true → ⊥
some_of_none None h s = cc
some_of_none (Some q) h s = cc

nobodys : {o : Option Role} {q : Role} → o ≡ None → o ≡ Some q → ⊥
nobodys none some = cc

module _ (b : PlainBundle) (limit : ℕ) (H : List Entry) (mail : Mail) (book : KeptBook) (script : List ScriptedChange) (count : ℕ) (is : IsSharedAfter b limit H mail book script count) where
  abbrev locals : List LocalState
  locals = map (local_in is.network) b.cast

  -- what the roles share, beside the roles themselves
  abbrev pub with_locals : HoldsRun b limit (record { cast = b.cast; locals = map (local_in is.network) b.cast; mail = mail; book = book; bodies = map body_of b.rules; coming = script; updates = count; history = H })
  with_locals = record {
    sound = is.sound;
    network = is.network;
    runs = is.runs;
    within = is.within;
    cast = refl;
    locals = refl;
    pending = is.pending;
    book = is.opened;
    of = is.of;
    next = is.next;
    bodies = refl;
    coming = is.rest;
    updates = is.updates;
    visible = is.visible;
  }

  module _ (laws : StepsRun) (room : length H < limit) (script' : List ScriptedChange) (book' : KeptBook) (H' : List Entry)
      (made : ChangeMade b.rules script (length (visible H)) book H script' book' H') where
    nobody : doer made.entry ≡ None
    nobody = change_is_nobodys (setting b) is.network (record { entry = made.entry; network = _ })
        (changes b limit b.cast locals mail book (map body_of b.rules) script count H with_locals laws script' book' H' made)

    now : HoldsRun b limit (record { cast = b.cast; locals = locals; mail = mail; book = book'; bodies = map body_of b.rules; coming = script'; updates = count; history = H' })
    now = stands_changed b limit b.cast locals mail book (map body_of b.rules) script count H with_locals laws script' book' H' made room

    abbrev pub runs_changed : (N : Network) × (network_run b (H ++ made.entry ∷ []) ≡ Some N)
    runs_changed = (_, runs b limit b.cast locals mail book (map body_of b.rules) script count H with_locals laws script' book' H' made)

    -- what the roles share after the change
    pub shared_changed : IsSharedAfter b limit H' mail book' script' count
    shared_changed = record {
      sound = now.sound;
      network = now.network;
      runs = now.runs;
      within = now.within;
      small = is.small;
      prompt = subst (IsPrompt b) (sym made.entries) (prompt_more b H made.entry is.prompt (λ somebody. absurd (some_of_none (doer made.entry) nobody somebody)));
      pending = now.pending;
      opened = now.book;
      of = now.of;
      next = now.next;
      rest = now.coming;
      changes = changes_now;
      visible = now.visible;
      updates = now.updates;
      few = omega (arith, is.few, ap length made.entries, length-append H (made.entry ∷ []));
    }
      where
        changes_now : now.network.changes ≡ changes_in H'
        changes_now =
            let after_is = some_same (sym now.runs ∙ ap (network_run b) made.entries ∙ runs_changed.1) in
            ap (λ (N : Network). N.changes) after_is ∙ ap suc is.changes
            ∙ sym (one_change_more H made.entry (ap is_none nobody)) ∙ ap changes_in (sym made.entries)

    -- a role that has ended has ended after the change
    pub ended_changed : (q : Role) → HasEnded b H q → HasEnded b H' q
    ended_changed q was = subst (λ h. HasEnded b h q) (sym made.entries)
        (ended_stays b H q made.entry runs_changed.0 runs_changed.1 (nobodys nobody) was)

-- what a home keeps after the change
pub home_changed : (of : PlainBundle) (limit : ℕ) (H : List Entry) (cast : List Role) (names : List (List ℕ)) (mail : Mail) (book : KeptBook) (script : List ScriptedChange) (count : ℕ) (finished : List Bool) (stopped : Option Why)
    → IsHome of limit H cast names mail book script count finished stopped → StepsRun → stopped ≡ None → length H < limit
    → (script' : List ScriptedChange) (book' : KeptBook) (H' : List Entry) → ChangeMade of.rules script (length (visible H)) book H script' book' H'
    → IsHome of limit H' cast names mail book' script' count finished stopped
home_changed of limit H cast names mail book script count finished stopped is laws goes room script' book' H' made = record {
  shared = shared_changed of limit H mail book script count is.shared laws room script' book' H' made;
  same_cast = is.same_cast;
  same_names = is.same_names;
  marks = record {
    marks = is.marks.marks;
    finish = λ i q at mark. ended_changed of limit H mail book script count is.shared laws room script' book' H' made q (is.marks.finish i q at mark);
    stop = λ cut. absurd (stopped_not goes cut);
  };
}
