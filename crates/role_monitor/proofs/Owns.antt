-- Entries of the role that begin no scope: what the parts of the program do is what the state's own entry is.
use Rattle.std.proofs.Common.{◌≡◌, ℕ, List, [], ◌∷◌, ◌++◌, Bool, true, false, not, Option, Some, None, IsSome, if◌then◌else◌, refl, sym, ap, ap₂, ◌∙◌, subst, ⊎_elim}
use Rattle.std.specs.Map.{lookup}
use Rattle.std.specs.Prelude.{is_some, option_map}
use Rattle.std.proofs.lemmas.Bool.{cases_Bool, cond-true, cond-false, false≢true}
use Rattle.dioc_terms.specs.declared.names.Role.{Role}
use Rattle.dioc_terms.specs.declared.processes.Key.{Key}
use Rattle.dioc_terms.specs.declared.entries.Act.{Act}
use Rattle.dioc_terms.specs.declared.entries.Act.TheVariants as act
use Rattle.dioc_terms.specs.declared.entries.Chosen.TheVariants as chosen
use Rattle.dioc_terms.specs.declared.entries.Entry.{Entry}
use Rattle.dioc_terms.specs.Attempts.{Attempt, Stuck, Does}
use Rattle.dioc_terms.specs.Equality.{role_eq, key_eq, entry_eq}
use Rattle.dioc_terms.specs.Messages.{act_of}
use Rattle.dioc_terms.specs.Plain.{Setting}
use Rattle.dioc_terms.specs.Processes.{Process, Load, load}
use Rattle.dioc_terms.specs.Rules.{Book}
use Rattle.dpoc_process.specs.declared.runs.Shown.{Shown}
use Rattle.dpoc_process.specs.RoleSteps.{sent, IsShown, IsStep}
use Rattle.dpoc_process.specs.Shows.{message_shown}
use Rattle.dpoc_process.specs.LocalStates.{LocalState, offered, step_at}
use Rattle.marked_laws.proofs.Equality.{key_same}
use Rattle.marked_laws.proofs.Shapes.{some_same}
use Rattle.marked_laws.specs.MailLaws.{MailIsAMap}
use Rattle.network_steps.specs.Network.{pending_at}
use Rattle.process_steps.specs.Laws.{OffersAreSteps, StepsShowTheirActs, given_fits, is_done}
use Rattle.process_steps.specs.Steps.{Deed, Puts, Takes, Sets, Inputs, Picks, Chooses, Given, Alone, Got, entry_of, is_offered}
use Rattle.role_mailbox.specs.declared.mail.Mail.{Mail}
use Rattle.role_mailbox.specs.Pending.{messages, payload_at, ChangesOnly}
use Rattle.role_monitor.proofs.Ends.{missing_stays}
use Rattle.role_monitor.specs.Judging.{FailsEntry, HoldsMail, KeepsOwn, MakesEntry, MisfitsStay, PutBy, RefusesOwn, SameMessages, TakenBy, is_entry, is_fitting, mail_given, monitor_state, put_by, taken_by}
use Rattle.role_monitor.specs.Monitoring.{MonitorState, arrived, comes_to, mail_with, mail_with_some, own_mail, own_updates, after_own, own_outcome, own_entry}
use Rattle.role_monitor.specs.declared.updates.Update.{Update}
use Rattle.net_core.proofs.DeedLemmas.{entry_known}
use Rattle.net_core.specs.Deeds.{asks_scope}

-- a message that was taken and put back
pub put_back : (old mid new : Mail) (k : Key) (l : Load) → payload_at k old ≡ Some l → ChangesOnly old mid k None → ChangesOnly mid new k (Some l) → SameMessages old new
put_back old mid new k l was taken put = record { at = λ j. put.at j ∙ by_key j }
  where
    by_key : (j : Key) → (if key_eq j k then Some l else payload_at j mid) ≡ payload_at j old
    by_key j = ⊎_elim
        (λ here. cond-true (key_eq j k) (Some l) (payload_at j mid) here ∙ sym was ∙ ap (λ (x : Key). payload_at x old) (sym (key_same j k here)))
        (λ there. cond-false (key_eq j k) (Some l) (payload_at j mid) there ∙ taken.at j ∙ cond-false (key_eq j k) None (payload_at j old) there)
        (cases_Bool (key_eq j k))

-- the mail without a message
pub taken_holds : MailIsAMap → (old new : Mail) (k : Key) (l : Load) → ChangesOnly old new k None → TakenBy (act.Take k) old new
taken_holds maps old new k l taken = record {
  holds = λ pending distinct held. record {
    at = λ j. taken.at j ∙ ap (λ o. if key_eq j k then None else o) (held.at j) ∙ sym (maps.taken pending k None l j distinct);
  };
}

-- the mail with one message more
pub appended_holds : MailIsAMap → (pending : List (Key × Load)) (old new : Mail) (k : Key) (l : Load) → HoldsMail pending old → payload_at k old ≡ None → ChangesOnly old new k (Some l)
    → HoldsMail (mail_with k l pending) new
appended_holds maps pending old new k l held free put =
    let empty : pending_at k pending ≡ None = sym (held.at k) ∙ free in
    subst (λ ms. HoldsMail ms new) (sym (ap (λ o. if is_some o then pending else pending ++ (k, l) ∷ []) empty))
    (record { at = λ j. put.at j ∙ ap (λ o. if key_eq j k then Some l else o) (held.at j) ∙ sym (maps.put pending k l j empty) })

-- a message whose key is there changes nothing
pub there_holds : (pending : List (Key × Load)) (mail : Mail) (k : Key) (l : Load) → HoldsMail pending mail → is_some (payload_at k mail) ≡ true → HoldsMail (mail_with k l pending) mail
there_holds pending mail k l held there =
    subst (λ ms. HoldsMail ms mail) (sym (cond-true (is_some (pending_at k pending)) pending (pending ++ (k, l) ∷ []) (ap is_some (sym (held.at k)) ∙ there))) held

pub put_to_me : (me : Role) (old new : Mail) (k : Key) (l : Load) → role_eq k.to me ≡ true → ((pending : List (Key × Load)) → HoldsMail pending old → HoldsMail (mail_with k l pending) new)
    → PutBy me (act.Put k) (Some l) old new
put_to_me me old new k l mine holds = record {
  holds = λ pending held. subst (λ ms. HoldsMail ms new) (sym (cond-true (role_eq k.to me) (mail_with k l pending) pending mine)) (holds pending held);
}

pub put_to_other : (me : Role) (mail : Mail) (k : Key) (l : Load) → role_eq k.to me ≡ false → PutBy me (act.Put k) (Some l) mail mail
put_to_other me mail k l other = record {
  holds = λ pending held. subst (λ ms. HoldsMail ms mail) (sym (cond-false (role_eq k.to me) (mail_with k l pending) pending other)) held;
}

-- the messages after a deed are those after its act
own_mail_by : (me : Role) (d : Deed) (a : Act) (pending : List (Key × Load)) → act_of (entry_of d) ≡ Some a → put_by me a (sent d) (taken_by a pending) ≡ own_mail me d pending
own_mail_by me (Puts k l) a pending is = ap (λ x. put_by me x (Some l) (taken_by x pending)) (sym (some_same is))
own_mail_by me (Takes k x l) a pending is = ap (λ x. put_by me x None (taken_by x pending)) (sym (some_same is))
own_mail_by me (Sets i r x v) a pending is = ap (λ x. put_by me x None (taken_by x pending)) (sym (some_same is))
own_mail_by me (Inputs i r x v) a pending is = ap (λ x. put_by me x None (taken_by x pending)) (sym (some_same is))
own_mail_by me (Picks i r t) a pending is = ap (λ x. put_by me x None (taken_by x pending)) (sym (some_same is))
own_mail_by me (Chooses i r c) a pending is = ap (λ x. put_by me x None (taken_by x pending)) (sym (some_same is))

done_is : {D A : Type 0} (m : Attempt D A) (d : D) (x : A) → m ≡ Does d x → is_done m ≡ true
done_is m d x h = ap is_done h

module _ (laws : StepsShowTheirActs) (s : LocalState) (a : Act) (p : Shown) (shown : IsShown s a p) (plain : asks_scope a ≡ false) (e : Entry) where
  -- what was shown before is the entry of the step
  shown_is : (given : Given) (d : Deed) (P : Process) → step_at s a given ≡ Does d P → is_entry p.entry e ≡ entry_eq e (entry_of d)
  shown_is given d P does =
      ap (λ o. is_entry o e) (shown.entry given d P does ∙ entry_known d a (laws s.role s.store s.process a given d P does) plain)

  -- an entry that wasn't shown isn't that of the step
  pub other_fails : (given : Given) → is_entry p.entry e ≡ false → FailsEntry s a given e
  other_fails given other = λ d P does. sym (shown_is given d P does) ∙ other

  -- the role that made its step
  pub makes : (given : Given) → is_entry p.entry e ≡ true → (s' : LocalState) → IsStep s a given s' → (me : Role) → s.role ≡ me → (old mid new : Mail) → TakenBy a old mid
      → PutBy me a (message_shown p) mid new → MakesEntry s a given e old s' new
  makes given same s' stepped me mine old mid new taken put = record {
    deed = stepped.deed;
    left = stepped.left;
    does = stepped.does;
    shows = sym (shown_is given stepped.deed stepped.left stepped.does) ∙ same;
    becomes = stepped.becomes;
    mail = λ pending distinct held.
        subst (λ ms. HoldsMail ms new)
        (ap (λ o. put_by me a o (taken_by a pending)) (shown.message given stepped.deed stepped.left stepped.does)
        ∙ own_mail_by me stepped.deed a pending (laws s.role s.store s.process a given stepped.deed stepped.left stepped.does)
        ∙ ap (λ r. own_mail r stepped.deed pending) (sym mine))
        (put.holds (taken_by a pending) (taken.holds pending distinct held));
  }

-- where nothing is done no step shows the entry
pub undone_fails : (s : LocalState) (a : Act) (given : Given) (e : Entry) → is_done (step_at s a given) ≡ false → FailsEntry s a given e
undone_fails s a given e undone = λ d P does. absurd (false≢true (sym undone ∙ done_is (step_at s a given) d P does))

-- a put shows its message
pub put_sends : OffersAreSteps → StepsShowTheirActs → (s : LocalState) (a : Act) (p : Shown) → IsShown s a p → (k : Key) → a ≡ act.Put k → IsSome (message_shown p)
put_sends steps laws s a p shown k put =
    let done : is_done (step_at s a Alone) ≡ true =
    steps.exactly s.role s.store s.process a Alone (ap (λ b. given_fits b Alone) put) ∙ shown.can_act in
    by_deed (step_at s a Alone) done refl
  where
    sends : (d : Deed) → act_of (entry_of d) ≡ Some (act.Put k) → IsSome (sent d)
    sends (Puts j l) is = refl
    sends (Takes j x l) is = cc
    sends (Sets i r x v) is = cc
    sends (Inputs i r x v) is = cc
    sends (Picks i r t) is = cc
    sends (Chooses i r c) is = cc

    by_deed : (m : Attempt Deed Process) → is_done m ≡ true → step_at s a Alone ≡ m → IsSome (message_shown p)
    by_deed Stuck done is = cc
    by_deed (Does d P) done is =
        subst IsSome (sym (shown.message Alone d P is)) (sends d (laws s.role s.store s.process a Alone d P is ∙ ap Some put))

-- nothing is done by a take whose message isn't there or doesn't fit
pub misfit_fails : (s : LocalState) (a : Act) (mail : Mail) (e : Entry) → asks_scope a ≡ false → MisfitsStay s a → given_fits a (mail_given a mail) ≡ false → FailsEntry s a (mail_given a mail) e
misfit_fails s (act.Take k) mail e plain misfits h = by_message (payload_at k mail) h
  where
    by_message : (o : Option Load) → given_fits (act.Take k) (arrived o) ≡ false → FailsEntry s (act.Take k) (arrived o) e
    by_message None f = undone_fails s (act.Take k) Alone e (missing_stays s.role s.store k s.process)
    by_message (Some l) f = undone_fails s (act.Take k) (Got l) e (misfits k l refl f)
misfit_fails s (act.Put k) mail e plain misfits h = absurd (false≢true (sym h))
misfit_fails s (act.Set i) mail e plain misfits h = absurd (false≢true (sym h))
misfit_fails s (act.Input i) mail e plain misfits h = absurd (false≢true (sym h))
misfit_fails s (act.Pick i) mail e plain misfits h = absurd (false≢true (sym h))
misfit_fails s (act.Scope i) mail e plain misfits h = absurd (false≢true (sym plain))

-- a take has what it needs where the message fits
pub fitting_is : (k : Key) (o : Option Load) → given_fits (act.Take k) (arrived o) ≡ is_fitting k o
fitting_is k None = refl
fitting_is k (Some l) = refl

-- nothing is done by an act that isn't offered
pub unoffered_fails : OffersAreSteps → (s : LocalState) (a : Act) (given : Given) (e : Entry) → is_offered a (offered s) ≡ false → FailsEntry s a given e
unoffered_fails steps s a given e not_there = λ d P does.
    absurd (false≢true (sym not_there ∙ steps.only s.role s.store s.process a given (done_is (step_at s a given) d P does)))

module _ (b : Setting) (s : LocalState) (book : Book) (us : List Update) (e : Entry) (a : Act) where
  abbrev state : List (Key × Load) → ℕ → MonitorState
  state pending count = monitor_state s pending book count us

  outcome_fails : (M : MonitorState) (m : Attempt Deed Process) → ((d : Deed) (P : Process) → m ≡ Does d P → entry_eq e (entry_of d) ≡ false) → own_outcome b M e m ≡ None
  outcome_fails M Stuck h = refl
  outcome_fails M (Does d P) h = cond-false (entry_eq e (entry_of d)) (Some (after_own b M d P)) None (h d P refl)

  -- an entry that no step shows is undefined
  pub refused : (M : MonitorState) → FailsEntry M.local a (comes_to b M a) e → own_entry b M e a ≡ None
  refused M fails = outcome_fails M (step_at M.local a (comes_to b M a)) fails

  -- an entry that a step shows
  pub made : (M : MonitorState) (d : Deed) (P : Process) → step_at M.local a (comes_to b M a) ≡ Does d P → entry_eq e (entry_of d) ≡ true → own_entry b M e a ≡ Some (after_own b M d P)
  made M d P does shows = ap (own_outcome b M e) does ∙ cond-true (entry_eq e (entry_of d)) (Some (after_own b M d P)) None shows

  -- what comes to an act that isn't a scope's
  given_plain : (mail : Mail) (pending : List (Key × Load)) (count : ℕ) (c : Act) → asks_scope c ≡ false → HoldsMail pending mail → mail_given c mail ≡ comes_to b (state pending count) c
  given_plain mail pending count (act.Take k) plain held = ap arrived (held.at k)
  given_plain mail pending count (act.Put k) plain held = refl
  given_plain mail pending count (act.Set i) plain held = refl
  given_plain mail pending count (act.Input i) plain held = refl
  given_plain mail pending count (act.Pick i) plain held = refl
  given_plain mail pending count (act.Scope i) plain held = cc

  no_update : (M : MonitorState) (d : Deed) → act_of (entry_of d) ≡ Some a → asks_scope a ≡ false → own_updates b M d ≡ M.updates
  no_update M (Puts k l) is plain = refl
  no_update M (Takes k x l) is plain = refl
  no_update M (Sets i r x v) is plain = refl
  no_update M (Inputs i r x v) is plain = refl
  no_update M (Picks i r t) is plain = refl
  no_update M (Chooses i r chosen.Keep) is plain = refl
  no_update M (Chooses i r (chosen.Rule name n)) is plain = cc (ap asks_scope (some_same is))

  module _ (laws : StepsShowTheirActs) (plain : asks_scope a ≡ false) (mail : Mail) where
    pub plain_keeps : (s' : LocalState) (mail' : Mail) → MakesEntry s a (mail_given a mail) e mail s' mail' → KeepsOwn b s mail book us e a s' mail' us
    plain_keeps s' mail' makes = record {
      left = own_mail s.role makes.deed;
      keeps = λ pending count distinct held.
          let M = state pending count in
          let does : step_at s a (comes_to b M a) ≡ Does makes.deed makes.left = ap (step_at s a) (sym (given_plain mail pending count a plain held)) ∙ makes.does in
          let shown = laws s.role s.store s.process a (mail_given a mail) makes.deed makes.left makes.does in
          made M makes.deed makes.left does makes.shows
          ∙ ap₂ (λ (t : LocalState) ws. Some (monitor_state t (own_mail s.role makes.deed pending) book count ws)) (sym makes.becomes) (no_update M makes.deed shown plain);
      holds = makes.mail;
    }

    pub plain_refuses : FailsEntry s a (mail_given a mail) e → RefusesOwn b s mail book us e a
    plain_refuses fails = record {
      refuses = λ pending count held. refused (state pending count) (subst (λ given. FailsEntry s a given e) (given_plain mail pending count a plain held) fails);
    }

-- the same messages
pub same_messages : (old new : Mail) → messages new ≡ messages old → SameMessages old new
same_messages old new same = record { at = λ k. ap (lookup (key_eq k)) same }

pub messages_after : (old mid new : Mail) → SameMessages old mid → SameMessages mid new → SameMessages old new
messages_after old mid new one two = record { at = λ k. two.at k ∙ one.at k }

module _ (b : Setting) (old mid : Mail) (same : SameMessages old mid) (book : Book) (us : List Update) (e : Entry) (a : Act) where
  held_so : (pending : List (Key × Load)) → HoldsMail pending old → HoldsMail pending mid
  held_so pending held = record { at = λ k. same.at k ∙ held.at k }

  -- what is kept and refused by the same messages
  pub keeps_same : (s t s' : LocalState) (new : Mail) (us' : List Update) → t ≡ s → KeepsOwn b t mid book us e a s' new us' → KeepsOwn b s old book us e a s' new us'
  keeps_same s t s' new us' is keeps = subst (λ x. KeepsOwn b x old book us e a s' new us') is (record {
    left = keeps.left;
    keeps = λ pending count distinct held. keeps.keeps pending count distinct (held_so pending held);
    holds = λ pending distinct held. keeps.holds pending distinct (held_so pending held);
  })

  pub refuses_same : (s t : LocalState) → t ≡ s → RefusesOwn b t mid book us e a → RefusesOwn b s old book us e a
  refuses_same s t is refuses = subst (λ x. RefusesOwn b x old book us e a) is (record { refuses = λ pending count held. refuses.refuses pending count (held_so pending held) })

-- an act that isn't offered is refused
pub unoffered_refused : OffersAreSteps → (b : Setting) (s : LocalState) (mail : Mail) (book : Book) (us : List Update) (e : Entry) (a : Act) → is_offered a (offered s) ≡ false
    → RefusesOwn b s mail book us e a
unoffered_refused steps b s mail book us e a not_there = record {
  refuses = λ pending count held.
      let M = monitor_state s pending book count us in
      refused b s book us e a M (unoffered_fails steps s a (comes_to b M a) e not_there);
}

-- the same messages in other words
pub held_same : (pending : List (Key × Load)) (old new : Mail) → messages new ≡ messages old → HoldsMail pending old → HoldsMail pending new
held_same pending old new same held = record { at = λ k. ap (lookup (key_eq k)) same ∙ held.at k }

-- a message whose key is there changes nothing, if there is one
pub some_there : (pending : List (Key × Load)) (mail : Mail) (k : Key) (o : Option Load) → HoldsMail pending mail → is_some (payload_at k mail) ≡ true → HoldsMail (mail_with_some k o pending) mail
some_there pending mail k None held there = held
some_there pending mail k (Some l) held there = there_holds pending mail k l held there

pub true_of : (t : Bool) → not t ≡ false → t ≡ true
true_of true h = refl
true_of false h = absurd (false≢true (sym h))

-- nothing comes to an act that is neither a take nor a scope's, and it takes nothing
pub record NeedsNothing (a : Act) (mail : Mail) : Type 0 where
  pub alone : Alone ≡ mail_given a mail
  pub fits : given_fits a (mail_given a mail) ≡ true
  pub taken : TakenBy a mail mail

pub needs_nothing : (a : Act) (mail : Mail) → asks_scope a ≡ false → ((k : Key) → a ≡ act.Take k → ⊥) → NeedsNothing a mail
needs_nothing (act.Take k) mail plain not_take = absurd (not_take k refl)
needs_nothing (act.Scope i) mail plain not_take = absurd (false≢true (sym plain))
needs_nothing (act.Put k) mail plain not_take = record { alone = refl; fits = refl; taken = record { holds = λ pending distinct held. held } }
needs_nothing (act.Set i) mail plain not_take = record { alone = refl; fits = refl; taken = record { holds = λ pending distinct held. held } }
needs_nothing (act.Input i) mail plain not_take = record { alone = refl; fits = refl; taken = record { holds = λ pending distinct held. held } }
needs_nothing (act.Pick i) mail plain not_take = record { alone = refl; fits = refl; taken = record { holds = λ pending distinct held. held } }
