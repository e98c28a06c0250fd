-- One entry more, by what the parts of a monitor did.
use Rattle.std.proofs.Common.{◌≡◌, ◌≤◌, ◌<◌, ◌+◌, suc, List, [], ◌∷◌, ◌++◌, length, filter, Bool, true, false, Some, None, if◌then◌else◌, refl, sym, ap, ap₂, ◌∙◌, subst, arith, length-append}
use Rattle.std.proofs.lemmas.Bool.{cond-true, cond-false}
use Rattle.std.specs.Option.{option_map_or}
use Rattle.dioc_terms.specs.declared.names.Role.{Role}
use Rattle.dioc_terms.specs.declared.processes.Key.{Key}
use Rattle.dioc_terms.specs.declared.entries.Act.{Act}
use Rattle.dioc_terms.specs.declared.entries.Act.TheVariants as act
use Rattle.dioc_terms.specs.declared.entries.Entry.{Entry}
use Rattle.dioc_terms.specs.declared.entries.Entry.TheVariants as entry
use Rattle.dioc_terms.specs.Equality.{member, role_eq}
use Rattle.dioc_terms.specs.Messages.{doer, act_of}
use Rattle.dioc_terms.specs.Plain.{PlainBundle, plain, setting}
use Rattle.dioc_terms.specs.Processes.{Load}
use Rattle.flat_role.specs.FlatStates.{local_of}
use Rattle.dpoc_process.specs.LocalStates.{LocalState}
use Rattle.marked_laws.proofs.Shapes.{none_some}
use Rattle.dioc_terms.specs.TermLaws.{MentionsAreRoles}
use Rattle.dioc_terms.specs.Terms.{mentions}
use Rattle.marked_laws.proofs.Choices.{all_at}
use Rattle.marked_laws.proofs.Premise.{all_member}
use Rattle.marked_laws.specs.Laws.{IsSound, IsSoundRule}
use Rattle.marked_laws.specs.MailLaws.{MailIsAMap}
use Rattle.role_monitor.proofs.Keeps.{IsKept, kept_misfits, kept_tells, run_keeps, run_more}
use Rattle.role_monitor.specs.declared.monitor.Monitor.{Monitor}
use Rattle.role_monitor.specs.declared.updates.Update.{Update}
use Rattle.role_monitor.specs.Judging.{Believes, HoldsMail, HoldsScript, KeepsOwn, MisfitsStay, RefusesOwn, RulesInCast, SameMessages, monitor_state}
use Rattle.role_monitor.specs.Monitoring.{MonitorState, change_noted, is_own, judged_by, mon, mon_run, mon_start, others_entry, own_entries, own_entry}
use Rattle.role_monitor.specs.Monitors.{HasRead, Shows}
use Rattle.net_core.specs.Scopes.{Tells}
use Rattle.rule_book.specs.KeptBooks.{book_of}
use Rattle.scope_leader.specs.Leaders.{LeadersTell}

filter_more : {A : Type 0} (p : A → Bool) (x : A) (xs : List A) → filter p (xs ++ x ∷ []) ≡ filter p xs ++ (if p x then x ∷ [] else [])
filter_more p x [] = refl
filter_more p x (y ∷ ys) = by_test (p y) (filter_more p x ys)
  where
    by_test : (t : Bool) → filter p (ys ++ x ∷ []) ≡ filter p ys ++ (if p x then x ∷ [] else [])
        → (if t then y ∷ filter p (ys ++ x ∷ []) else filter p (ys ++ x ∷ [])) ≡ (if t then y ∷ filter p ys else filter p ys) ++ (if p x then x ∷ [] else [])
    by_test true rest = ap (λ l. y ∷ l) rest
    by_test false rest = rest

own_more : (r : Role) (es : List Entry) (e : Entry) → is_own r e ≡ true → length (own_entries r (es ++ e ∷ [])) ≡ length (own_entries r es) + 1
own_more r es e own =
    ap length (filter_more (is_own r) e es ∙ ap (λ l. own_entries r es ++ l) (cond-true (is_own r e) (e ∷ []) [] own)) ∙ length-append (own_entries r es) (e ∷ [])

none_more : (r : Role) (es : List Entry) (e : Entry) → is_own r e ≡ false → length (own_entries r (es ++ e ∷ [])) ≡ length (own_entries r es)
none_more r es e other =
    let whole = ap length (filter_more (is_own r) e es ∙ ap (λ l. own_entries r es ++ l) (cond-false (is_own r e) (e ∷ []) [] other)) ∙ length-append (own_entries r es) [] in
    omega (arith, whole)

-- no more entries are own than there are
few_own : (r : Role) (es : List Entry) → length (own_entries r es) ≤ length es
few_own r [] = omega arith
few_own r (e ∷ es) = by_test (is_own r e) (few_own r es)
  where
    by_test : (t : Bool) → length (own_entries r es) ≤ length es → length (if t then e ∷ own_entries r es else own_entries r es) ≤ suc (length es)
    by_test true few = omega (arith, few)
    by_test false few = omega (arith, few)

-- an entry of a role shows an act
pub act_there : (e : Entry) (q : Role) → doer e ≡ Some q → (a : Act) × (act_of e ≡ Some a)
act_there (entry.Put k n) q h = (act.Put k, refl)
act_there (entry.Take k x) q h = (act.Take k, refl)
act_there (entry.Set i r x v) q h = (act.Set i, refl)
act_there (entry.Input i r x v) q h = (act.Input i, refl)
act_there (entry.Pick i r t) q h = (act.Pick i, refl)
act_there (entry.Scope i r c) q h = (act.Scope i, refl)
act_there (entry.Add name) q h = absurd (none_some h)
act_there (entry.Drop name) q h = absurd (none_some h)
act_there (entry.Env key v) q h = absurd (none_some h)

-- the parts of the state are those of the monitor
state_is : (b : PlainBundle) (monitor : Monitor) (M : MonitorState) → Shows b monitor M
    → monitor_state (local_of monitor.state) M.mail (book_of monitor.book) monitor.changes monitor.updates.items ≡ M
state_is b monitor M shows =
    ap₂ (λ s book. monitor_state s M.mail book monitor.changes monitor.updates.items) shows.local shows.book
    ∙ ap₂ (λ n us. monitor_state M.local M.mail M.book n us) shows.changes shows.updates

-- what a monitor before the first entry is
pub read_none : (b : PlainBundle) (r : Role) (monitor : Monitor) → IsSound b → plain monitor.bundle.now ≡ b → monitor.role.now ≡ r → Shows b monitor (mon_start b r)
    → monitor.fed ≡ 0 → monitor.judged ≡ 0 → HasRead b r monitor []
read_none b r monitor sound bundle role shows fed judged = record {
  sound = sound;
  bundle = bundle;
  role = role;
  state = mon_start b r;
  runs = refl;
  shows = shows;
  fed = fed;
  judged = judged;
}

module _ (b : PlainBundle) (r : Role) (old : Monitor) (es : List Entry) (read : HasRead b r old es) (e : Entry) where
  abbrev M : MonitorState
  M = read.state

  -- one more was read
  read_next : (new : Monitor) (N : MonitorState) → mon (setting b) M e ≡ Some N → Shows b new N → plain new.bundle.now ≡ b → new.role.now ≡ r → new.fed ≡ old.fed + 1
      → new.judged ≡ length (own_entries r (es ++ e ∷ [])) → HasRead b r new (es ++ e ∷ [])
  read_next new N goes shows bundle role fed judged = record {
    sound = read.sound;
    bundle = bundle;
    role = role;
    state = N;
    runs = run_more (setting b) es e (mon_start b r) M read.runs ∙ goes;
    shows = shows;
    fed = omega (arith, fed, read.fed, length-append es (e ∷ []));
    judged = judged;
  }

  -- a change was read
  pub read_change : doer e ≡ None → (new : Monitor)
      → ((s : LocalState) (pending : List (Key × Load)) (us : List Update)
      → change_noted (setting b) (monitor_state s pending (book_of old.book) old.changes us) e ≡ monitor_state s pending (book_of new.book) new.changes us)
      → HoldsScript b new.book new.changes
      → new.bundle.now ≡ old.bundle.now → new.role.now ≡ old.role.now → new.state ≡ old.state → new.mail ≡ old.mail → new.updates ≡ old.updates
      → new.fed ≡ old.fed + 1 → new.judged ≡ old.judged → HasRead b r new (es ++ e ∷ [])
  read_change nobody new seen script bundle role state mail updates fed judged =
      let N = monitor_state (local_of old.state) M.mail (book_of new.book) new.changes old.updates.items in
      read_next new N
      (ap (λ o. judged_by (setting b) M e o (act_of e)) nobody
      ∙ ap (λ X. Some (change_noted (setting b) X e)) (sym (state_is b old M read.shows))
      ∙ ap Some (seen (local_of old.state) M.mail old.updates.items))
      (record {
        local = ap local_of state;
        mail = subst (HoldsMail M.mail) (sym mail) read.shows.mail;
        book = refl;
        changes = refl;
        updates = ap (λ us. us.items) updates;
        script = script;
      })
      (ap plain bundle ∙ read.bundle) (role ∙ read.role) fed
      (judged ∙ read.judged ∙ sym (none_more r es e (ap (λ o. option_map_or (λ q. role_eq q r) o false) nobody)))

  module _ (leaders : LeadersTell) (maps : MailIsAMap) where
    pub kept : IsKept b.cast r M
    kept = run_keeps leaders maps b r es M read.runs

    role_here : (local_of old.state).role ≡ r
    role_here = ap (λ (s : LocalState). s.role) read.shows.local ∙ kept.role

    pub own_role : (local_of old.state).role ≡ old.role.now
    own_role = role_here ∙ sym read.role

    pub tells_here : (a : Act) → Tells b.cast (local_of old.state) a
    tells_here a = subst (λ s. Tells b.cast s a) (sym read.shows.local) (kept_tells leaders maps b r M a kept)

    pub misfits_here : (a : Act) → MisfitsStay (local_of old.state) a
    misfits_here a = subst (λ s. MisfitsStay s a) (sym read.shows.local) (kept_misfits b.cast r M a kept)

    -- an entry of another role was believed
    pub read_believed : (q : Role) → doer e ≡ Some q → role_eq q old.role.now ≡ false → (new : Monitor)
        → Believes (setting b) old.role.now old.mail (book_of old.book) old.updates.items e new.mail new.updates.items
        → new.bundle.now ≡ old.bundle.now → new.role.now ≡ old.role.now → new.state ≡ old.state → new.book ≡ old.book → new.changes ≡ old.changes
        → new.fed ≡ old.fed + 1 → new.judged ≡ old.judged → HasRead b r new (es ++ e ∷ [])
    read_believed q does other new believes bundle role state book changes fed judged =
        let acts = act_there e q does in
        let apart : role_eq q r ≡ false = ap (role_eq q) (sym read.role) ∙ other in
        let N = monitor_state (local_of old.state) (believes.left M.mail) (book_of old.book) old.changes new.updates.items in
        read_next new N
        (ap₂ (judged_by (setting b) M e) does acts.1
        ∙ cond-false (role_eq q M.local.role) (own_entry (setting b) M e acts.0) (Some (others_entry (setting b) M e)) (ap (role_eq q) kept.role ∙ apart)
        ∙ ap (λ X. Some (others_entry (setting b) X e)) (sym (state_is b old M read.shows))
        ∙ ap Some (believes.gives (local_of old.state) M.mail old.changes own_role))
        (record {
          local = ap local_of state;
          mail = believes.holds M.mail read.shows.mail;
          book = ap book_of book;
          changes = changes;
          updates = refl;
          script = subst (λ k. HoldsScript b k new.changes) (sym book) (subst (HoldsScript b old.book) (sym changes) read.shows.script);
        })
        (ap plain bundle ∙ read.bundle) (role ∙ read.role) fed
        (judged ∙ read.judged ∙ sym (none_more r es e (ap (λ o. option_map_or (λ p. role_eq p r) o false) does ∙ apart)))

    module _ (q : Role) (does : doer e ≡ Some q) (own : role_eq q old.role.now ≡ true) (a : Act) (acts : act_of e ≡ Some a) where
      mine : role_eq q r ≡ true
      mine = ap (role_eq q) (sym read.role) ∙ own

      mon_own : mon (setting b) M e ≡ own_entry (setting b) M e a
      mon_own =
          ap₂ (judged_by (setting b) M e) does acts
          ∙ cond-true (role_eq q M.local.role) (own_entry (setting b) M e a) (Some (others_entry (setting b) M e)) (ap (role_eq q) kept.role ∙ mine)

      -- an entry of the role was kept
      pub read_kept : (new : Monitor)
          → KeepsOwn (setting b) (local_of old.state) old.mail (book_of old.book) old.updates.items e a (local_of new.state) new.mail new.updates.items
          → new.bundle.now ≡ old.bundle.now → new.role.now ≡ old.role.now → new.book ≡ old.book → new.changes ≡ old.changes
          → new.fed ≡ old.fed + 1 → new.judged ≡ old.judged + 1 → HasRead b r new (es ++ e ∷ [])
      read_kept new keeps bundle role book changes fed judged =
          let N = monitor_state (local_of new.state) (keeps.left M.mail) (book_of old.book) old.changes new.updates.items in
          read_next new N
          (mon_own ∙ ap (λ X. own_entry (setting b) X e a) (sym (state_is b old M read.shows))
          ∙ keeps.keeps M.mail old.changes kept.distinct read.shows.mail)
          (record {
            local = refl;
            mail = keeps.holds M.mail kept.distinct read.shows.mail;
            book = ap book_of book;
            changes = changes;
            updates = refl;
            script = subst (λ k. HoldsScript b k new.changes) (sym book) (subst (HoldsScript b old.book) (sym changes) read.shows.script);
          })
          (ap plain bundle ∙ read.bundle) (role ∙ read.role) fed
          (omega (arith, judged, read.judged, own_more r es e (ap (λ o. option_map_or (λ p. role_eq p r) o false) does ∙ mine)))

      -- an entry of the role wasn't kept
      pub read_refused : RefusesOwn (setting b) (local_of old.state) old.mail (book_of old.book) old.updates.items e a → mon_run b r (es ++ e ∷ []) ≡ None
      read_refused refuses =
          run_more (setting b) es e (mon_start b r) M read.runs ∙ mon_own ∙ ap (λ X. own_entry (setting b) X e a) (sym (state_is b old M read.shows))
          ∙ refuses.refuses M.mail old.changes read.shows.mail

-- where nothing was changed the same entries were read
pub read_same : (b : PlainBundle) (r : Role) (old new : Monitor) (es : List Entry) → HasRead b r old es → local_of new.state ≡ local_of old.state → SameMessages old.mail new.mail
    → new.updates.items ≡ old.updates.items → new.book ≡ old.book → new.changes ≡ old.changes → new.bundle.now ≡ old.bundle.now → new.role.now ≡ old.role.now
    → new.fed ≡ old.fed → new.judged ≡ old.judged → HasRead b r new es
read_same b r old new es read local mail updates book changes bundle role fed judged = record {
  sound = read.sound;
  bundle = ap plain bundle ∙ read.bundle;
  role = role ∙ read.role;
  state = read.state;
  runs = read.runs;
  shows = record {
    local = local ∙ read.shows.local;
    mail = record { at = λ k. mail.at k ∙ read.shows.mail.at k };
    book = ap book_of book ∙ read.shows.book;
    changes = changes ∙ read.shows.changes;
    updates = updates ∙ read.shows.updates;
    script = subst (λ k. HoldsScript b k new.changes) (sym book) (subst (HoldsScript b old.book) (sym changes) read.shows.script);
  };
  fed = fed ∙ read.fed;
  judged = judged ∙ read.judged;
}

-- the counts stay within 64 bits
pub fed_fits : (b : PlainBundle) (r : Role) (monitor : Monitor) (es : List Entry) → HasRead b r monitor es → length es < 18446744073709551615 → monitor.fed + 1 < 18446744073709551616
fed_fits b r monitor es read few = omega (arith, read.fed, few)

pub judged_fits : (b : PlainBundle) (r : Role) (monitor : Monitor) (es : List Entry) → HasRead b r monitor es → length es < 18446744073709551615 → monitor.judged + 1 < 18446744073709551616
judged_fits b r monitor es read few = omega (arith, read.judged, few_own r es, few)

-- the roles of the rules that may run are in the cast
pub rules_in_cast : MentionsAreRoles → (b : PlainBundle) → IsSound b → RulesInCast b
rules_in_cast mentioned b sound = λ m rule at q in_it.
    let fair : IsSoundRule b.cast rule = all_at (IsSoundRule b.cast) b.rules m rule sound.rules at in
    all_member (λ r. member r b.cast) (mentions rule.body) q fair.in_cast (sym (mentioned q rule.body) ∙ in_it)
