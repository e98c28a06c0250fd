-- Each run of the network is one of marks, and its visible part is played by their running terms.
use Rattle.std.proofs.Common.{◌≡◌, ◌⊎◌, ℕ, suc, ◌≤◌, List, [], ◌∷◌, Bool, true, false, ◌&&◌, not, if◌then◌else◌, nat_le, Option, Some, None, slice_get, option_and_then, refl, sym, ap, ◌∙◌, subst, inl, inr, ⊎_elim, arith, le_refl, le_trans}
use Rattle.std.proofs.lemmas.Bool.{cases_Bool, cond-true, cond-false, both_ways, and_from, not_from_true, not_from_false}
use Rattle.dioc_terms.specs.declared.names.Role.{Role}
use Rattle.dioc_terms.specs.declared.names.Index.{Index}
use Rattle.dioc_terms.specs.declared.processes.Key.{Key}
use Rattle.dioc_terms.specs.declared.processes.ScopeHead.{ScopeHead}
use Rattle.dioc_terms.specs.declared.entries.Chosen.TheVariants as chosen
use Rattle.dioc_terms.specs.declared.entries.Entry.{Entry}
use Rattle.dioc_terms.specs.declared.entries.Entry.TheVariants as entry
use Rattle.dioc_terms.specs.Plain.{PlainRule}
use Rattle.dioc_terms.specs.declared.bundles.Change.{Change}
use Rattle.dioc_terms.specs.declared.bundles.Timed.{Timed}
use Rattle.dioc_terms.specs.Plain.{Setting}
use Rattle.dioc_terms.specs.Equality.{role_eq, entry_eq}
use Rattle.dioc_terms.specs.Messages.{is_aux, doer, visible}
use Rattle.dioc_terms.specs.Attempts.{Attempt, Stuck, Does}
use Rattle.dioc_terms.specs.Processes.{Process, Load}
use Rattle.dioc_terms.specs.Rules.{apply}
use Rattle.dioc_terms.specs.Terms.{distinct_roles}
use Rattle.process_steps.specs.Steps.{Deed, Puts, Takes, Sets, Inputs, Picks, Chooses, Decision, entry_of, store_after, step}
use Rattle.global_steps.specs.Running.{Running}
use Rattle.global_steps.specs.Follow.{BookChoice, Effect, State, affected, book_choice, change_entry, shows, updates_after, updated, plays, follow, follow_change, play_from}
use Rattle.network_steps.specs.Network.{Network, decision, pending_at, visible_after, network_step, run_from}
use Rattle.marked_laws.proofs.Equality.{entry_itself}
use Rattle.marked_laws.proofs.Found.{found}
use Rattle.marked_laws.proofs.Keeps.{new_step}
use Rattle.marked_laws.proofs.Mails.{mail_step, mail_fits}
use Rattle.marked_laws.proofs.Mark.{Mark, run, mail, At, place, Fine}
use Rattle.marked_laws.proofs.MarkSteps.{Steps, doer_of, SoundAnswers, given_by, New}
use Rattle.marked_laws.proofs.Networks.{RoleStep, ChangeStep, network_cases, given_same, after_deed, after_change}
use Rattle.marked_laws.proofs.Shapes.{none_some, some_same}
use Rattle.marked_laws.proofs.Norm.{norm, alike_step}
use Rattle.marked_laws.proofs.Others.{place_other}
use Rattle.marked_laws.proofs.Pending.{loads, queued, pending_is, pending_step}
use Rattle.marked_laws.proofs.Plays.{effect_store, run_step, aux_step}
use Rattle.marked_laws.proofs.Roles.{role_cases, updated_here, updated_there}
use Rattle.marked_laws.proofs.Stays.{fine_step}

-- what the book answers of a scope in a network, given the stores as they are
abbrev pub answers_in : Setting → Network → ScopeHead → BookChoice
answers_in b N head = book_choice b.rules N.book head (N.stores head.leader)

-- the state of the play that the mark is in
abbrev pub state_of : Network → Mark → State
state_of N M = record { running = run M; stores = N.stores; book = N.book; updates = N.updates; changes = N.changes; entries = N.visible }

-- The network is that of the mark.
pub record Marks (cast : List Role) (N : Network) (M : Mark) : Type 0 where
  pub fine : Fine cast M
  pub places : (q : Role) → norm (N.processes q) ≡ norm (place cast M q)
  pub mails : (k : Key) → loads k N.pending ≡ queued (mail M k)
  pub old : (n : Index) → At n M → n.epoch ≤ N.updates

-- the updates don't become fewer
grows : (e : Entry) (updates : ℕ) → updates ≤ updates_after e updates
grows (entry.Scope i r (chosen.Rule name n)) updates = omega arith
grows (entry.Scope i r chosen.Keep) updates = le_refl updates
grows (entry.Put k n) updates = le_refl updates
grows (entry.Take k x) updates = le_refl updates
grows (entry.Set i r x v) updates = le_refl updates
grows (entry.Input i r x v) updates = le_refl updates
grows (entry.Pick i r b) updates = le_refl updates
grows (entry.Add name) updates = le_refl updates
grows (entry.Drop name) updates = le_refl updates
grows (entry.Env key v) updates = le_refl updates

-- an auxiliary entry is no update
aux_updates : (e : Entry) (updates : ℕ) → is_aux e ≡ true → updates_after e updates ≡ updates
aux_updates (entry.Scope i r (chosen.Rule name n)) updates h = absurd (both_ways false refl h)
aux_updates (entry.Scope i r chosen.Keep) updates h = refl
aux_updates (entry.Put k n) updates h = refl
aux_updates (entry.Take k x) updates h = refl
aux_updates (entry.Set i r x v) updates h = refl
aux_updates (entry.Input i r x v) updates h = refl
aux_updates (entry.Pick i r b) updates h = refl
aux_updates (entry.Add name) updates h = refl
aux_updates (entry.Drop name) updates h = refl
aux_updates (entry.Env key v) updates h = refl

-- an index of the next update isn't one of those so far
not_new : (n : Index) (updates : ℕ) → n.epoch ≤ updates → New updates n → ⊥
not_new n updates h new = omega (arith, h, new)

-- a role's function that is set to what it gives is the same
updated_same : {A : Type 0} (r : Role) (a : A) (f : Role → A) → a ≡ f r → updated r a f ≡ f
updated_same r a f h = λ i q. each q i
  where
    each : (q : Role) → updated r a f q ≡ f q
    each q = ⊎_elim (λ is. subst (λ y. updated r a f y ≡ f y) (sym is) (updated_here r a f ∙ h)) (λ differs. updated_there r a f q differs) (role_cases q r)

-- an entry of a role in a play
abbrev role_state : State → Role → Entry → Attempt Effect Running → Option State
role_state S r e Stuck = None
role_state S r e (Does effect G) =
    Some (record {
      running = G;
      stores = updated r (affected effect (S.stores r)) S.stores;
      book = S.book;
      updates = updates_after e S.updates;
      changes = S.changes;
      entries = suc S.entries;
    })

follow_deed : (b : Setting) (S : State) (d : Deed) → follow b S (entry_of d)
    ≡ role_state S (doer_of d) (entry_of d) (plays b.cast S.stores (λ head. book_choice b.rules S.book head (S.stores head.leader)) S.updates S.running (entry_of d))
follow_deed b S (Puts k l) = refl
follow_deed b S (Takes k x l) = refl
follow_deed b S (Sets i r x v) = refl
follow_deed b S (Inputs i r x v) = refl
follow_deed b S (Picks i r t) = refl
follow_deed b S (Chooses i r c) = refl

follow_nobody : (b : Setting) (S : State) (e : Entry) → doer e ≡ None → follow b S e ≡ follow_change b S e
follow_nobody b S (entry.Add name) h = refl
follow_nobody b S (entry.Drop name) h = refl
follow_nobody b S (entry.Env key v) h = refl
follow_nobody b S e h = absurd (none_some (sym h))

nobody_visible : (e : Entry) → doer e ≡ None → is_aux e ≡ false
nobody_visible (entry.Add name) h = refl
nobody_visible (entry.Drop name) h = refl
nobody_visible (entry.Env key v) h = refl
nobody_visible e h = absurd (none_some (sym h))

abbrev script_state : Setting → State → Entry → Option Timed → Option State
script_state b S e None = None
script_state b S e (Some timed) =
    if shows b.rules e timed.change && nat_le timed.after S.entries
    then Some (record {
      running = S.running;
      stores = S.stores;
      book = apply b.rules S.book timed.change;
      updates = S.updates;
      changes = suc S.changes;
      entries = suc S.entries;
    })
    else None

follow_script : (b : Setting) (S : State) (e : Entry) → follow_change b S e ≡ script_state b S e (slice_get b.script S.changes)
follow_script b S e = refl

abbrev is_shown : Entry → Option Entry → Bool
is_shown e None = false
is_shown e (Some d) = entry_eq e d

shows_is : (rules : List PlainRule) (e : Entry) (c : Change) → shows rules e c ≡ is_shown e (change_entry rules c)
shows_is rules e c = refl

-- one step of the network, and the mark after it
pub record Moved (b : Setting) (N : Network) (M : Mark) (e : Entry) (N' : Network) : Type 0 where
  pub mark : Mark
  pub marks : Marks b.cast N' mark
  -- an auxiliary step changes nothing in the play, and another one is played
  pub shown : ((is_aux e ≡ true) × (state_of N' mark ≡ state_of N M)) ⊎ ((is_aux e ≡ false) × (follow b (state_of N M) e ≡ Some (state_of N' mark)))
  -- it is a step of the mark or a change
  pub why : ((d : Deed) × (e ≡ entry_of d) × Steps b.cast N.stores (answers_in b N) N.updates M d mark) ⊎ ((doer e ≡ None) × (mark ≡ M))

module _ (b : Setting) (unique : distinct_roles b.cast ≡ true) (sound : (N : Network) → SoundAnswers b.cast (answers_in b N) N.updates) where
  deed_marks : (N : Network) (M M' : Mark) (r : Role) (d : Deed) (P : Process) → Marks b.cast N M → Steps b.cast N.stores (answers_in b N) N.updates M d M'
      → norm P ≡ norm (place b.cast M' r) → doer_of d ≡ r → Marks b.cast (after_deed N r d P) M'
  deed_marks N M M' r d P marks steps same who = record {
    fine = fine_step b.cast N.stores (answers_in b N) N.updates (sound N) steps marks.fine (λ n at. not_new n N.updates (marks.old n at));
    places = λ q. ⊎_elim
        (λ is. subst (λ y. norm (updated r P N.processes y) ≡ norm (place b.cast M' y)) (sym is) (ap norm (updated_here r P N.processes) ∙ same))
        (λ differs. ap norm (updated_there r P N.processes q differs) ∙ marks.places q
        ∙ ap norm (sym (place_other b.cast N.stores (answers_in b N) N.updates steps marks.fine q (ap (role_eq q) who ∙ differs))))
        (role_cases q r);
    mails = λ k. pending_step d (mail M) N.pending (mail_fits b.cast N.stores (answers_in b N) N.updates steps marks.fine) marks.mails k
        ∙ ap queued (sym (mail_step b.cast N.stores (answers_in b N) N.updates steps marks.fine k));
    old = λ n at. ⊎_elim
        (λ was. le_trans (marks.old n was) (grows (entry_of d) N.updates))
        (λ new. subst (λ m. n.epoch ≤ m) (sym new.1) (subst (λ m. n.epoch ≤ m) new.0 (le_refl n.epoch)))
        (new_step b.cast N.stores (answers_in b N) N.updates steps n at);
  }

  deed_shown : (N : Network) (M M' : Mark) (d : Deed) (P : Process) → Marks b.cast N M → Steps b.cast N.stores (answers_in b N) N.updates M d M'
      → ((is_aux (entry_of d) ≡ true) × (state_of (after_deed N (doer_of d) d P) M' ≡ state_of N M))
      ⊎ ((is_aux (entry_of d) ≡ false) × (follow b (state_of N M) (entry_of d) ≡ Some (state_of (after_deed N (doer_of d) d P) M')))
  deed_shown N M M' d P marks steps = ⊎_elim
      (λ aux.
      let same = aux_step b.cast N.stores (answers_in b N) N.updates steps aux in
      let stores_same : updated (doer_of d) (store_after d (N.stores (doer_of d))) N.stores ≡ N.stores =
      updated_same (doer_of d) (store_after d (N.stores (doer_of d))) N.stores (same.1 (N.stores (doer_of d))) in
      let visible_same : visible_after (entry_of d) N.visible ≡ N.visible = cond-true (is_aux (entry_of d)) N.visible (suc N.visible) aux in
      inl (
        aux,
        λ i. record {
          running = same.0 i;
          stores = stores_same i;
          book = N.book;
          updates = aux_updates (entry_of d) N.updates aux i;
          changes = N.changes;
          entries = visible_same i;
        },
      ))
      (λ shown.
      let visible_more : visible_after (entry_of d) N.visible ≡ suc N.visible = cond-false (is_aux (entry_of d)) N.visible (suc N.visible) shown in
      inr (
        shown,
        follow_deed b (state_of N M) d
            ∙ ap (role_state (state_of N M) (doer_of d) (entry_of d)) (run_step b.cast N.stores (answers_in b N) N.updates steps marks.fine shown)
            ∙ ap Some (λ i. record {
              running = run M';
              stores = updated (doer_of d) (effect_store d (N.stores (doer_of d)) i) N.stores;
              book = N.book;
              updates = updates_after (entry_of d) N.updates;
              changes = N.changes;
              entries = sym visible_more i;
            }),
      ))
      (cases_Bool (is_aux (entry_of d)))

  role_moves : (N : Network) (M : Mark) (e : Entry) (N' : Network) → Marks b.cast N M → RoleStep b N e N' → Moved b N M e N'
  role_moves N M e N' marks s =
      let mails : Key → Option Load = λ k. pending_at k N.pending in
      let decide : ScopeHead → Decision = λ head. decision b.cast N.updates head (book_choice b.rules N.book head (N.stores s.role)) in
      let steps : step s.role (N.stores s.role) (N.processes s.role) s.act (given_by mails decide s.act) ≡ Does s.deed s.next =
      ap (step s.role (N.stores s.role) (N.processes s.role) s.act) (sym (given_same b N s.role s.act)) ∙ s.steps in
      let alike = alike_step s.role (N.stores s.role) s.act (given_by mails decide s.act) (N.processes s.role) (place b.cast M s.role) (marks.places s.role) steps in
      let here = found b.cast N.stores (answers_in b N) N.updates unique M marks.fine mails decide s.role
      (λ j at. pending_is j N.pending (mail M j) (marks.mails j))
      (λ head is. ap (λ r. decision b.cast N.updates head (book_choice b.rules N.book head (N.stores r))) (sym is))
      s.act alike.1 in
      let moved : Moved b N M (entry_of s.deed) (after_deed N s.role s.deed s.next) = record {
        mark = here.0;
        marks = deed_marks N M here.0 s.role s.deed s.next marks here.1 (alike.2 ∙ here.2) here.3;
        shown = subst (λ r. ((is_aux (entry_of s.deed) ≡ true) × (state_of (after_deed N r s.deed s.next) here.0 ≡ state_of N M))
            ⊎ ((is_aux (entry_of s.deed) ≡ false) × (follow b (state_of N M) (entry_of s.deed) ≡ Some (state_of (after_deed N r s.deed s.next) here.0))))
            here.3 (deed_shown N M here.0 s.deed s.next marks here.1);
        why = inl (s.deed, refl, here.1);
      } in
      subst (λ n. Moved b N M e n) (sym s.gives) (subst (λ f. Moved b N M f (after_deed N s.role s.deed s.next)) (sym s.shows) moved)

  change_moves : (N : Network) (M : Mark) (e : Entry) (N' : Network) → Marks b.cast N M → ChangeStep b N e N' → Moved b N M e N'
  change_moves N M e N' marks s =
      let is : (shows b.rules e s.timed.change && nat_le s.timed.after N.visible) ≡ true =
      and_from (shows b.rules e s.timed.change) (nat_le s.timed.after N.visible)
      (shows_is b.rules e s.timed.change ∙ ap (is_shown e) s.shows ∙ entry_itself e) s.due in
      let moved : Moved b N M e (after_change b N s.timed) = record {
        mark = M;
        marks = record { fine = marks.fine; places = marks.places; mails = marks.mails; old = marks.old };
        shown = inr (
          nobody_visible e s.nobody,
          follow_nobody b (state_of N M) e s.nobody ∙ follow_script b (state_of N M) e
              ∙ ap (script_state b (state_of N M) e) s.stands
              ∙ cond-true (shows b.rules e s.timed.change && nat_le s.timed.after N.visible) (Some (state_of (after_change b N s.timed) M)) None is,
        );
        why = inr (s.nobody, refl);
      } in
      subst (λ n. Moved b N M e n) (sym s.gives) moved

  -- a step of the network from a network of a mark
  pub moves : (N : Network) (M : Mark) (e : Entry) (N' : Network) → Marks b.cast N M → network_step b N e ≡ Some N' → Moved b N M e N'
  moves N M e N' marks h = ⊎_elim (λ s. role_moves N M e N' marks s) (λ s. change_moves N M e N' marks s) (network_cases b N e N' h)

  pub after_both : (f : Option Network) (es : List Entry) (N' : Network) → option_and_then (λ next. run_from b next es) f ≡ Some N'
      → (next : Network) × (f ≡ Some next) × (run_from b next es ≡ Some N')
  after_both None es N' h = absurd (none_some h)
  after_both (Some next) es N' h = (next, refl, h)

  -- a run of the network from a network of a mark: what is visible of it is played
  pub runs_explained : (H : List Entry) (N N' : Network) (M : Mark) → Marks b.cast N M → run_from b N H ≡ Some N'
      → (M' : Mark) × Marks b.cast N' M' × (play_from b (state_of N M) (visible H) ≡ Some (state_of N' M'))
  runs_explained [] N N' M marks h = (M, subst (λ n. Marks b.cast n M) (some_same h) marks, ap (λ n. Some (state_of n M)) (some_same h))
  runs_explained (e ∷ es) N N' M marks h =
      let parts = after_both (network_step b N e) es N' h in
      let moved = moves N M e parts.0 marks parts.1 in
      let rest = runs_explained es parts.0 N' moved.mark moved.marks parts.2 in (
        rest.0,
        rest.1,
        ⊎_elim
            (λ aux. ap (play_from b (state_of N M)) (cond-false (not (is_aux e)) (e ∷ visible es) (visible es) (not_from_true (is_aux e) aux.0))
            ∙ ap (λ S. play_from b S (visible es)) (sym aux.1) ∙ rest.2)
            (λ shown. ap (play_from b (state_of N M)) (cond-true (not (is_aux e)) (e ∷ visible es) (visible es) (not_from_false (is_aux e) shown.0))
            ∙ ap (option_and_then (λ next. play_from b next (visible es))) shown.1 ∙ rest.2)
            moved.shown,
      )
