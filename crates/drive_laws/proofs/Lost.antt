-- Nothing is lost, for networks: each is that of a mark, and so what holds of marks holds of it.
use Rattle.std.proofs.Common.{◌≡◌, ◌≤◌, ◌<◌, ℕ, suc, ◌+◌, ◌*◌, List, [], ◌∷◌, length, Bool, true, false, ◌&&◌, not, nat_le, if◌then◌else◌, Option, Some, None, IsSome, slice_get, option_and_then, refl, sym, ap, ◌∙◌, subst, ⊎_elim, arith}
use Rattle.std.proofs.lemmas.Bool.{and_parts, cases_Bool, cond-true, cond-false, both_ways, not_from_true, not_from_false}
use Rattle.dioc_terms.specs.declared.names.Role.{Role}
use Rattle.dioc_terms.specs.declared.processes.Key.{Key}
use Rattle.dioc_terms.specs.declared.processes.ScopeHead.{ScopeHead}
use Rattle.dioc_terms.specs.declared.entries.Act.{Act}
use Rattle.dioc_terms.specs.declared.entries.Entry.{Entry}
use Rattle.dioc_terms.specs.declared.entries.Entry.TheVariants as entry
use Rattle.dioc_terms.specs.declared.bundles.Timed.{Timed}
use Rattle.dioc_terms.specs.Equality.{entry_eq, member}
use Rattle.dioc_terms.specs.Attempts.{Attempt, Stuck, Does}
use Rattle.dioc_terms.specs.Messages.{is_aux, doer, act_of, visible}
use Rattle.dioc_terms.specs.Plain.{PlainBundle, Setting, setting}
use Rattle.dioc_terms.specs.Processes.{Process, Load}
use Rattle.dioc_terms.specs.Rules.{apply}
use Rattle.dioc_terms.specs.Terms.{distinct_roles}
use Rattle.process_steps.specs.Steps.{Deed, Decision, entry_of, step}
use Rattle.global_steps.specs.Running.{Running}
use Rattle.global_steps.specs.Follow.{Effect, State, affected, book_choice, change_entry, shows, updates_after, updated, plays, follow, follow_role, follow_change, play, play_from}
use Rattle.global_steps.specs.Settled.{Settled, SettledAt, nobody}
use Rattle.marked_laws.specs.Laws.{IsSound}
use Rattle.network_steps.specs.Network.{Network, NextNetwork, act_step, change_step, decision, pending_at, network_after, network_start, network_step, network_run, run_from}
use Rattle.marked_laws.proofs.Choices.{cast_unique, sound_answers}
use Rattle.marked_laws.proofs.Equality.{entry_itself}
use Rattle.marked_laws.proofs.Mark.{Mark, Still, run, mail, place, Order}
use Rattle.marked_laws.proofs.MarkSteps.{SoundAnswers, given_by}
use Rattle.marked_laws.proofs.Networks.{after_deed, deed_outcome, given_same, after_change, entry_outcome, script_outcome}
use Rattle.marked_laws.proofs.Norm.{alike_step}
use Rattle.marked_laws.proofs.Orders.{order_step}
use Rattle.marked_laws.proofs.Pending.{pending_is}
use Rattle.marked_laws.proofs.Premise.{Known, proper_text, text_epoch}
use Rattle.marked_laws.proofs.Shapes.{none_some, some_same, if_some}
use Rattle.marked_laws.proofs.Simulate.{Marks, Moved, state_of, answers_in, moves, after_both}
use Rattle.marked_laws.proofs.Whole.{stranger}
use Rattle.drive_laws.specs.Laws.{IsQuiet, Readiness, AuxiliaryEnds}
use Rattle.drive_laws.proofs.Lessens.{left, lessens, grows}
use Rattle.drive_laws.proofs.Quiet.{NoAux, none_ended}
use Rattle.drive_laws.proofs.Ready.{Calm, ready}
use Rattle.drive_laws.proofs.Seals.{Sealed, sealed_step}

-- The network is that of the mark, with all three invariants.
pub record Placed (b : Setting) (N : Network) (M : Mark) : Type 0 where
  pub marks : Marks b.cast N M
  pub order : Order b.cast M
  pub sealed : Sealed b.cast M

-- an auxiliary entry is a role's
aux_doer : (e : Entry) → is_aux e ≡ true → doer e ≡ None → ⊥
aux_doer (entry.Put k n) h k' = none_some (sym k')
aux_doer (entry.Take k x) h k' = none_some (sym k')
aux_doer (entry.Set i r x v) h k' = both_ways false refl h
aux_doer (entry.Input i r x v) h k' = both_ways false refl h
aux_doer (entry.Pick i r b) h k' = both_ways false refl h
aux_doer (entry.Scope i r c) h k' = both_ways false refl h
aux_doer (entry.Add name) h k' = both_ways false refl h
aux_doer (entry.Drop name) h k' = both_ways false refl h
aux_doer (entry.Env key v) h k' = both_ways false refl h

-- what is counted over a run
count_none : (l w : ℕ) → 0 + l ≤ l + 0 * w
count_none l w = omega arith

count_aux : (n l m k w : ℕ) → n + k ≤ m + w → m < l → suc n + k ≤ l + w
count_aux n l m k w h less = omega (arith, h, less)

count_shown : (n l m k v c : ℕ) → n + k ≤ m + v * suc c → m ≤ l + c → suc n + k ≤ l + suc v * suc c
count_shown n l m k v c h more = omega (arith, h, more)

module _ (b : Setting) (unique : distinct_roles b.cast ≡ true) (sound : (N : Network) → SoundAnswers b.cast (answers_in b N) N.updates) where
  pub moved_placed : (N : Network) (M : Mark) (e : Entry) (N' : Network) → Placed b N M → (moved : Moved b N M e N') → Placed b N' moved.mark
  moved_placed N M e N' placed moved = record {
    marks = moved.marks;
    order = ⊎_elim (λ s. order_step b.cast N.stores (answers_in b N) N.updates s.2 placed.marks.fine placed.order)
        (λ still. subst (Order b.cast) (sym still.1) placed.order) moved.why;
    sealed = ⊎_elim (λ s. sealed_step b.cast N.stores (answers_in b N) N.updates s.2 placed.marks.fine placed.sealed)
        (λ still. subst (Sealed b.cast) (sym still.1) placed.sealed) moved.why;
  }

  moved_lessens : (N : Network) (M : Mark) (e : Entry) (N' : Network) → Placed b N M → (moved : Moved b N M e N') → is_aux e ≡ true → left b.cast moved.mark < left b.cast M
  moved_lessens N M e N' placed moved aux = ⊎_elim
      (λ s. lessens b.cast N.stores (answers_in b N) N.updates s.2 placed.marks.fine (ap is_aux (sym s.1) ∙ aux))
      (λ still. absurd (aux_doer e aux still.0)) moved.why

  moved_grows : (N : Network) (M : Mark) (e : Entry) (N' : Network) → (moved : Moved b N M e N') → is_aux e ≡ false
      → left b.cast moved.mark ≤ left b.cast M + 6 * length b.cast
  moved_grows N M e N' moved shown = ⊎_elim
      (λ s. grows b.cast N.stores (answers_in b N) N.updates s.2 (ap is_aux (sym s.1) ∙ shown))
      (λ still. subst (λ X. left b.cast X ≤ left b.cast M + 6 * length b.cast) (sym still.1) (omega arith)) moved.why

  -- a run ends in a network of a mark; what is visible of it is played; and its length is bounded
  pub runs_placed : (H : List Entry) (N N' : Network) (M : Mark) → Placed b N M → run_from b N H ≡ Some N'
      → (M' : Mark) × Placed b N' M' × (play_from b (state_of N M) (visible H) ≡ Some (state_of N' M'))
      × (length H + left b.cast M' ≤ left b.cast M + length (visible H) * suc (6 * length b.cast))
  runs_placed [] N N' M placed h = (
    M,
    subst (λ n. Placed b n M) (some_same h) placed,
    ap (λ n. Some (state_of n M)) (some_same h),
    count_none (left b.cast M) (suc (6 * length b.cast)),
  )
  runs_placed (e ∷ es) N N' M placed h =
      let parts = after_both b unique sound (network_step b N e) es N' h in
      let moved : Moved b N M e parts.0 = moves b unique sound N M e parts.0 placed.marks parts.1 in
      let rest = runs_placed es parts.0 N' moved.mark (moved_placed N M e parts.0 placed moved) parts.2 in (
        rest.0,
        rest.1,
        ⊎_elim
            (λ aux. ap (play_from b (state_of N M)) (cond-false (not (is_aux e)) (e ∷ visible es) (visible es) (not_from_true (is_aux e) aux.0))
            ∙ ap (λ S. play_from b S (visible es)) (sym aux.1) ∙ rest.2)
            (λ shown. ap (play_from b (state_of N M)) (cond-true (not (is_aux e)) (e ∷ visible es) (visible es) (not_from_false (is_aux e) shown.0))
            ∙ ap (option_and_then (λ next. play_from b next (visible es))) shown.1 ∙ rest.2)
            moved.shown,
        ⊎_elim
            (λ aux. subst (λ l. suc (length es) + left b.cast rest.0 ≤ left b.cast M + length l * suc (6 * length b.cast))
            (sym (cond-false (not (is_aux e)) (e ∷ visible es) (visible es) (not_from_true (is_aux e) aux.0)))
            (count_aux (length es) (left b.cast M) (left b.cast moved.mark) (left b.cast rest.0) (length (visible es) * suc (6 * length b.cast)) rest.3
            (moved_lessens N M e parts.0 placed moved aux.0)))
            (λ shown. subst (λ l. suc (length es) + left b.cast rest.0 ≤ left b.cast M + length l * suc (6 * length b.cast))
            (sym (cond-true (not (is_aux e)) (e ∷ visible es) (visible es) (not_from_false (is_aux e) shown.0)))
            (count_shown (length es) (left b.cast M) (left b.cast moved.mark) (left b.cast rest.0) (length (visible es)) (6 * length b.cast) rest.3
            (moved_grows N M e parts.0 moved shown.0)))
            moved.shown,
      )

-- what a step of the network's role gives, by what its process does
act_does : (b : Setting) (N : Network) (r : Role) (a : Act) (d : Deed) (P : Process)
    → step r (N.stores r) (N.processes r) a (given_by (λ k. pending_at k N.pending) (λ head. decision b.cast N.updates head (book_choice b.rules N.book head (N.stores r))) a) ≡ Does d P
    → act_step b N r a ≡ Some (record { entry = entry_of d; network = after_deed N r d P })
act_does b N r a d P h = ap (deed_outcome N r) (ap (step r (N.stores r) (N.processes r) a) (given_same b N r a) ∙ h)

-- an entry of a role in a play
abbrev role_state : State → Role → Entry → Attempt Effect Running → Option State
role_state S r e Stuck = None
role_state S r e (Does effect G) =
    Some (record {
      running = G;
      stores = updated r (affected effect (S.stores r)) S.stores;
      book = S.book;
      updates = updates_after e S.updates;
      changes = S.changes;
      entries = suc S.entries;
    })

role_plays : (S : State) (r : Role) (e : Entry) (m : Attempt Effect Running) (T : State) → role_state S r e m ≡ Some T → (x : Effect) × (K : Running) × (m ≡ Does x K)
role_plays S r e Stuck T h = absurd (none_some h)
role_plays S r e (Does x K) T h = (x, K, refl)

-- what the entry of a role is to a play, to its being settled and to the network, by its role and its act
pub follow_by : (b : Setting) (S : State) (e : Entry) (r : Role) → doer e ≡ Some r → follow b S e ≡ follow_role b S r e
follow_by b S (entry.Put k n) r h = ap (λ q. follow_role b S q (entry.Put k n)) (some_same h)
follow_by b S (entry.Take k x) r h = ap (λ q. follow_role b S q (entry.Take k x)) (some_same h)
follow_by b S (entry.Set i s x v) r h = ap (λ q. follow_role b S q (entry.Set i s x v)) (some_same h)
follow_by b S (entry.Input i s x v) r h = ap (λ q. follow_role b S q (entry.Input i s x v)) (some_same h)
follow_by b S (entry.Pick i s t) r h = ap (λ q. follow_role b S q (entry.Pick i s t)) (some_same h)
follow_by b S (entry.Scope i s c) r h = ap (λ q. follow_role b S q (entry.Scope i s c)) (some_same h)
follow_by b S (entry.Add name) r h = absurd (none_some h)
follow_by b S (entry.Drop name) r h = absurd (none_some h)
follow_by b S (entry.Env key v) r h = absurd (none_some h)

-- an entry of a role that is played is played by the running term
pub follow_plays : (b : Setting) (S : State) (e : Entry) (r : Role) (T : State) → doer e ≡ Some r → follow b S e ≡ Some T
    → (x : Effect) × (K : Running) × (plays b.cast S.stores (λ head. book_choice b.rules S.book head (S.stores head.leader)) S.updates S.running e ≡ Does x K)
follow_plays b S e r T who h =
    role_plays S r e (plays b.cast S.stores (λ head. book_choice b.rules S.book head (S.stores head.leader)) S.updates S.running e) T (sym (follow_by b S e r who) ∙ h)

abbrev SettledBy : Setting → State → Entry → Role → Type 0
SettledBy b S e r = SettledAt b.cast S.stores (λ head. book_choice b.rules S.book head (S.stores head.leader)) S.updates nobody S.running e r

settled_by : (b : Setting) (S : State) (e : Entry) (r : Role) → doer e ≡ Some r → Settled b S e → SettledBy b S e r
settled_by b S (entry.Put k n) r h s = subst (λ q. SettledBy b S (entry.Put k n) q) (some_same h) s
settled_by b S (entry.Take k x) r h s = subst (λ q. SettledBy b S (entry.Take k x) q) (some_same h) s
settled_by b S (entry.Set i q' x v) r h s = subst (λ q. SettledBy b S (entry.Set i q' x v) q) (some_same h) s
settled_by b S (entry.Input i q' x v) r h s = subst (λ q. SettledBy b S (entry.Input i q' x v) q) (some_same h) s
settled_by b S (entry.Pick i q' t) r h s = subst (λ q. SettledBy b S (entry.Pick i q' t) q) (some_same h) s
settled_by b S (entry.Scope i q' c) r h s = subst (λ q. SettledBy b S (entry.Scope i q' c) q) (some_same h) s
settled_by b S (entry.Add name) r h s = absurd (none_some h)
settled_by b S (entry.Drop name) r h s = absurd (none_some h)
settled_by b S (entry.Env key v) r h s = absurd (none_some h)

step_both : (b : Setting) (N : Network) (e : Entry) (q r : Role) (c a : Act) → Some q ≡ Some r → Some c ≡ Some a
    → network_after e (act_step b N q c) ≡ network_after e (act_step b N r a)
step_both b N e q r c a h k = ap (λ x. network_after e (act_step b N x c)) (some_same h) ∙ ap (λ x. network_after e (act_step b N r x)) (some_same k)

pub step_by : (b : Setting) (N : Network) (e : Entry) (r : Role) (a : Act) → doer e ≡ Some r → act_of e ≡ Some a
    → network_step b N e ≡ network_after e (act_step b N r a)
step_by b N (entry.Put k n) r a h g = step_both b N (entry.Put k n) _ r _ a h g
step_by b N (entry.Take k x) r a h g = step_both b N (entry.Take k x) _ r _ a h g
step_by b N (entry.Set i s x v) r a h g = step_both b N (entry.Set i s x v) _ r _ a h g
step_by b N (entry.Input i s x v) r a h g = step_both b N (entry.Input i s x v) _ r _ a h g
step_by b N (entry.Pick i s t) r a h g = step_both b N (entry.Pick i s t) _ r _ a h g
step_by b N (entry.Scope i s c) r a h g = step_both b N (entry.Scope i s c) _ r _ a h g
step_by b N (entry.Add name) r a h g = absurd (none_some h)
step_by b N (entry.Drop name) r a h g = absurd (none_some h)
step_by b N (entry.Env key v) r a h g = absurd (none_some h)

pub step_nobody : (b : Setting) (N : Network) (e : Entry) → doer e ≡ None → network_step b N e ≡ network_after e (change_step b N)
step_nobody b N (entry.Add name) h = refl
step_nobody b N (entry.Drop name) h = refl
step_nobody b N (entry.Env key v) h = refl
step_nobody b N e h = absurd (none_some (sym h))

pub follow_nobody : (b : Setting) (S : State) (e : Entry) → doer e ≡ None → follow b S e ≡ follow_change b S e
follow_nobody b S (entry.Add name) h = refl
follow_nobody b S (entry.Drop name) h = refl
follow_nobody b S (entry.Env key v) h = refl
follow_nobody b S e h = absurd (none_some (sym h))

-- the network after an entry that is exactly that of the outcome
pub after_that : (e : Entry) (o : Option NextNetwork) (f : Entry) (N : Network) → o ≡ Some (record { entry = f; network = N }) → entry_eq e f ≡ true
    → network_after e o ≡ Some N
after_that e o f N h is = ap (network_after e) h ∙ cond-true (entry_eq e f) (Some N) None is

some_is : {A : Type 0} (o : Option A) (a : A) → o ≡ Some a → IsSome o
some_is o a h = subst (λ x. IsSome x) (sym h) refl

abbrev script_state : Setting → State → Entry → Option Timed → Option State
script_state b S e None = None
script_state b S e (Some timed) =
    if shows b.rules e timed.change && nat_le timed.after S.entries
    then Some (record {
      running = S.running;
      stores = S.stores;
      book = apply b.rules S.book timed.change;
      updates = S.updates;
      changes = suc S.changes;
      entries = suc S.entries;
    })
    else None

script_stands : (b : Setting) (S : State) (e : Entry) (o : Option Timed) (T : State) → script_state b S e o ≡ Some T
    → (timed : Timed) × (o ≡ Some timed) × ((shows b.rules e timed.change && nat_le timed.after S.entries) ≡ true)
script_stands b S e None T h = absurd (none_some h)
script_stands b S e (Some timed) T h = (timed, refl, (if_some (shows b.rules e timed.change && nat_le timed.after S.entries) _ h).0)

abbrev is_shown : Entry → Option Entry → Bool
is_shown e None = false
is_shown e (Some d) = entry_eq e d

shown_that : (e : Entry) (o : Option Entry) → is_shown e o ≡ true → (d : Entry) × (o ≡ Some d) × (entry_eq e d ≡ true)
shown_that e None h = absurd (both_ways false refl h)
shown_that e (Some d) h = (d, refl, h)

-- a change that is played can come, whatever the roles do
pub change_ready : (b : Setting) (N : Network) (M : Mark) (e : Entry) (T : State) → doer e ≡ None → follow b (state_of N M) e ≡ Some T → IsSome (network_step b N e)
change_ready b N M e T who h =
    let S : State = state_of N M in
    let stands = script_stands b S e (slice_get b.script N.changes) T (sym (follow_nobody b S e who) ∙ h) in
    let timed : Timed = stands.0 in
    let parts = and_parts (shows b.rules e timed.change) (nat_le timed.after N.visible) stands.2 in
    let shown = shown_that e (change_entry b.rules timed.change) parts.0 in
    let outcome : change_step b N ≡ Some (record { entry = shown.0; network = after_change b N timed }) =
    ap (script_outcome b N) stands.1 ∙ ap (entry_outcome b N timed) shown.1
    ∙ cond-true (nat_le timed.after N.visible) (Some (record { entry = shown.0; network = after_change b N timed })) None parts.1 in
    some_is (network_step b N e) (after_change b N timed)
    (step_nobody b N e who ∙ after_that e (change_step b N) shown.0 (after_change b N timed) outcome shown.2)

module _ (b : Setting) (N : Network) (M : Mark) (placed : Placed b N M) where
  abbrev mails_in : Key → Option Load
  mails_in k = pending_at k N.pending

  abbrev decide_in : Role → ScopeHead → Decision
  decide_in r head = decision b.cast N.updates head (book_choice b.rules N.book head (N.stores r))

  -- in a quiet network no role has an auxiliary act left at its place in the mark
  quiet_free : IsQuiet b N → (q : Role) → NoAux b.cast N.stores mails_in decide_in q (place b.cast M q)
  quiet_free quiet q a aux can = ⊎_elim
      (λ in_it.
      let alike = alike_step q (N.stores q) a (given_by mails_in (decide_in q) a) (place b.cast M q) (N.processes q) (sym (placed.marks.places q)) can.2 in
      none_some (sym (quiet q a in_it aux) ∙ act_does b N q a can.0 alike.0 alike.1))
      (λ out. none_ended b.cast N.stores mails_in decide_in q (place b.cast M q) (stranger b.cast M placed.marks.fine q out) a aux can)
      (cases_Bool (member q b.cast))

  quiet_calm : IsQuiet b N → Calm b.cast N.stores (answers_in b N) N.updates mails_in decide_in (λ q head is. ap (λ r. decision b.cast N.updates head (book_choice b.rules N.book head (N.stores r))) (sym is)) nobody M
  quiet_calm quiet = record {
    fine = placed.marks.fine;
    order = placed.order;
    sealed = placed.sealed;
    agrees = λ j at. pending_is j N.pending (mail M j) (placed.marks.mails j);
    begun = λ q h. quiet_free quiet q;
    rests = λ q in_it out. quiet_free quiet q;
  }

  role_ready : IsQuiet b N → (e : Entry) (r : Role) (T : State) → doer e ≡ Some r → follow b (state_of N M) e ≡ Some T → Settled b (state_of N M) e → IsSome (network_step b N e)
  role_ready quiet e r T who h settled =
      let S : State = state_of N M in
      let played = role_plays S r e (plays b.cast N.stores (answers_in b N) N.updates (run M) e) T (sym (follow_by b S e r who) ∙ h) in
      let can = ready b.cast N.stores (answers_in b N) N.updates mails_in decide_in
      (λ q head is. ap (λ x. decision b.cast N.updates head (book_choice b.rules N.book head (N.stores x))) (sym is))
      M nobody (quiet_calm quiet) e r who (quiet_free quiet r) played.2 (settled_by b S e r who settled) in
      let a : Act = can.0 in
      let d : Deed = can.1 in
      let alike = alike_step r (N.stores r) a (given_by mails_in (decide_in r) a) (place b.cast M r) (N.processes r) (sym (placed.marks.places r)) (can.4).1 in
      some_is (network_step b N e) (after_deed N r d alike.0)
      (step_by b N e r a who can.3 ∙ after_that e (act_step b N r a) (entry_of d) (after_deed N r d alike.0) (act_does b N r a d alike.0 alike.1)
      (ap (entry_eq e) can.2 ∙ entry_itself e))

  pub entry_ready : IsQuiet b N → (e : Entry) (T : State) → follow b (state_of N M) e ≡ Some T → Settled b (state_of N M) e → IsSome (network_step b N e)
  entry_ready quiet e T h settled = by_doer (doer e) refl
    where
      by_doer : (o : Option Role) → doer e ≡ o → IsSome (network_step b N e)
      by_doer None who = change_ready b N M e T who h
      by_doer (Some r) who = role_ready quiet e r T who h settled

module _ (known : Known) where
  pub start_placed : (b : PlainBundle) → IsSound b → Placed (setting b) (network_start b) (Still b.choreo)
  start_placed b sound = record {
    marks = record {
      fine = proper_text known b.cast b.choreo sound.formed.choreo.indices sound.choreo.connected sound.choreo.no_self_message
          (λ q h. subst (λ c. member q c ≡ true) (sym sound.formed.cast) (known.casts.same q b.choreo ∙ h));
      places = λ q. refl;
      mails = λ k. refl;
      old = λ n at. omega (arith, text_epoch b.choreo sound.formed.choreo.indices n at);
    };
    order = tt;
    sealed = tt;
  }

  pub placed_run : (b : PlainBundle) (H : List Entry) (N : Network) → IsSound b → network_run b H ≡ Some N
      → (M : Mark) × Placed (setting b) N M × (play b (visible H) ≡ Some (state_of N M))
      × (length H + left b.cast M ≤ 0 + length (visible H) * suc (6 * length b.cast))
  placed_run b H N sound h =
      runs_placed (setting b) (cast_unique known b sound) (sound_answers known b sound) H (network_start b) N (Still b.choreo) (start_placed b sound) h

  pub readiness : Readiness
  readiness b H N S T e sound runs quiet played follows settled =
      let parts = placed_run b H N sound runs in
      let same : S ≡ state_of N parts.0 = some_same (sym played ∙ parts.2) in
      entry_ready (setting b) N parts.0 parts.1 quiet e T (ap (λ X. follow (setting b) X e) (sym same) ∙ follows) (subst (λ X. Settled (setting b) X e) same settled)

  pub auxiliary_ends : AuxiliaryEnds
  auxiliary_ends b H N sound runs = omega (arith, (placed_run b H N sound runs).3)
