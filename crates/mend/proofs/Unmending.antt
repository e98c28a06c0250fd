-- The whole trace: the mended bundle's state and the input's go side by side.
use Rattle.std.proofs.Common.{◌≡◌, ℕ, suc, ◌+◌, ◌≤◌, List, [], ◌∷◌, ◌++◌, length, Bool, true, false, ◌&&◌, ◌||◌, not, if◌then◌else◌, filter, map, Option, Some, None, IsSome, refl, sym, ap, ap₂, ◌∙◌, subst, ⊎_elim, ◌⊎◌, inl, inr, append_assoc, arith}
use Rattle.std.specs.Prelude.{All, slice_get, option_and_then, option_map, unwrap_or, nat_le}
use Rattle.std.specs.Option.{option_map_or}
use Rattle.std.proofs.lemmas.Bool.{and_parts, and_from, both_ways, cases_Bool, cond-true, cond-false, not_from_true, not_from_false, le-leb}
use Rattle.std.proofs.lemmas.List.{length-append}
use Rattle.std.proofs.lemmas.Option.{slice_get-map, slice_get_within, get_or_from_slice_get}
use Rattle.dioc_terms.specs.declared.names.Role.{Role}
use Rattle.dioc_terms.specs.declared.names.Index.{Index}
use Rattle.dioc_terms.specs.declared.values.Value.{Value}
use Rattle.dioc_terms.specs.declared.values.Value.TheVariants.{Nil}
use Rattle.dioc_terms.specs.declared.processes.ScopeHead.{ScopeHead}
use Rattle.dioc_terms.specs.declared.bundles.Change.{Change}
use Rattle.dioc_terms.specs.declared.bundles.Timed.{Timed}
use Rattle.dioc_terms.specs.declared.entries.Chosen.TheVariants as chosen
use Rattle.dioc_terms.specs.declared.entries.Entry.{Entry}
use Rattle.dioc_terms.specs.declared.entries.Entry.TheVariants as entry
use Rattle.dioc_terms.specs.Attempts.{Attempt, Stuck, Does}
use Rattle.dioc_terms.specs.Equality.{role_eq, name_eq, member}
use Rattle.dioc_terms.specs.EqualityLemmas.{equality-decides}
use Rattle.dioc_terms.specs.Expressions.{Expression}
use Rattle.dioc_terms.specs.Plain.{PlainRule, PlainBundle, Setting, setting}
use Rattle.dioc_terms.specs.Rules.{Book, apply, choose}
use Rattle.dioc_terms.specs.Stores.{Store, variable, set_variable, next_input, drop_input}
use Rattle.dioc_terms.specs.TermLaws.{MentionsAreRoles, CastsAreRoles, StampedBodies}
use Rattle.dioc_terms.specs.Terms.{Term, Skip, is_in, at_epoch, index_at, indexed, stamped, head_of, roles_in, cast_of}
use Rattle.dioc_terms.specs.Terms as term
use Rattle.dioc_terms.specs.Values.{eval}
use Rattle.connectedness.specs.Laws.{RolesAtEnds}
use Rattle.global_steps.specs.Running.{Running}
use Rattle.global_steps.specs.Follow.{Effect, Leaves, Assigns, Reads, affected, KeepsBody, TakesRule, book_choice, plays, State, updated, shows, updates_after, follow_role, follow_change, follow, play_start, play_from}
use Rattle.mend.specs.Laws.{MendedConnected}
use Rattle.mend.specs.Mended.{mended}
use Rattle.mend.specs.Names.{begins_sq, taken_variable}
use Rattle.mend.specs.Traces.{is_added_entry, reindexed, lessened, index_before, text_at, original, body_named, body_in, bodies_from, untimed, at_once, IsMendable, IsMendableRule, mended_bundle, PlaysWithout}
use Rattle.mend.proofs.Apart.{text_has, SingleText, Single, has_started, single_started}
use Rattle.mend.proofs.Beside.{stamped_beside, program_beside}
use Rattle.mend.proofs.Books.{value_same, Unique, unique_opening, unique_apply, chosen_body, none_at, some_at, same_opening, same_apply, same_shows, Alike, same_choice}
use Rattle.mend.proofs.Keeping.{Old, between, single_stamped, marked_stamped, keeps}
use Rattle.mend.proofs.Lessening.{Mends, Less, starts}
use Rattle.mend.proofs.Simulation.{IsIdle, leaves, assigns, SameChoice, idles, goes}

some_same : {A : Type 0} {x y : A} → Some x ≡ Some y → x ≡ y
some_same h = cc

none_some : {A B : Type 0} {x : A} → None ≡ Some x → B
none_some h = cc

-- Stores that agree but for the variables of added messages
pub record Agree (s t : Store) : Type 0 where
  pub inputs : s.inputs ≡ t.inputs
  pub variables : (x : List ℕ) → begins_sq x ≡ false → s.variables x ≡ t.variables x

eval_same : (e : Expression) (s t : Store) → Agree s t → taken_variable e ≡ None → eval e s ≡ eval e t
eval_same e s t h free = value_same (variable s) (variable t) (λ name. Nil) (λ name. Nil) e (λ x f. ap (λ v. unwrap_or v Nil) (h.variables x f)) free

next_same : (s t : Store) → Agree s t → next_input s ≡ next_input t
next_same s t h = ap (λ inputs. next_input (record { variables = s.variables; inputs = inputs })) h.inputs

set_same : (x : List ℕ) (v : Value) (s t : Store) → Agree s t → Agree (set_variable x v s) (set_variable x v t)
set_same x v s t h = record { inputs = h.inputs; variables = λ y free. ap (λ w. if name_eq y x then Some v else w) (h.variables y free) }

drop_same : (s t : Store) → Agree s t → Agree (drop_input s) (drop_input t)
drop_same s t h = record { inputs = ap (λ inputs. (drop_input (record { variables = s.variables; inputs = inputs })).inputs) h.inputs; variables = h.variables }

affected_same : (c : Effect) (s t : Store) → Agree s t → Agree (affected c s) (affected c t)
affected_same Leaves s t h = h
affected_same (Assigns x v) s t h = set_same x v s t h
affected_same (Reads x v) s t h = set_same x v (drop_input s) (drop_input t) (drop_same s t h)

idle_same : (c : Effect) (s t : Store) → IsIdle c → Agree s t → Agree (affected c s) t
idle_same c s t leaves h = h
idle_same c s t (assigns x v own) h = record {
  inputs = h.inputs;
  variables = λ y free. cond-false (name_eq y x) (Some v) (s.variables y)
      (⊎_elim (λ yes. absurd (both_ways (begins_sq y) free (subst (λ z. begins_sq z ≡ true) (sym ((equality-decides.name y x).0 yes)) own))) (λ no. no)
      (cases_Bool (name_eq y x)))
      ∙ h.variables y free;
}

updated_agree : (r : Role) (s t : Store) (S T : Role → Store) → Agree s t → ((q : Role) → Agree (S q) (T q)) → (q : Role) → Agree (updated r s S q) (updated r t T q)
updated_agree r s t S T h all q = by_test (role_eq q r)
  where
    by_test : (b : Bool) → Agree (if b then s else S q) (if b then t else T q)
    by_test true = h
    by_test false = all q

updated_idle : (r : Role) (s : Store) (S T : Role → Store) → Agree s (T r) → ((q : Role) → Agree (S q) (T q)) → (q : Role) → Agree (updated r s S q) (T q)
updated_idle r s S T h all q = by_test (role_eq q r) refl
  where
    by_test : (b : Bool) → role_eq q r ≡ b → Agree (if b then s else S q) (T q)
    by_test true is = subst (λ p. Agree s (T p)) (sym ((equality-decides.role q r).0 is)) h
    by_test false is = all q

-- Following an entry of a role
abbrev moved : Setting → State → Role → Entry → Attempt Effect Running
moved b S r e = plays b.cast S.stores (λ head. book_choice b.rules S.book head (S.stores head.leader)) S.updates S.running e

abbrev after : State → Role → Entry → Effect → Running → State
after S r e c G = record {
  running = G;
  stores = updated r (affected c (S.stores r)) S.stores;
  book = S.book;
  updates = updates_after e S.updates;
  changes = S.changes;
  entries = suc S.entries;
}

abbrev changed : List PlainRule → State → Change → State
changed rules S c = record {
  running = S.running;
  stores = S.stores;
  book = apply rules S.book c;
  updates = S.updates;
  changes = suc S.changes;
  entries = suc S.entries;
}

followed : (b : Setting) (S U : State) (r : Role) (e : Entry) (m : Attempt Effect Running) → moved b S r e ≡ m → follow_role b S r e ≡ Some U
    → (c : Effect) × (G : Running) × (moved b S r e ≡ Does c G) × (after S r e c G ≡ U)
followed b S U r e Stuck is h = none_some (rw is at h)
followed b S U r e (Does c G) is h = (c, G, is, some_same (rw is at h))

follows : (b : Setting) (S : State) (r : Role) (e : Entry) (c : Effect) (G : Running) → moved b S r e ≡ Does c G → follow_role b S r e ≡ Some (after S r e c G)
follows b S r e c G is = rw is refl

-- a member of a list at a place that is the length of what stands before
at_length : {A : Type 0} (xs : List A) (y : A) (ys : List A) → slice_get (xs ++ y ∷ ys) (length xs) ≡ Some y
at_length [] y ys = refl
at_length (x ∷ xs) y ys = at_length xs y ys

all_at : {A : Type 0} (P : A → Type 0) (xs : List A) → All P xs → (n : ℕ) (x : A) → slice_get xs n ≡ Some x → P x
all_at P xs h n x is = subst P (get_or_from_slice_get xs n x x is) (h n x (slice_get_within xs n x is))

member_filter : (p : Role → Bool) (xs : List Role) (q : Role) → member q (filter p xs) ≡ (p q && member q xs)
member_filter p [] q = none (p q)
  where
    none : (t : Bool) → false ≡ (t && false)
    none true = refl
    none false = refl
member_filter p (x ∷ xs) q = ⊎_elim
    (λ yes. ap (member q) (cond-true (p x) (x ∷ filter p xs) (filter p xs) yes) ∙ ap (λ t. role_eq q x || t) (member_filter p xs q)
    ∙ kept (role_eq q x) (p q) (member q xs) (λ same. subst (λ r. p r ≡ true) (sym ((equality-decides.role q x).0 same)) yes))
    (λ no. ap (member q) (cond-false (p x) (x ∷ filter p xs) (filter p xs) no) ∙ member_filter p xs q
    ∙ left (role_eq q x) (p q) (member q xs) (λ same. subst (λ r. p r ≡ false) (sym ((equality-decides.role q x).0 same)) no))
    (cases_Bool (p x))
  where
    kept : (same passes later : Bool) → (same ≡ true → passes ≡ true) → (same || (passes && later)) ≡ (passes && (same || later))
    kept true passes later h = sym (ap (λ t. t && true) (h refl))
    kept false passes later h = refl

    left : (same passes later : Bool) → (same ≡ true → passes ≡ false) → (passes && later) ≡ (passes && (same || later))
    left true passes later h = ap (λ t. t && later) (h refl) ∙ sym (ap (λ t. t && true) (h refl))
    left false passes later h = refl

module _ (mentioned : MentionsAreRoles) (casts : CastsAreRoles) (bodies : StampedBodies) (ends : RolesAtEnds) (connects : MendedConnected)
    (b : PlainBundle) (able : IsMendable b) where
  abbrev D : Setting
  D = setting (mended_bundle b)

  abbrev B : Setting
  B = setting (at_once b)

  same_cast : (q : Role) → member q D.cast ≡ member q B.cast
  same_cast q = casts.same q (mended b.cast b.choreo) ∙ connects.same_roles b.cast b.choreo q ∙ sym (casts.same q b.choreo) ∙ ap (member q) (sym able.cast)

  mendable : (m : ℕ) (rule : PlainRule) → slice_get b.rules m ≡ Some rule → IsMendableRule rule
  mendable m rule is = all_at IsMendableRule b.rules able.rules m rule is

  -- one state beside the other
  record Beside (f : Index → Index) (S T : State) : Type 0 where
    running : Less f S.running T.running
    single : Single T.running
    old : Old T.updates T.running
    updates : S.updates ≡ T.updates
    changes : S.changes ≡ T.changes
    book : S.book ≡ T.book
    unique : Unique b.rules T.book.order
    stores : (q : Role) → Agree (S.stores q) (T.stores q)

  module _ (all : List Term) where
    abbrev f : Index → Index
    f = original b.cast b.choreo all

    -- The answers of the book at an entry, where the next body of the list is that of the entry's rule
    module _ (S T : State) (h : Beside f S T) (e : Entry) (text : (name : List ℕ) (i : Index) (r : Role) → e ≡ entry.Scope i r (chosen.Rule name (suc S.updates))
        → text_at b.choreo all (suc S.updates) ≡ body_named b.rules S.book name) where
      alike_heads : (i j : Index) (r : Role) (I K : Term) (extra : List Role) (props : List (List ℕ × Value)) (level : ℕ) → ((q : Role) → is_in q I ≡ is_in q K)
          → Alike b.cast b.rules (head_of D.cast i r I extra props level) (head_of B.cast j r K extra props level) (S.stores r) (T.stores r)
      alike_heads i j r I K extra props level same = record {
        roles = λ q. member_filter (λ p. is_in p (term.Scope i r I extra props level)) D.cast q
            ∙ ap₂ (λ s t. s && t) (ap (λ s. role_eq q r || s || member q extra) (same q)) (same_cast q)
            ∙ sym (member_filter (λ p. is_in p (term.Scope j r K extra props level)) B.cast q);
        props = refl;
        level = refl;
        variables = (h.stores r).variables;
      }

      body_beside : (level : ℕ) (rule : PlainRule) → IsMendableRule rule → text_at b.choreo all (suc S.updates) ≡ rule.body
          → Mends f (stamped (mended b.cast rule.body) (suc S.updates) (suc level)) (stamped rule.body (suc S.updates) (suc level))
      body_beside level rule good is =
          stamped_beside mentioned bodies f (suc S.updates) (suc level) ends b.cast rule.body good.free
          (λ p. ap (λ I. at_epoch (suc S.updates) (index_before b.cast I p)) is)

      decided : (level : ℕ) (head other : ScopeHead) (s t : Store) → Alike b.cast b.rules head other s t
          → SameChoice f e S.updates level (book_choice D.rules S.book head s) (book_choice B.rules T.book other t)
      decided level head other s t alike = by_choice (choose B.rules T.book other t) refl
        where
          as_chosen : (choice : Option ℕ) → choose B.rules T.book other t ≡ choice → choose D.rules S.book head s ≡ choice
          as_chosen choice is = ap (λ book. choose D.rules book head s) h.book
              ∙ same_choice b.cast b.rules mentioned (connects.same_roles b.cast) mendable T.book head other s t alike ∙ is

          by_rule : (m : ℕ) → choose B.rules T.book other t ≡ Some m → choose D.rules S.book head s ≡ Some m
              → (found : Option PlainRule) → slice_get b.rules m ≡ found
              → SameChoice f e S.updates level (book_choice D.rules S.book head s) (book_choice B.rules T.book other t)
          by_rule m is_B is_D None there = rw (is_D, is_B, there, none_at b.cast b.rules m there) tt
          by_rule m is_B is_D (Some rule) there = rw (is_D, is_B, there, some_at b.cast b.rules m rule there) (
            refl,
            λ k p shown. body_beside level rule (mendable m rule there)
                (text rule.name k p shown ∙ ap (λ book. body_named b.rules book rule.name) h.book
                ∙ chosen_body b.rules T.book other t m rule h.unique is_B there),
          )

          by_choice : (choice : Option ℕ) → choose B.rules T.book other t ≡ choice
              → SameChoice f e S.updates level (book_choice D.rules S.book head s) (book_choice B.rules T.book other t)
          by_choice None is = rw (as_chosen None is, is) tt
          by_choice (Some m) is = by_rule m is (as_chosen (Some m) is) (slice_get b.rules m) refl

      -- An entry of a role that isn't of an added message
      same_updates : (d : Entry) (n : ℕ) → updates_after (reindexed f d) n ≡ updates_after d n
      same_updates (entry.Put k n) m = refl
      same_updates (entry.Take k x) m = refl
      same_updates (entry.Set i r x v) m = refl
      same_updates (entry.Input i r x v) m = refl
      same_updates (entry.Pick i r t) m = refl
      same_updates (entry.Scope i r chosen.Keep) m = refl
      same_updates (entry.Scope i r (chosen.Rule name n)) m = refl
      same_updates (entry.Add name) m = refl
      same_updates (entry.Drop name) m = refl
      same_updates (entry.Env key v) m = refl

      no_fewer : (d : Entry) (n : ℕ) → n ≤ updates_after d n
      no_fewer (entry.Put k x) n = omega arith
      no_fewer (entry.Take k x) n = omega arith
      no_fewer (entry.Set i r x v) n = omega arith
      no_fewer (entry.Input i r x v) n = omega arith
      no_fewer (entry.Pick i r t) n = omega arith
      no_fewer (entry.Scope i r chosen.Keep) n = omega arith
      no_fewer (entry.Scope i r (chosen.Rule name m)) n = omega arith
      no_fewer (entry.Add name) n = omega arith
      no_fewer (entry.Drop name) n = omega arith
      no_fewer (entry.Env key v) n = omega arith

      marked_bodies : (head : ScopeHead) (t : Store) (name : List ℕ) (body : Term) → book_choice B.rules T.book head t ≡ TakesRule name body → body ≡ indexed body
      marked_bodies head t name body is = by_choice (choose B.rules T.book head t) refl
        where
          by_rule : (m : ℕ) → choose B.rules T.book head t ≡ Some m → (found : Option PlainRule) → slice_get b.rules m ≡ found → body ≡ indexed body
          by_rule m chosen_m None there = let no : KeepsBody ≡ TakesRule name body = rw (chosen_m, there) at is in cc
          by_rule m chosen_m (Some rule) there =
              let takes : TakesRule rule.name rule.body ≡ TakesRule name body = rw (chosen_m, there) at is in
              let same : rule.body ≡ body = cc in
              subst (λ I. I ≡ indexed I) same (mendable m rule there).marks

          by_choice : (choice : Option ℕ) → choose B.rules T.book head t ≡ choice → body ≡ indexed body
          by_choice None chosen_none = let no : KeepsBody ≡ TakesRule name body = rw chosen_none at is in cc
          by_choice (Some m) chosen_m = by_rule m chosen_m (slice_get b.rules m) refl

      record Next (r : Role) (U : State) : Type 0 where
        state : State
        step : follow_role B T r (reindexed f e) ≡ Some state
        beside : Beside f U state

      role_step : (r : Role) (U : State) → follow_role D S r e ≡ Some U → is_added_entry e ≡ false → Next r U
      role_step r U is other =
          let m = followed D S U r e (moved D S r e) refl is in
          let g = goes f D.cast S.stores (λ head. book_choice D.rules S.book head (S.stores head.leader)) S.updates
          B.cast T.stores (λ head. book_choice B.rules T.book head (T.stores head.leader)) e
          (λ q x free. eval_same x (S.stores q) (T.stores q) (h.stores q) free) (λ q. next_same (S.stores q) (T.stores q) (h.stores q))
          (λ i j q I K extra props level same. decided level (head_of D.cast i q I extra props level) (head_of B.cast j q K extra props level) (S.stores q) (T.stores q)
          (alike_heads i j q I K extra props level same))
          S.running T.running h.running h.single m.0 m.1 m.2 other in
          let step : moved B T r (reindexed f e) ≡ Does m.0 g.left
          = ap (λ u. plays B.cast T.stores (λ head. book_choice B.rules T.book head (T.stores head.leader)) u T.running (reindexed f e)) (sym h.updates) ∙ g.step in
          let k = keeps B.cast T.stores (λ head. book_choice B.rules T.book head (T.stores head.leader)) T.updates
          (λ head name body takes. marked_bodies head (T.stores head.leader) name body takes) (reindexed f e) T.running m.0 g.left h.single h.old step in
          record {
            state = after T r (reindexed f e) m.0 g.left;
            step = follows B T r (reindexed f e) m.0 g.left step;
            beside = subst (λ V. Beside f V (after T r (reindexed f e) m.0 g.left)) m.3 (record {
              running = g.beside;
              single = k.single;
              old = λ i s. ⊎_elim
                  (λ was. let here : i.epoch ≤ T.updates = h.old i was in
                  let more : T.updates ≤ updates_after (reindexed f e) T.updates = no_fewer (reindexed f e) T.updates in omega (arith, here, more))
                  (λ new. let next : i.epoch ≡ suc T.updates = new.0 in
                  let now : updates_after (reindexed f e) T.updates ≡ suc T.updates = new.1 in omega (arith, next, now))
                  (k.was i s);
              updates = ap (updates_after e) h.updates ∙ sym (same_updates e T.updates);
              changes = h.changes;
              book = h.book;
              unique = h.unique;
              stores = updated_agree r (affected m.0 (S.stores r)) (affected m.0 (T.stores r)) S.stores T.stores
                  (affected_same m.0 (S.stores r) (T.stores r) (h.stores r)) h.stores;
            });
          }

      -- an entry of an added message leaves the input where it is
      own_step : (r : Role) (U : State) → follow_role D S r e ≡ Some U → is_added_entry e ≡ true → updates_after e S.updates ≡ S.updates → Beside f U T
      own_step r U is own still =
          let m = followed D S U r e (moved D S r e) refl is in
          let g = idles f D.cast S.stores (λ head. book_choice D.rules S.book head (S.stores head.leader)) S.updates S.running T.running h.running e m.0 m.1 m.2 own in
          subst (λ V. Beside f V T) m.3 (record {
            running = g.beside;
            single = h.single;
            old = h.old;
            updates = still ∙ h.updates;
            changes = h.changes;
            book = h.book;
            unique = h.unique;
            stores = updated_idle r (affected m.0 (S.stores r)) S.stores T.stores (idle_same m.0 (S.stores r) (T.stores r) g.idle (h.stores r)) h.stores;
          })

    -- A change, which the input may make at once
    record NextChange (T U : State) (e : Entry) : Type 0 where
      state : State
      step : follow_change B T e ≡ Some state
      beside : Beside f U state

    taken_true : {A : Type 0} (t : Bool) (x y : A) → (if t then Some x else None) ≡ Some y → (t ≡ true) × (x ≡ y)
    taken_true true x y is = (refl, some_same is)
    taken_true false x y is = none_some is

    change_step : (S T U : State) → Beside f S T → (e : Entry) → follow_change D S e ≡ Some U → NextChange T U e
    change_step S T U h e is = by_script (slice_get b.script S.changes) refl
      where
        by_script : (found : Option Timed) → slice_get b.script S.changes ≡ found → NextChange T U e
        by_script None there = none_some (rw there at is)
        by_script (Some timed) there =
            let both = taken_true (shows D.rules e timed.change && nat_le timed.after S.entries) (changed D.rules S timed.change) U (rw there at is) in
            let shown : shows b.rules e timed.change ≡ true = sym (same_shows b.cast b.rules e timed.change) ∙ (and_parts (shows D.rules e timed.change) (nat_le timed.after S.entries) both.0).0 in
            let other : slice_get B.script T.changes ≡ Some (untimed timed)
            = slice_get-map untimed b.script T.changes ∙ ap (option_map untimed) (ap (slice_get b.script) (sym h.changes) ∙ there) in
            record {
              state = changed b.rules T timed.change;
              step = rw other (cond-true (shows b.rules e timed.change && nat_le 0 T.entries) (Some (changed b.rules T timed.change)) None (and_from _ _ shown (le-leb 0 T.entries (omega arith))));
              beside = subst (λ V. Beside f V (changed b.rules T timed.change)) both.1 (record {
                running = h.running;
                single = h.single;
                old = h.old;
                updates = h.updates;
                changes = ap suc h.changes;
                book = ap (λ book. apply D.rules book timed.change) h.book ∙ same_apply b.cast b.rules T.book timed.change;
                unique = unique_apply b.rules T.book timed.change h.unique;
                stores = h.stores;
              });
            }

    -- One entry
    abbrev Texts : State → Entry → Type 0
    Texts S e = (name : List ℕ) (i : Index) (r : Role) → e ≡ entry.Scope i r (chosen.Rule name (suc S.updates))
        → text_at b.choreo all (suc S.updates) ≡ body_named b.rules S.book name

    record Visible (T U : State) (e : Entry) : Type 0 where
      other : is_added_entry e ≡ false
      state : State
      step : follow B T (reindexed f e) ≡ Some state
      beside : Beside f U state

    abbrev Moves : State → State → Entry → Type 0
    Moves T U e = ((is_added_entry e ≡ true) × Beside f U T) ⊎ Visible T U e

    one_entry : (e : Entry) (S T U : State) → Beside f S T → Texts S e → follow D S e ≡ Some U → Moves T U e
    one_entry (entry.Put k n) S T U h text is = ⊎_elim
        (λ own. inl (own, own_step S T h (entry.Put k n) text k.from U is own refl))
        (λ other. let s = role_step S T h (entry.Put k n) text k.from U is other in inr (record { other = other; state = s.state; step = s.step; beside = s.beside }))
        (cases_Bool (is_added_entry (entry.Put k n)))
    one_entry (entry.Take k x) S T U h text is = ⊎_elim
        (λ own. inl (own, own_step S T h (entry.Take k x) text k.to U is own refl))
        (λ other. let s = role_step S T h (entry.Take k x) text k.to U is other in inr (record { other = other; state = s.state; step = s.step; beside = s.beside }))
        (cases_Bool (is_added_entry (entry.Take k x)))
    one_entry (entry.Set i r x v) S T U h text is =
        let s = role_step S T h (entry.Set i r x v) text r U is refl in inr (record { other = refl; state = s.state; step = s.step; beside = s.beside })
    one_entry (entry.Input i r x v) S T U h text is =
        let s = role_step S T h (entry.Input i r x v) text r U is refl in inr (record { other = refl; state = s.state; step = s.step; beside = s.beside })
    one_entry (entry.Pick i r t) S T U h text is =
        let s = role_step S T h (entry.Pick i r t) text r U is refl in inr (record { other = refl; state = s.state; step = s.step; beside = s.beside })
    one_entry (entry.Scope i r c) S T U h text is =
        let s = role_step S T h (entry.Scope i r c) text r U is refl in inr (record { other = refl; state = s.state; step = s.step; beside = s.beside })
    one_entry (entry.Add name) S T U h text is =
        let s = change_step S T U h (entry.Add name) is in inr (record { other = refl; state = s.state; step = s.step; beside = s.beside })
    one_entry (entry.Drop name) S T U h text is =
        let s = change_step S T U h (entry.Drop name) is in inr (record { other = refl; state = s.state; step = s.step; beside = s.beside })
    one_entry (entry.Env key v) S T U h text is =
        let s = change_step S T U h (entry.Env key v) is in inr (record { other = refl; state = s.state; step = s.step; beside = s.beside })

    -- The numbers of updates, and their bodies
    role_updates : (S U : State) (r : Role) (e : Entry) → follow_role D S r e ≡ Some U → U.updates ≡ updates_after e S.updates
    role_updates S U r e is = ap (λ (V : State). V.updates) (sym (followed D S U r e (moved D S r e) refl is).3)

    change_updates : (S U : State) (e : Entry) → follow_change D S e ≡ Some U → U.updates ≡ S.updates
    change_updates S U e is = by_script (slice_get b.script S.changes) refl
      where
        by_script : (found : Option Timed) → slice_get b.script S.changes ≡ found → U.updates ≡ S.updates
        by_script None there = none_some (rw there at is)
        by_script (Some timed) there =
            ap (λ (V : State). V.updates) (sym (taken_true (shows D.rules e timed.change && nat_le timed.after S.entries) (changed D.rules S timed.change) U (rw there at is)).1)

    then_updates : (e : Entry) (S U : State) → follow D S e ≡ Some U → U.updates ≡ updates_after e S.updates
    then_updates (entry.Put k n) S U is = role_updates S U k.from (entry.Put k n) is
    then_updates (entry.Take k x) S U is = role_updates S U k.to (entry.Take k x) is
    then_updates (entry.Set i r x v) S U is = role_updates S U r (entry.Set i r x v) is
    then_updates (entry.Input i r x v) S U is = role_updates S U r (entry.Input i r x v) is
    then_updates (entry.Pick i r t) S U is = role_updates S U r (entry.Pick i r t) is
    then_updates (entry.Scope i r c) S U is = role_updates S U r (entry.Scope i r c) is
    then_updates (entry.Add name) S U is = change_updates S U (entry.Add name) is
    then_updates (entry.Drop name) S U is = change_updates S U (entry.Drop name) is
    then_updates (entry.Env key v) S U is = change_updates S U (entry.Env key v) is

    more_bodies : (e : Entry) (book : Book) (n : ℕ) → n + length (body_in b.rules book e) ≡ updates_after e n
    more_bodies (entry.Put k x) book n = omega arith
    more_bodies (entry.Take k x) book n = omega arith
    more_bodies (entry.Set i r x v) book n = omega arith
    more_bodies (entry.Input i r x v) book n = omega arith
    more_bodies (entry.Pick i r t) book n = omega arith
    more_bodies (entry.Scope i r chosen.Keep) book n = omega arith
    more_bodies (entry.Scope i r (chosen.Rule name m)) book n = omega arith
    more_bodies (entry.Add name) book n = omega arith
    more_bodies (entry.Drop name) book n = omega arith
    more_bodies (entry.Env key v) book n = omega arith

    next_text : (S : State) (e : Entry) (before rest : List Term) → all ≡ before ++ (body_in b.rules S.book e ++ rest) → length before ≡ S.updates → Texts S e
    next_text S e before rest is count name i r shown =
        let here : body_in b.rules S.book e ≡ body_named b.rules S.book name ∷ [] = ap (body_in b.rules S.book) shown in
        let whole : all ≡ before ++ (body_named b.rules S.book name ∷ rest) = is ∙ ap (λ l. before ++ (l ++ rest)) here in
        ap (λ l. unwrap_or (slice_get l S.updates) Skip) whole
        ∙ ap (λ n. unwrap_or (slice_get (before ++ (body_named b.rules S.book name ∷ rest)) n) Skip) (sym count)
        ∙ ap (λ found. unwrap_or found Skip) (at_length before (body_named b.rules S.book name) rest)

    -- The whole trace
    lessened_own : (e : Entry) (es : List Entry) → is_added_entry e ≡ true → lessened f (e ∷ es) ≡ lessened f es
    lessened_own e es own = ap (map (reindexed f))
        (cond-false (not (is_added_entry e)) (e ∷ filter (λ d. not (is_added_entry d)) es) (filter (λ d. not (is_added_entry d)) es) (not_from_true (is_added_entry e) own))

    lessened_other : (e : Entry) (es : List Entry) → is_added_entry e ≡ false → lessened f (e ∷ es) ≡ reindexed f e ∷ lessened f es
    lessened_other e es other = ap (map (reindexed f))
        (cond-true (not (is_added_entry e)) (e ∷ filter (λ d. not (is_added_entry d)) es) (filter (λ d. not (is_added_entry d)) es) (not_from_false (is_added_entry e) other))

    -- what holds of the rest of a trace
    abbrev PlaysOn : List Entry → Type 0
    PlaysOn es = (U W : State) → Beside f U W → (before : List Term) → all ≡ before ++ bodies_from b.rules D U es → length before ≡ U.updates
        → IsSome (play_from D U es) → IsSome (play_from B W (lessened f es))

    one_more : (e : Entry) (es : List Entry) (S T : State) → Beside f S T → (before : List Term) → all ≡ before ++ bodies_from b.rules D S (e ∷ es)
        → length before ≡ S.updates → PlaysOn es → (next : Option State) → follow D S e ≡ next → IsSome (option_and_then (λ U. play_from D U es) next)
        → IsSome (play_from B T (lessened f (e ∷ es)))
    one_more e es S T h before is count go None next some = cc
    one_more e es S T h before is count go (Some U) next some = ⊎_elim
        (λ own. subst (λ l. IsSome (play_from B T l)) (sym (lessened_own e es own.0)) (on T own.1))
        (λ shown. subst (λ l. IsSome (play_from B T l)) (sym (lessened_other e es shown.other))
        (subst (λ m. IsSome (option_and_then (λ V. play_from B V (lessened f es)) m)) (sym shown.step) (on shown.state shown.beside)))
        (one_entry e S T U h
        (next_text S e before (option_map_or (λ V. bodies_from b.rules D V es) (follow D S e) []) is count) next)
      where
        on : (V : State) → Beside f U V → IsSome (play_from B V (lessened f es))
        on V beside = go U V beside (before ++ body_in b.rules S.book e)
            (is ∙ ap (λ m. before ++ (body_in b.rules S.book e ++ option_map_or (λ n. bodies_from b.rules D n es) m [])) next
            ∙ sym (append_assoc before (body_in b.rules S.book e) (bodies_from b.rules D U es)))
            (length-append before (body_in b.rules S.book e) ∙ ap (λ n. n + length (body_in b.rules S.book e)) count
            ∙ more_bodies e S.book S.updates ∙ sym (then_updates e S U next))
            some

    play_all : (es : List Entry) → PlaysOn es
    play_all [] S T h before is count some = refl
    play_all (e ∷ es) S T h before is count some = one_more e es S T h before is count (play_all es) (follow D S e) refl some

    start_beside : Beside f (play_start (mended_bundle b)) (play_start (at_once b))
    start_beside = record {
      running = starts (mended b.cast b.choreo) b.choreo (program_beside mentioned bodies ends f b.cast b.choreo able.marks able.free (λ p. refl));
      single = single_started b.choreo (subst SingleText (marked_stamped 0 b.choreo ∙ sym able.marks) (single_stamped 0 0 0 b.choreo));
      old = λ i s.
          let there : text_has i (stamped (indexed b.choreo) 0 0) ≡ true
          = ap (text_has i) (marked_stamped 0 b.choreo ∙ sym able.marks) ∙ sym (has_started i b.choreo) ∙ s in
          let epoch : i.epoch ≡ 0 = (between i 0 0 0 b.choreo there).of_epoch in
          omega (arith, epoch);
      updates = refl;
      changes = refl;
      book = same_opening b.cast b.rules b.opening b.env;
      unique = unique_opening b.rules b.opening;
      stores = λ q. record { inputs = refl; variables = λ x free. refl };
    }

pub plays-without : MentionsAreRoles → CastsAreRoles → StampedBodies → RolesAtEnds → MendedConnected → PlaysWithout
plays-without mentioned casts bodies ends connects b es able some =
    play_all mentioned casts bodies ends connects b able
    (bodies_from b.rules (setting (mended_bundle b)) (play_start (mended_bundle b)) es) es
    (play_start (mended_bundle b)) (play_start (at_once b))
    (start_beside mentioned casts bodies ends connects b able (bodies_from b.rules (setting (mended_bundle b)) (play_start (mended_bundle b)) es))
    [] refl refl some
