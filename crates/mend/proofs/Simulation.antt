-- One entry: where it is of an added message, the input has nothing to do; any other one the input plays too.
use Rattle.std.proofs.Common.{◌≡◌, ℕ, suc, List, Bool, true, false, ◌&&◌, not, if◌then◌else◌, Some, None, refl, sym, ap, ap₂, ◌∙◌, subst, ⊎_elim}
use Rattle.std.proofs.lemmas.Bool.{and_parts, and_from, both_ways, cond-true, not_from_false, not-true}
use Rattle.dioc_terms.specs.declared.names.Role.{Role}
use Rattle.dioc_terms.specs.declared.names.Index.{Index}
use Rattle.dioc_terms.specs.declared.values.Value.{Value}
use Rattle.dioc_terms.specs.declared.processes.ScopeHead.{ScopeHead}
use Rattle.dioc_terms.specs.declared.entries.Entry.{Entry}
use Rattle.dioc_terms.specs.declared.entries.Entry.TheVariants as entry
use Rattle.dioc_terms.specs.declared.entries.Note.TheVariants as note
use Rattle.dioc_terms.specs.declared.entries.Chosen.TheVariants as chosen
use Rattle.dioc_terms.specs.Attempts.{Attempt, Stuck, Does, under, orelse, when}
use Rattle.dioc_terms.specs.Equality.{entry_eq}
use Rattle.dioc_terms.specs.Expressions.{Expression}
use Rattle.dioc_terms.specs.Stores.{Store, next_input}
use Rattle.dioc_terms.specs.Terms as term
use Rattle.dioc_terms.specs.Terms.{Term, is_in, stamped, head_of}
use Rattle.dioc_terms.specs.Values.{eval, is_true}
use Rattle.global_steps.specs.Running.{Running, Skip, Seq, Par, Fly, Bar, Again, started, ended, light}
use Rattle.global_steps.specs.Follow.{Effect, Leaves, Assigns, Reads, BookChoice, KeepsBody, TakesRule, operation, is_doer_due, while_plays, scope_plays, plays}
use Rattle.mend.specs.Names.{begins_sq, taken_variable}
use Rattle.mend.specs.Traces.{is_added_entry, reindexed}
use Rattle.mend.proofs.Apart.{when_does, under_does, orelse_does, entry_is, entry_itself, Single, first_stuck}
use Rattle.mend.proofs.Lessening.{Mends, AddedRun, run_seq, waits, flies, is_over, Less, l_skip, l_com, l_fly, l_set, l_input, l_seq, l_par, l_if, l_while, l_again, l_scope, l_bar, l_before, l_behind, starts, less_ended, less_light, less_due}

-- what an added message does to a store: nothing, or it sets a variable of its own
pub data IsIdle : Effect → Type 0 where
  leaves : IsIdle Leaves
  assigns : (x : List ℕ) (v : Value) → begins_sq x ≡ true → IsIdle (Assigns x v)

stuck_when : (t : Bool) → when {D = Effect} {A = Running} t Stuck ≡ Stuck
stuck_when true = refl
stuck_when false = refl

-- a text that has ended plays nothing
ended_stuck : (cast : List Role) (stores : Role → Store) (choices : ScopeHead → BookChoice) (u : ℕ) (G : Running) (e : Entry) → ended G ≡ true
    → plays cast stores choices u G e ≡ Stuck
ended_stuck cast stores choices u Skip e h = refl
ended_stuck cast stores choices u (Seq G H) e h =
    let parts = and_parts (ended G) (ended H) h in
    let one : plays cast stores choices u G e ≡ Stuck = ended_stuck cast stores choices u G e parts.0 in
    let other : plays cast stores choices u H e ≡ Stuck = ended_stuck cast stores choices u H e parts.1 in
    rw (one, other) (stuck_when (light G && not (is_doer_due e G)))
ended_stuck cast stores choices u (Par G H) e h =
    let parts = and_parts (ended G) (ended H) h in
    let one : plays cast stores choices u G e ≡ Stuck = ended_stuck cast stores choices u G e parts.0 in
    let other : plays cast stores choices u H e ≡ Stuck = ended_stuck cast stores choices u H e parts.1 in
    rw (one, other) refl
ended_stuck cast stores choices u (Bar roles G) e h =
    let one : plays cast stores choices u G e ≡ Stuck = ended_stuck cast stores choices u G e h in rw one refl
ended_stuck cast stores choices u G e h = cc

module _ (f : Index → Index) where
  -- The book's answers to a scope of the mended text and to the input's are alike; where the entry shows that rule, its bodies lie beside
  -- each other as the next update
  abbrev pub SameChoice : Entry → ℕ → ℕ → BookChoice → BookChoice → Type 0
  SameChoice e u level KeepsBody KeepsBody = Unit {0}
  SameChoice e u level (TakesRule m I) (TakesRule n K) =
      (m ≡ n) × ((i : Index) (r : Role) → e ≡ entry.Scope i r (chosen.Rule m (suc u)) → Mends f (stamped I (suc u) (suc level)) (stamped K (suc u) (suc level)))
  SameChoice e u level _ _ = ⊥

  module _ (castD : List Role) (storesD : Role → Store) (choicesD : ScopeHead → BookChoice) (u : ℕ) where
    -- what is left of an added message plays only its own entries
    record Idles (A : Running) (e : Entry) (c : Effect) (H : Running) : Type 0 where
      own : is_added_entry e ≡ true
      still : AddedRun H
      idle : IsIdle c

    own_entry : (e X : Entry) (m : Attempt Effect Running) (c : Effect) (H : Running) (t : Bool) → when (entry_eq e X) m ≡ Does c H → is_added_entry X ≡ t → is_added_entry e ≡ t
    own_entry e X m c H t h is = ap is_added_entry (entry_is e X (when_does (entry_eq e X) m c H h).0) ∙ is

    added_plays : (A : Running) → AddedRun A → (e : Entry) (c : Effect) (H : Running) → plays castD storesD choicesD u A e ≡ Does c H → Idles A e c H
    added_plays A (waits i o a x b y os ys) e c H h =
        let X : Entry = entry.Put (operation a b i o) (note.Val (eval x (storesD a))) in
        let M : Running = Fly i o a b y (eval x (storesD a)) in
        let is : Does Leaves M ≡ Does c H = (when_does (entry_eq e X) (Does Leaves M) c H h).1 in
        let same : M ≡ H = cc in
        let what : Leaves ≡ c = cc in
        record {
          own = own_entry e X (Does Leaves M) c H true h os;
          still = subst AddedRun same (flies i o a b y (eval x (storesD a)) os ys);
          idle = subst IsIdle what leaves;
        }
    added_plays A (flies i o a b y v os ys) e c H h =
        let X : Entry = entry.Take (operation a b i o) (Some y) in
        let is : Does (Assigns y v) Skip ≡ Does c H = (when_does (entry_eq e X) (Does (Assigns y v) Skip) c H h).1 in
        let same : Skip ≡ H = cc in
        let what : Assigns y v ≡ c = cc in
        record {
          own = own_entry e X (Does (Assigns y v) Skip) c H true h os;
          still = subst AddedRun same is_over;
          idle = subst IsIdle what (assigns y v ys);
        }
    added_plays A is_over e c H h = cc
    added_plays C (run_seq A B a b) e c H h = ⊎_elim
        (λ first.
        let inner = under_does (λ L. Seq L B) (plays castD storesD choicesD u A e) c H first in
        let s = added_plays A a e c inner.0 inner.1 in
        record { own = s.own; still = subst AddedRun inner.2 (run_seq inner.0 B s.still b); idle = s.idle })
        (λ next.
        let free = when_does (light A && not (is_doer_due e A)) (under (Seq A) (plays castD storesD choicesD u B e)) c H next.1 in
        let inner = under_does (Seq A) (plays castD storesD choicesD u B e) c H free.1 in
        let s = added_plays B b e c inner.0 inner.1 in
        record { own = s.own; still = subst AddedRun inner.2 (run_seq A inner.0 a s.still); idle = s.idle })
        (orelse_does (under (λ L. Seq L B) (plays castD storesD choicesD u A e)) (when (light A && not (is_doer_due e A)) (under (Seq A) (plays castD storesD choicesD u B e))) c H h)

    -- An entry of an added message
    pub record Stays (K : Running) (c : Effect) (H : Running) : Type 0 where
      pub beside : Less f H K
      pub idle : IsIdle c

    no_own : (e X : Entry) (m : Attempt Effect Running) (c : Effect) (H : Running) (P : Type 0) → when (entry_eq e X) m ≡ Does c H → is_added_entry X ≡ false
        → is_added_entry e ≡ true → P
    no_own e X m c H P h is own = absurd (both_ways (is_added_entry e) (own_entry e X m c H false h is) own)

    no_scope : (i : Index) (r : Role) (I : Term) (roles : Role → Bool) (level : ℕ) (choice : BookChoice) (e : Entry) (c : Effect) (H : Running) (P : Type 0)
        → scope_plays castD storesD choicesD u i r I roles level choice e ≡ Does c H → is_added_entry e ≡ true → P
    no_scope i r I roles level KeepsBody e c H P h own = no_own e (entry.Scope i r chosen.Keep) _ c H P h refl own
    no_scope i r I roles level (TakesRule name body) e c H P h own = no_own e (entry.Scope i r (chosen.Rule name (suc u))) _ c H P h refl own

    pub idles : (G K : Running) → Less f G K → (e : Entry) (c : Effect) (H : Running) → plays castD storesD choicesD u G e ≡ Does c H → is_added_entry e ≡ true → Stays K c H
    idles G K l_skip e c H h own = cc
    idles G K (l_com i j o a x b y at os free) e c H h own =
        no_own e (entry.Put (operation a b i o) (note.Val (eval x (storesD a)))) _ c H _ h os own
    idles G K (l_fly i j o a b y v at os) e c H h own = no_own e (entry.Take (operation a b i o) (Some y)) _ c H _ h os own
    idles G K (l_set i j x r y at free) e c H h own = no_own e (entry.Set i r x (eval y (storesD r))) _ c H _ h refl own
    idles G K (l_input i j x r at) e c H h own = no_own e (entry.Input i r x (next_input (storesD r))) _ c H _ h refl own
    idles G K (l_if i j r g A B C D at free p q) e c H h own = no_own e (entry.Pick i r (is_true (eval g (storesD r)))) _ c H _ h refl own
    idles G K (l_while i j r g A C at free p) e c H h own = no_own e (entry.Pick i r (is_true (eval g (storesD r)))) _ c H _ h refl own
    idles G K (l_scope i j r A C extra props level at roles p) e c H h own =
        no_scope i r A (λ q. is_in q (term.Scope i r A extra props level)) level (choicesD (head_of castD i r A extra props level)) e c H _ h own
    idles G K (l_bar roles others A C p) e c H h own =
        let inner = under_does (Bar roles) (plays castD storesD choicesD u A e) c H h in
        let s = idles A C p e c inner.0 inner.1 own in
        record { beside = subst (λ L. Less f L (Bar others C)) inner.2 (l_bar roles others inner.0 C s.beside); idle = s.idle }
    idles G K (l_again i j r g A C B D at free m p) e c H h own = ⊎_elim
        (λ first.
        let inner = under_does (Again i r g A) (plays castD storesD choicesD u B e) c H first in
        let s = idles B D p e c inner.0 inner.1 own in
        record { beside = subst (λ L. Less f L (Again j r g C D)) inner.2 (l_again i j r g A C inner.0 D at free m s.beside); idle = s.idle })
        (λ next. no_own e (entry.Pick i r (is_true (eval g (storesD r)))) _ c H _ (when_does (ended B) (while_plays castD storesD choicesD u i r g A e) c H next.1).1 refl own)
        (orelse_does (under (Again i r g A) (plays castD storesD choicesD u B e)) (when (ended B) (while_plays castD storesD choicesD u i r g A e)) c H h)
    idles G K (l_par A B C D p q) e c H h own = ⊎_elim
        (λ first.
        let inner = under_does (λ L. Par L B) (plays castD storesD choicesD u A e) c H first in
        let s = idles A C p e c inner.0 inner.1 own in
        record { beside = subst (λ L. Less f L (Par C D)) inner.2 (l_par inner.0 B C D s.beside q); idle = s.idle })
        (λ next.
        let inner = under_does (Par A) (plays castD storesD choicesD u B e) c H next.1 in
        let s = idles B D q e c inner.0 inner.1 own in
        record { beside = subst (λ L. Less f L (Par C D)) inner.2 (l_par A inner.0 C D p s.beside); idle = s.idle })
        (orelse_does (under (λ L. Par L B) (plays castD storesD choicesD u A e)) (under (Par A) (plays castD storesD choicesD u B e)) c H h)
    idles G K (l_seq A B C D p q) e c H h own = ⊎_elim
        (λ first.
        let inner = under_does (λ L. Seq L B) (plays castD storesD choicesD u A e) c H first in
        let s = idles A C p e c inner.0 inner.1 own in
        record { beside = subst (λ L. Less f L (Seq C D)) inner.2 (l_seq inner.0 B C D s.beside q); idle = s.idle })
        (λ next.
        let free = when_does (light A && not (is_doer_due e A)) (under (Seq A) (plays castD storesD choicesD u B e)) c H next.1 in
        let inner = under_does (Seq A) (plays castD storesD choicesD u B e) c H free.1 in
        let s = idles B D q e c inner.0 inner.1 own in
        record { beside = subst (λ L. Less f L (Seq C D)) inner.2 (l_seq A inner.0 C D p s.beside); idle = s.idle })
        (orelse_does (under (λ L. Seq L B) (plays castD storesD choicesD u A e)) (when (light A && not (is_doer_due e A)) (under (Seq A) (plays castD storesD choicesD u B e))) c H h)
    idles G K (l_before A B C a q) e c H h own = ⊎_elim
        (λ first.
        let inner = under_does (λ L. Seq L B) (plays castD storesD choicesD u A e) c H first in
        let s = added_plays A a e c inner.0 inner.1 in
        record { beside = subst (λ L. Less f L C) inner.2 (l_before inner.0 B C s.still q); idle = s.idle })
        (λ next.
        let free = when_does (light A && not (is_doer_due e A)) (under (Seq A) (plays castD storesD choicesD u B e)) c H next.1 in
        let inner = under_does (Seq A) (plays castD storesD choicesD u B e) c H free.1 in
        let s = idles B C q e c inner.0 inner.1 own in
        record { beside = subst (λ L. Less f L C) inner.2 (l_before A inner.0 C a s.beside); idle = s.idle })
        (orelse_does (under (λ L. Seq L B) (plays castD storesD choicesD u A e)) (when (light A && not (is_doer_due e A)) (under (Seq A) (plays castD storesD choicesD u B e))) c H h)
    idles G K (l_behind B A C q a) e c H h own = ⊎_elim
        (λ first.
        let inner = under_does (λ L. Seq L A) (plays castD storesD choicesD u B e) c H first in
        let s = idles B C q e c inner.0 inner.1 own in
        record { beside = subst (λ L. Less f L C) inner.2 (l_behind inner.0 A C s.beside a); idle = s.idle })
        (λ next.
        let free = when_does (light B && not (is_doer_due e B)) (under (Seq B) (plays castD storesD choicesD u A e)) c H next.1 in
        let inner = under_does (Seq B) (plays castD storesD choicesD u A e) c H free.1 in
        let s = added_plays A a e c inner.0 inner.1 in
        record { beside = subst (λ L. Less f L C) inner.2 (l_behind B inner.0 C q s.still); idle = s.idle })
        (orelse_does (under (λ L. Seq L A) (plays castD storesD choicesD u B e)) (when (light B && not (is_doer_due e B)) (under (Seq B) (plays castD storesD choicesD u A e))) c H h)

    -- Any other entry, where both sides read the same
    module _ (castB : List Role) (storesB : Role → Store) (choicesB : ScopeHead → BookChoice) (e : Entry)
        (evals : (r : Role) (x : Expression) → taken_variable x ≡ None → eval x (storesD r) ≡ eval x (storesB r))
        (reads : (r : Role) → next_input (storesD r) ≡ next_input (storesB r))
        (decides : (i j : Index) (r : Role) (I K : Term) (extra : List Role) (props : List (List ℕ × Value)) (level : ℕ) → ((q : Role) → is_in q I ≡ is_in q K)
        → SameChoice e u level (choicesD (head_of castD i r I extra props level)) (choicesB (head_of castB j r K extra props level))) where
      pub record Goes (K : Running) (c : Effect) (H : Running) : Type 0 where
        pub left : Running
        pub step : plays castB storesB choicesB u K (reindexed f e) ≡ Does c left
        pub beside : Less f H left

      -- a construct that plays exactly one entry
      atom : (K : Running) (X Y : Entry) (c d : Effect) (H M L : Running) → when (entry_eq e X) (Does d M) ≡ Does c H → reindexed f X ≡ Y
          → ((other : Entry) → plays castB storesB choicesB u K other ≡ when (entry_eq other Y) (Does d L)) → Less f M L → Goes K c H
      atom K X Y c d H M L h at one beside =
          let both = when_does (entry_eq e X) (Does d M) c H h in
          let is : Does d M ≡ Does c H = both.1 in
          let same : M ≡ H = cc in
          let what : d ≡ c = cc in
          record {
            left = L;
            step = one (reindexed f e) ∙ cond-true (entry_eq (reindexed f e) Y) (Does d L) Stuck
                (ap (λ other. entry_eq other Y) (ap (reindexed f) (entry_is e X both.0) ∙ at) ∙ entry_itself Y)
                ∙ ap (λ k. Does k L) what;
            beside = subst (λ T. Less f T L) same beside;
          }

      pick_turn : (i j : Index) (r : Role) (g : Expression) (A C : Term) (t s : Bool) → t ≡ s → f i ≡ j → taken_variable g ≡ None → Mends f A C
          → Less f (if t then Again i r g A (started A) else Skip) (if s then Again j r g C (started C) else Skip)
      pick_turn i j r g A C t s same at free m = subst (λ v. Less f (if t then Again i r g A (started A) else Skip) (if v then Again j r g C (started C) else Skip)) same (by_test t)
        where
          by_test : (v : Bool) → Less f (if v then Again i r g A (started A) else Skip) (if v then Again j r g C (started C) else Skip)
          by_test true = l_again i j r g A C (started A) (started C) at free m (starts A C m)
          by_test false = l_skip

      while_goes : (K : Running) (i j : Index) (r : Role) (g : Expression) (A C : Term) (c : Effect) (H : Running) → f i ≡ j → taken_variable g ≡ None → Mends f A C
          → while_plays castD storesD choicesD u i r g A e ≡ Does c H
          → ((other : Entry) → plays castB storesB choicesB u K other ≡ while_plays castB storesB choicesB u j r g C other) → Goes K c H
      while_goes K i j r g A C c H at free m h one =
          atom K (entry.Pick i r (is_true (eval g (storesD r)))) (entry.Pick j r (is_true (eval g (storesB r)))) c Leaves H
          (if is_true (eval g (storesD r)) then Again i r g A (started A) else Skip) (if is_true (eval g (storesB r)) then Again j r g C (started C) else Skip) h
          (ap₂ (λ k v. entry.Pick k r (is_true v)) at (evals r g free)) one
          (pick_turn i j r g A C (is_true (eval g (storesD r))) (is_true (eval g (storesB r))) (ap is_true (evals r g free)) at free m)

      branch : (A B C D : Term) (t s : Bool) → t ≡ s → Mends f A C → Mends f B D → Less f (started (if t then A else B)) (started (if s then C else D))
      branch A B C D t s same p q = subst (λ v. Less f (started (if t then A else B)) (started (if v then C else D))) same (by_test t)
        where
          by_test : (v : Bool) → Less f (started (if v then A else B)) (started (if v then C else D))
          by_test true = starts A C p
          by_test false = starts B D q

      scope_goes : (K : Running) (i j : Index) (r : Role) (A C : Term) (roles others : Role → Bool) (level : ℕ) (x y : BookChoice) (c : Effect) (H : Running)
          → f i ≡ j → Mends f A C → SameChoice e u level x y → scope_plays castD storesD choicesD u i r A roles level x e ≡ Does c H
          → ((other : Entry) → plays castB storesB choicesB u K other ≡ scope_plays castB storesB choicesB u j r C others level y other) → Goes K c H
      scope_goes K i j r A C roles others level KeepsBody KeepsBody c H at m same h one =
          atom K (entry.Scope i r chosen.Keep) (entry.Scope j r chosen.Keep) c Leaves H (Bar roles (started A)) (Bar others (started C)) h
          (ap (λ k. entry.Scope k r chosen.Keep) at) one (l_bar roles others (started A) (started C) (starts A C m))
      scope_goes K i j r A C roles others level (TakesRule p I) (TakesRule q J) c H at m same h one =
          atom K (entry.Scope i r (chosen.Rule p (suc u))) (entry.Scope j r (chosen.Rule q (suc u))) c Leaves H
          (Bar roles (started (stamped I (suc u) (suc level)))) (Bar others (started (stamped J (suc u) (suc level)))) h
          (ap₂ (λ k n. entry.Scope k r (chosen.Rule n (suc u))) at same.0) one
          (l_bar roles others (started (stamped I (suc u) (suc level))) (started (stamped J (suc u) (suc level)))
          (starts (stamped I (suc u) (suc level)) (stamped J (suc u) (suc level))
          (same.1 i r (entry_is e (entry.Scope i r (chosen.Rule p (suc u))) (when_does (entry_eq e (entry.Scope i r (chosen.Rule p (suc u)))) _ c H h).0))))
      scope_goes K i j r A C roles others level KeepsBody (TakesRule q J) c H at m same h one = absurd same
      scope_goes K i j r A C roles others level (TakesRule p I) KeepsBody c H at m same h one = absurd same

      -- whoever isn't due stays so
      not_due : (d : Entry) (A C : Running) → Less f A C → is_doer_due d A ≡ false → is_doer_due (reindexed f d) C ≡ false
      not_due (entry.Put k n) A C l h = less_due k.from A C l h
      not_due (entry.Take k x) A C l h = less_due k.to A C l h
      not_due (entry.Set i r x v) A C l h = less_due r A C l h
      not_due (entry.Input i r x v) A C l h = less_due r A C l h
      not_due (entry.Pick i r t) A C l h = less_due r A C l h
      not_due (entry.Scope i r t) A C l h = less_due r A C l h
      not_due (entry.Add name) A C l h = refl
      not_due (entry.Drop name) A C l h = refl
      not_due (entry.Env key v) A C l h = refl

      may_pass : (A C : Running) → Less f A C → (light A && not (is_doer_due e A)) ≡ true → (light C && not (is_doer_due (reindexed f e) C)) ≡ true
      may_pass A C l h =
          let parts = and_parts (light A) (not (is_doer_due e A)) h in
          and_from _ _ (less_light A C l parts.0) (not_from_false (is_doer_due (reindexed f e) C) (not_due e A C l (not-true (is_doer_due e A) parts.1)))

      other_entry : (A : Running) → AddedRun A → (c : Effect) (H : Running) (P : Type 0) → plays castD storesD choicesD u A e ≡ Does c H
          → is_added_entry e ≡ false → P
      other_entry A a c H P h other = absurd (both_ways (is_added_entry e) other (added_plays A a e c H h).own)

      pub goes : (G K : Running) → Less f G K → Single K → (c : Effect) (H : Running) → plays castD storesD choicesD u G e ≡ Does c H
          → is_added_entry e ≡ false → Goes K c H
      goes G K l_skip single c H h other = cc
      goes G K (l_com i j o a x b y at os free) single c H h other =
          atom K (entry.Put (operation a b i o) (note.Val (eval x (storesD a)))) (entry.Put (operation a b j o) (note.Val (eval x (storesB a)))) c Leaves H
          (Fly i o a b y (eval x (storesD a))) (Fly j o a b y (eval x (storesB a))) h
          (ap₂ (λ k v. entry.Put (operation a b k o) (note.Val v)) at (evals a x free)) (λ k. refl)
          (subst (λ v. Less f (Fly i o a b y (eval x (storesD a))) (Fly j o a b y v)) (evals a x free) (l_fly i j o a b y (eval x (storesD a)) at os))
      goes G K (l_fly i j o a b y v at os) single c H h other =
          atom K (entry.Take (operation a b i o) (Some y)) (entry.Take (operation a b j o) (Some y)) c (Assigns y v) H Skip Skip h
          (ap (λ k. entry.Take (operation a b k o) (Some y)) at) (λ k. refl) l_skip
      goes G K (l_set i j x r y at free) single c H h other =
          atom K (entry.Set i r x (eval y (storesD r))) (entry.Set j r x (eval y (storesB r))) c (Assigns x (eval y (storesD r))) H Skip Skip h
          (ap₂ (λ k v. entry.Set k r x v) at (evals r y free))
          (λ k. ap (λ v. when (entry_eq k (entry.Set j r x (eval y (storesB r)))) (Does (Assigns x v) Skip)) (sym (evals r y free))) l_skip
      goes G K (l_input i j x r at) single c H h other =
          atom K (entry.Input i r x (next_input (storesD r))) (entry.Input j r x (next_input (storesB r))) c (Reads x (next_input (storesD r))) H Skip Skip h
          (ap₂ (λ k v. entry.Input k r x v) at (reads r))
          (λ k. ap (λ v. when (entry_eq k (entry.Input j r x (next_input (storesB r)))) (Does (Reads x v) Skip)) (sym (reads r))) l_skip
      goes G K (l_if i j r g A B C D at free p q) single c H h other =
          atom K (entry.Pick i r (is_true (eval g (storesD r)))) (entry.Pick j r (is_true (eval g (storesB r)))) c Leaves H
          (started (if is_true (eval g (storesD r)) then A else B)) (started (if is_true (eval g (storesB r)) then C else D)) h
          (ap₂ (λ k v. entry.Pick k r (is_true v)) at (evals r g free)) (λ k. refl)
          (branch A B C D (is_true (eval g (storesD r))) (is_true (eval g (storesB r))) (ap is_true (evals r g free)) p q)
      goes G K (l_while i j r g A C at free p) single c H h other = while_goes K i j r g A C c H at free p h (λ k. refl)
      goes G K (l_scope i j r A C extra props level at roles p) single c H h other =
          scope_goes K i j r A C (λ q. is_in q (term.Scope i r A extra props level)) (λ q. is_in q (term.Scope j r C extra props level)) level
          (choicesD (head_of castD i r A extra props level)) (choicesB (head_of castB j r C extra props level)) c H at p
          (decides i j r A C extra props level roles) h (λ k. refl)
      goes G K (l_bar roles others A C p) single c H h other =
          let inner = under_does (Bar roles) (plays castD storesD choicesD u A e) c H h in
          let s = goes A C p single c inner.0 inner.1 other in
          record {
            left = Bar others s.left;
            step = ap (under (Bar others)) s.step;
            beside = subst (λ T. Less f T (Bar others s.left)) inner.2 (l_bar roles others inner.0 s.left s.beside);
          }
      goes G K (l_again i j r g A C B D at free m p) single c H h other = ⊎_elim
          (λ first.
          let inner = under_does (Again i r g A) (plays castD storesD choicesD u B e) c H first in
          let s = goes B D p single.1 c inner.0 inner.1 other in
          record {
            left = Again j r g C s.left;
            step = ap (λ k. orelse (under (Again j r g C) k) (when (ended D) (while_plays castB storesB choicesB u j r g C (reindexed f e)))) s.step;
            beside = subst (λ T. Less f T (Again j r g C s.left)) inner.2 (l_again i j r g A C inner.0 s.left at free m s.beside);
          })
          (λ next.
          let over = when_does (ended B) (while_plays castD storesD choicesD u i r g A e) c H next.1 in
          let gone : ended D ≡ true = less_ended B D p over.0 in
          while_goes K i j r g A C c H at free m over.1 (λ k.
          ap₂ (λ x t. orelse (under (Again j r g C) x) (when t (while_plays castB storesB choicesB u j r g C k))) (ended_stuck castB storesB choicesB u D k gone) gone))
          (orelse_does (under (Again i r g A) (plays castD storesD choicesD u B e)) (when (ended B) (while_plays castD storesD choicesD u i r g A e)) c H h)
      goes G K (l_par A B C D p q) single c H h other = ⊎_elim
          (λ first.
          let inner = under_does (λ L. Par L B) (plays castD storesD choicesD u A e) c H first in
          let s = goes A C p single.0.0 c inner.0 inner.1 other in
          record {
            left = Par s.left D;
            step = ap (λ k. orelse (under (λ L. Par L D) k) (under (Par C) (plays castB storesB choicesB u D (reindexed f e)))) s.step;
            beside = subst (λ T. Less f T (Par s.left D)) inner.2 (l_par inner.0 B s.left D s.beside q);
          })
          (λ next.
          let inner = under_does (Par A) (plays castD storesD choicesD u B e) c H next.1 in
          let s = goes B D q single.0.1 c inner.0 inner.1 other in
          record {
            left = Par C s.left;
            step = ap₂ (λ k l. orelse (under (λ L. Par L D) k) (under (Par C) l))
                (first_stuck castB storesB choicesB u C D (reindexed f e) c s.left single.1 s.step) s.step;
            beside = subst (λ T. Less f T (Par C s.left)) inner.2 (l_par A inner.0 C s.left p s.beside);
          })
          (orelse_does (under (λ L. Par L B) (plays castD storesD choicesD u A e)) (under (Par A) (plays castD storesD choicesD u B e)) c H h)
      goes G K (l_seq A B C D p q) single c H h other = ⊎_elim
          (λ first.
          let inner = under_does (λ L. Seq L B) (plays castD storesD choicesD u A e) c H first in
          let s = goes A C p single.0.0 c inner.0 inner.1 other in
          record {
            left = Seq s.left D;
            step = ap (λ k. orelse (under (λ L. Seq L D) k)
                (when (light C && not (is_doer_due (reindexed f e) C)) (under (Seq C) (plays castB storesB choicesB u D (reindexed f e))))) s.step;
            beside = subst (λ T. Less f T (Seq s.left D)) inner.2 (l_seq inner.0 B s.left D s.beside q);
          })
          (λ next.
          let free = when_does (light A && not (is_doer_due e A)) (under (Seq A) (plays castD storesD choicesD u B e)) c H next.1 in
          let inner = under_does (Seq A) (plays castD storesD choicesD u B e) c H free.1 in
          let s = goes B D q single.0.1 c inner.0 inner.1 other in
          record {
            left = Seq C s.left;
            step = ap₂ (λ k l. orelse (under (λ L. Seq L D) k) (when (light C && not (is_doer_due (reindexed f e) C)) (under (Seq C) l)))
                (first_stuck castB storesB choicesB u C D (reindexed f e) c s.left single.1 s.step) s.step
                ∙ cond-true (light C && not (is_doer_due (reindexed f e) C)) (Does c (Seq C s.left)) Stuck (may_pass A C p free.0);
            beside = subst (λ T. Less f T (Seq C s.left)) inner.2 (l_seq A inner.0 C s.left p s.beside);
          })
          (orelse_does (under (λ L. Seq L B) (plays castD storesD choicesD u A e)) (when (light A && not (is_doer_due e A)) (under (Seq A) (plays castD storesD choicesD u B e))) c H h)
      goes G K (l_before A B C a q) single c H h other = ⊎_elim
          (λ first.
          let inner = under_does (λ L. Seq L B) (plays castD storesD choicesD u A e) c H first in
          other_entry A a c inner.0 _ inner.1 other)
          (λ next.
          let free = when_does (light A && not (is_doer_due e A)) (under (Seq A) (plays castD storesD choicesD u B e)) c H next.1 in
          let inner = under_does (Seq A) (plays castD storesD choicesD u B e) c H free.1 in
          let s = goes B C q single c inner.0 inner.1 other in
          record { left = s.left; step = s.step; beside = subst (λ T. Less f T s.left) inner.2 (l_before A inner.0 s.left a s.beside) })
          (orelse_does (under (λ L. Seq L B) (plays castD storesD choicesD u A e)) (when (light A && not (is_doer_due e A)) (under (Seq A) (plays castD storesD choicesD u B e))) c H h)
      goes G K (l_behind B A C q a) single c H h other = ⊎_elim
          (λ first.
          let inner = under_does (λ L. Seq L A) (plays castD storesD choicesD u B e) c H first in
          let s = goes B C q single c inner.0 inner.1 other in
          record { left = s.left; step = s.step; beside = subst (λ T. Less f T s.left) inner.2 (l_behind inner.0 A s.left s.beside a) })
          (λ next.
          let free = when_does (light B && not (is_doer_due e B)) (under (Seq B) (plays castD storesD choicesD u A e)) c H next.1 in
          let inner = under_does (Seq B) (plays castD storesD choicesD u A e) c H free.1 in
          other_entry A a c inner.0 _ inner.1 other)
          (orelse_does (under (λ L. Seq L A) (plays castD storesD choicesD u B e)) (when (light B && not (is_doer_due e B)) (under (Seq B) (plays castD storesD choicesD u A e))) c H h)
