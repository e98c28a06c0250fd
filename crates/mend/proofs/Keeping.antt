-- Parts side by side keep sharing no index: what a step leaves has the indices that were there, and those of the next update.
use Rattle.std.proofs.Common.{◌≡◌, ℕ, suc, ◌+◌, ◌≤◌, ◌<◌, List, Bool, true, false, ◌&&◌, ◌||◌, not, if◌then◌else◌, refl, sym, ap, ap₂, ◌∙◌, subst, ⊎_elim, ◌⊎◌, inl, inr, arith}
use Rattle.std.proofs.lemmas.Bool.{or_cases, or_left, or_right, both_ways, cases_Bool, cond_both}
use Rattle.dioc_terms.specs.declared.names.Role.{Role}
use Rattle.dioc_terms.specs.declared.names.Index.{Index}
use Rattle.dioc_terms.specs.declared.values.Value.{Value}
use Rattle.dioc_terms.specs.declared.processes.ScopeHead.{ScopeHead}
use Rattle.dioc_terms.specs.declared.entries.Entry.{Entry}
use Rattle.dioc_terms.specs.declared.entries.Entry.TheVariants as entry
use Rattle.dioc_terms.specs.declared.entries.Chosen.TheVariants as chosen
use Rattle.dioc_terms.specs.Attempts.{Does, under, when}
use Rattle.dioc_terms.specs.Equality.{index_eq, entry_eq}
use Rattle.dioc_terms.specs.EqualityLemmas.{equality-decides}
use Rattle.dioc_terms.specs.Expressions.{Expression}
use Rattle.dioc_terms.specs.Stores.{Store, next_input}
use Rattle.dioc_terms.specs.Terms as term
use Rattle.dioc_terms.specs.Terms.{Term, is_in, at_epoch, index_at, indexed, indexed_from, stamped, constructs, head_of}
use Rattle.dioc_terms.specs.Values.{eval, is_true}
use Rattle.global_steps.specs.Running.{Running, Skip, Com, Set, Input, Seq, Par, If, While, Scope, Fly, Bar, Again, started, ended, light}
use Rattle.global_steps.specs.Follow.{Effect, Leaves, Assigns, Reads, BookChoice, KeepsBody, TakesRule, is_doer_due, updates_after, while_plays, scope_plays, plays}
use Rattle.mend.proofs.Apart.{entry_is, when_does, under_does, orelse_does, text_has, has, SingleText, Single, has_started, single_started}

index_same : (i j : Index) → index_eq i j ≡ true → i ≡ j
index_same i j h = (equality-decides.index i j).0 h

-- The indices of a marked body, stamped as an update
pub record IsBetween (i : Index) (n low high : ℕ) : Type 0 where
  pub of_epoch : i.epoch ≡ n
  pub least : low ≤ i.place
  pub most : i.place < high

placed : (i : Index) (n p low high : ℕ) → index_eq i (at_epoch n (index_at p)) ≡ true → low ≤ p → p < high → IsBetween i n low high
placed i n p low high h least most =
    let place : i.place ≡ p = ap (λ (j : Index). j.place) (index_same i (at_epoch n (index_at p)) h) in
    record {
      of_epoch = ap (λ (j : Index). j.epoch) (index_same i (at_epoch n (index_at p)) h);
      least = omega (arith, place, least);
      most = omega (arith, place, most);
    }

wider : (i : Index) (n low high lower higher : ℕ) → lower ≤ low → high ≤ higher → IsBetween i n low high → IsBetween i n lower higher
wider i n low high lower higher h k is = record {
  of_epoch = is.of_epoch;
  least = let a : low ≤ i.place = is.least in omega (arith, a);
  most = let a : i.place < high = is.most in omega (arith, a);
}

pub between : (i : Index) (n level m : ℕ) (I : Term) → text_has i (stamped (indexed_from m I) n level) ≡ true → IsBetween i n m (m + constructs I)
between i n level m term.Skip h = cc
between i n level m (term.Com j o a e b x) h = placed i n m m (m + 1) h (omega arith) (omega arith)
between i n level m (term.Set j x r e) h = placed i n m m (m + 1) h (omega arith) (omega arith)
between i n level m (term.Input j x r) h = placed i n m m (m + 1) h (omega arith) (omega arith)
between i n level m (term.Seq I J) h = ⊎_elim
    (λ s. wider i n m (m + constructs I) m (m + (constructs I + constructs J)) (omega arith) (omega arith) (between i n level m I s))
    (λ s. wider i n (m + constructs I) (m + constructs I + constructs J) m (m + (constructs I + constructs J)) (omega arith) (omega arith)
    (between i n level (m + constructs I) J s))
    (or_cases _ _ h)
between i n level m (term.Par I J) h = ⊎_elim
    (λ s. wider i n m (m + constructs I) m (m + (constructs I + constructs J)) (omega arith) (omega arith) (between i n level m I s))
    (λ s. wider i n (m + constructs I) (m + constructs I + constructs J) m (m + (constructs I + constructs J)) (omega arith) (omega arith)
    (between i n level (m + constructs I) J s))
    (or_cases _ _ h)
between i n level m (term.If j r g I J) h = ⊎_elim
    (λ s. placed i n m m (m + suc (constructs I + constructs J)) s (omega arith) (omega arith))
    (λ inner. ⊎_elim
    (λ s. wider i n (suc m) (suc m + constructs I) m (m + suc (constructs I + constructs J)) (omega arith) (omega arith) (between i n level (suc m) I s))
    (λ s. wider i n (suc m + constructs I) (suc m + constructs I + constructs J) m (m + suc (constructs I + constructs J)) (omega arith) (omega arith)
    (between i n level (suc m + constructs I) J s))
    (or_cases _ _ inner))
    (or_cases _ _ h)
between i n level m (term.While j r g I) h = ⊎_elim
    (λ s. placed i n m m (m + suc (constructs I)) s (omega arith) (omega arith))
    (λ s. wider i n (suc m) (suc m + constructs I) m (m + suc (constructs I)) (omega arith) (omega arith) (between i n level (suc m) I s))
    (or_cases _ _ h)
between i n level m (term.Scope j r I extra props l) h = ⊎_elim
    (λ s. placed i n m m (m + suc (constructs I)) s (omega arith) (omega arith))
    (λ s. wider i n (suc m) (suc m + constructs I) m (m + suc (constructs I)) (omega arith) (omega arith) (between i n level (suc m) I s))
    (or_cases _ _ h)

apart_texts : (n level m k : ℕ) (I J : Term) → m + constructs I ≤ k → (i : Index) → text_has i (stamped (indexed_from k J) n level) ≡ true
    → text_has i (stamped (indexed_from m I) n level) ≡ false
apart_texts n level m k I J later i h = ⊎_elim
    (λ yes.
    let one : i.place < m + constructs I = (between i n level m I yes).most in
    let other : k ≤ i.place = (between i n level k J h).least in
    absurd (omega (arith, one, other, later)))
    (λ no. no)
    (cases_Bool (text_has i (stamped (indexed_from m I) n level)))

pub single_stamped : (n level m : ℕ) (I : Term) → SingleText (stamped (indexed_from m I) n level)
single_stamped n level m term.Skip = tt
single_stamped n level m (term.Com j o a e b x) = tt
single_stamped n level m (term.Set j x r e) = tt
single_stamped n level m (term.Input j x r) = tt
single_stamped n level m (term.Seq I J) =
    ((single_stamped n level m I, single_stamped n level (m + constructs I) J), apart_texts n level m (m + constructs I) I J (omega arith))
single_stamped n level m (term.Par I J) =
    ((single_stamped n level m I, single_stamped n level (m + constructs I) J), apart_texts n level m (m + constructs I) I J (omega arith))
single_stamped n level m (term.If j r g I J) = (single_stamped n level (suc m) I, single_stamped n level (suc m + constructs I) J)
single_stamped n level m (term.While j r g I) = single_stamped n level (suc m) I
single_stamped n level m (term.Scope j r I extra props l) = single_stamped n level (suc m) I

-- a marked text is stamped already
pub marked_stamped : (m : ℕ) (I : Term) → stamped (indexed_from m I) 0 0 ≡ indexed_from m I
marked_stamped m term.Skip = refl
marked_stamped m (term.Com j o a e b x) = refl
marked_stamped m (term.Set j x r e) = refl
marked_stamped m (term.Input j x r) = refl
marked_stamped m (term.Seq I J) = ap₂ (λ s t. term.Seq s t) (marked_stamped m I) (marked_stamped (m + constructs I) J)
marked_stamped m (term.Par I J) = ap₂ (λ s t. term.Par s t) (marked_stamped m I) (marked_stamped (m + constructs I) J)
marked_stamped m (term.If j r g I J) = ap₂ (λ s t. term.If (index_at m) r g s t) (marked_stamped (suc m) I) (marked_stamped (suc m + constructs I) J)
marked_stamped m (term.While j r g I) = ap (λ s. term.While (index_at m) r g s) (marked_stamped (suc m) I)
marked_stamped m (term.Scope j r I extra props l) = ap (λ s. term.Scope (index_at m) r s extra props 0) (marked_stamped (suc m) I)

-- Steps
-- each index of an update up to this one
abbrev pub Old : ℕ → Running → Type 0
Old u G = (i : Index) → has i G ≡ true → i.epoch ≤ u

pub record Keeps (u : ℕ) (e : Entry) (G L : Running) : Type 0 where
  pub single : Single L
  pub was : (i : Index) → has i L ≡ true → (has i G ≡ true) ⊎ ((i.epoch ≡ suc u) × (updates_after e u ≡ suc u))

module _ (cast : List Role) (stores : Role → Store) (choices : ScopeHead → BookChoice) (u : ℕ)
    (bodies : (head : ScopeHead) (name : List ℕ) (body : Term) → choices head ≡ TakesRule name body → body ≡ indexed body)
    (e : Entry) where
  atom : (G : Running) (t : Bool) (d c : Effect) (M H : Running) → when t (Does d M) ≡ Does c H → Keeps u e G M → Keeps u e G H
  atom G t d c M H h k = let is : Does d M ≡ Does c H = (when_does t (Does d M) c H h).1 in let same : M ≡ H = cc in subst (Keeps u e G) same k

  -- a text begins whose indices were there
  begun : (G : Running) (I : Term) → SingleText I → ((i : Index) → text_has i I ≡ true → has i G ≡ true) → Keeps u e G (started I)
  begun G I single there = record { single = single_started I single; was = λ i s. inl (there i (sym (has_started i I) ∙ s)) }

  nothing_left : (G : Running) → Keeps u e G Skip
  nothing_left G = record { single = tt; was = λ i s. absurd (both_ways false refl s) }

  turn : (i : Index) (r : Role) (g : Expression) (I : Term) (t : Bool) → SingleText I → Keeps u e (While i r g I) (if t then Again i r g I (started I) else Skip)
  turn i r g I true single = record {
    single = (single, single_started I single);
    was = λ j s. inl (⊎_elim (λ before. before) (λ inside. or_right (index_eq j i) (text_has j I) (sym (has_started j I) ∙ inside)) (or_cases _ _ s));
  }
  turn i r g I false single = nothing_left (While i r g I)

  while_keeps : (i : Index) (r : Role) (g : Expression) (I : Term) (c : Effect) (H : Running) → SingleText I
      → while_plays cast stores choices u i r g I e ≡ Does c H → Keeps u e (While i r g I) H
  while_keeps i r g I c H single h = atom (While i r g I) (entry_eq e (entry.Pick i r (is_true (eval g (stores r))))) Leaves c
      (if is_true (eval g (stores r)) then Again i r g I (started I) else Skip) H h (turn i r g I (is_true (eval g (stores r))) single)

  in_bar : (roles : Role → Bool) (G L : Running) → Keeps u e G L → Keeps u e G (Bar roles L)
  in_bar roles G L k = record { single = k.single; was = k.was }

  scope_keeps : (i : Index) (r : Role) (I : Term) (extra : List Role) (props : List (List ℕ × Value)) (level : ℕ) (roles : Role → Bool) (choice : BookChoice)
      (c : Effect) (H : Running) → ((name : List ℕ) (body : Term) → choice ≡ TakesRule name body → body ≡ indexed body) → SingleText I
      → scope_plays cast stores choices u i r I roles level choice e ≡ Does c H → Keeps u e (Scope i r I extra props level) H
  scope_keeps i r I extra props level roles KeepsBody c H marks single h =
      atom (Scope i r I extra props level) (entry_eq e (entry.Scope i r chosen.Keep)) Leaves c (Bar roles (started I)) H h
      (in_bar roles (Scope i r I extra props level) (started I) (begun (Scope i r I extra props level) I single (λ j s. or_right (index_eq j i) (text_has j I) s)))
  scope_keeps i r I extra props level roles (TakesRule name body) c H marks single h =
      atom (Scope i r I extra props level) (entry_eq e (entry.Scope i r (chosen.Rule name (suc u)))) Leaves c (Bar roles (started (stamped body (suc u) (suc level)))) H h
      (in_bar roles (Scope i r I extra props level) (started (stamped body (suc u) (suc level))) (record {
        single = single_started (stamped body (suc u) (suc level))
            (subst (λ B. SingleText (stamped B (suc u) (suc level))) (sym (marks name body refl)) (single_stamped (suc u) (suc level) 0 body));
        was = λ j s. inr (
          (between j (suc u) (suc level) 0 body (subst (λ B. text_has j (stamped B (suc u) (suc level)) ≡ true) (marks name body refl)
              (sym (has_started j (stamped body (suc u) (suc level))) ∙ s))).of_epoch,
          ap (λ d. updates_after d u) (entry_is e (entry.Scope i r (chosen.Rule name (suc u))) (when_does (entry_eq e (entry.Scope i r (chosen.Rule name (suc u)))) _ c H h).0),
        );
      }))

  -- one of two parts steps
  left_apart : (A B L : Running) → Old u B → ((i : Index) → has i B ≡ true → has i A ≡ false) → Keeps u e A L → (i : Index) → has i B ≡ true → has i L ≡ false
  left_apart A B L old apart k i s = ⊎_elim
      (λ yes. absurd (⊎_elim
      (λ was. both_ways (has i A) (apart i s) was)
      (λ new. let here : i.epoch ≤ u = old i s in let next : i.epoch ≡ suc u = new.0 in omega (arith, here, next))
      (k.was i yes)))
      (λ no. no)
      (cases_Bool (has i L))

  right_apart : (A B L : Running) → Old u A → ((i : Index) → has i B ≡ true → has i A ≡ false) → Keeps u e B L → (i : Index) → has i L ≡ true → has i A ≡ false
  right_apart A B L old apart k i s = ⊎_elim
      (λ was. apart i was)
      (λ new. ⊎_elim
      (λ yes. let here : i.epoch ≤ u = old i yes in let next : i.epoch ≡ suc u = new.0 in absurd (omega (arith, here, next)))
      (λ no. no)
      (cases_Bool (has i A)))
      (k.was i s)

  left_was : (A B L : Running) → Keeps u e A L → (i : Index) → (has i L || has i B) ≡ true → ((has i A || has i B) ≡ true) ⊎ ((i.epoch ≡ suc u) × (updates_after e u ≡ suc u))
  left_was A B L k i s = ⊎_elim
      (λ yes. ⊎_elim (λ was. inl (or_left (has i A) (has i B) was)) (λ new. inr new) (k.was i yes))
      (λ other. inl (or_right (has i A) (has i B) other))
      (or_cases (has i L) (has i B) s)

  right_was : (A B L : Running) → Keeps u e B L → (i : Index) → (has i A || has i L) ≡ true → ((has i A || has i B) ≡ true) ⊎ ((i.epoch ≡ suc u) × (updates_after e u ≡ suc u))
  right_was A B L k i s = ⊎_elim
      (λ other. inl (or_left (has i A) (has i B) other))
      (λ yes. ⊎_elim (λ was. inl (or_right (has i A) (has i B) was)) (λ new. inr new) (k.was i yes))
      (or_cases (has i A) (has i L) s)

  pub keeps : (G : Running) (c : Effect) (H : Running) → Single G → Old u G → plays cast stores choices u G e ≡ Does c H → Keeps u e G H
  keeps Skip c H single old h = cc
  keeps (Com i o a x b y) c H single old h = atom (Com i o a x b y) _ Leaves c (Fly i o a b y (eval x (stores a))) H h (record { single = tt; was = λ j s. inl s })
  keeps (Fly i o a b y v) c H single old h = atom (Fly i o a b y v) _ (Assigns y v) c Skip H h (nothing_left (Fly i o a b y v))
  keeps (Set i x r y) c H single old h = atom (Set i x r y) _ (Assigns x (eval y (stores r))) c Skip H h (nothing_left (Set i x r y))
  keeps (Input i x r) c H single old h = atom (Input i x r) _ (Reads x (next_input (stores r))) c Skip H h (nothing_left (Input i x r))
  keeps (If i r g I J) c H single old h =
      atom (If i r g I J) _ Leaves c (started (if is_true (eval g (stores r)) then I else J)) H h
      (cond_both (is_true (eval g (stores r))) I J (λ T. Keeps u e (If i r g I J) (started T))
      (λ yes. begun (If i r g I J) I single.0 (λ j s. or_right _ _ (or_left _ _ s)))
      (λ no. begun (If i r g I J) J single.1 (λ j s. or_right _ _ (or_right _ _ s))))
  keeps (While i r g I) c H single old h = while_keeps i r g I c H single h
  keeps (Scope i r I extra props level) c H single old h =
      scope_keeps i r I extra props level (λ q. is_in q (term.Scope i r I extra props level)) (choices (head_of cast i r I extra props level)) c H
      (λ name body is. bodies (head_of cast i r I extra props level) name body is) single h
  keeps (Bar roles G) c H single old h =
      let inner = under_does (Bar roles) (plays cast stores choices u G e) c H h in
      let k = keeps G c inner.0 single old inner.1 in
      subst (Keeps u e (Bar roles G)) inner.2 (record { single = k.single; was = k.was })
  keeps (Again i r g I G) c H single old h = ⊎_elim
      (λ first.
      let inner = under_does (Again i r g I) (plays cast stores choices u G e) c H first in
      let k = keeps G c inner.0 single.1 (λ j s. old j (or_right _ _ s)) inner.1 in
      subst (Keeps u e (Again i r g I G)) inner.2 (record {
        single = (single.0, k.single);
        was = λ j s. ⊎_elim (λ before. inl (or_left _ _ before)) (λ inside. ⊎_elim (λ was. inl (or_right _ _ was)) (λ new. inr new) (k.was j inside)) (or_cases _ _ s);
      }))
      (λ next.
      let k = while_keeps i r g I c H single.0 (when_does (ended G) (while_plays cast stores choices u i r g I e) c H next.1).1 in
      record { single = k.single; was = λ j s. ⊎_elim (λ was. inl (or_left _ _ was)) (λ new. inr new) (k.was j s) })
      (orelse_does (under (Again i r g I) (plays cast stores choices u G e)) (when (ended G) (while_plays cast stores choices u i r g I e)) c H h)
  keeps (Par A B) c H single old h = ⊎_elim
      (λ first.
      let inner = under_does (λ K. Par K B) (plays cast stores choices u A e) c H first in
      let k = keeps A c inner.0 single.0.0 (λ j s. old j (or_left _ _ s)) inner.1 in
      subst (Keeps u e (Par A B)) inner.2 (record {
        single = ((k.single, single.0.1), left_apart A B inner.0 (λ j s. old j (or_right _ _ s)) single.1 k);
        was = left_was A B inner.0 k;
      }))
      (λ next.
      let inner = under_does (Par A) (plays cast stores choices u B e) c H next.1 in
      let k = keeps B c inner.0 single.0.1 (λ j s. old j (or_right _ _ s)) inner.1 in
      subst (Keeps u e (Par A B)) inner.2 (record {
        single = ((single.0.0, k.single), right_apart A B inner.0 (λ j s. old j (or_left _ _ s)) single.1 k);
        was = right_was A B inner.0 k;
      }))
      (orelse_does (under (λ K. Par K B) (plays cast stores choices u A e)) (under (Par A) (plays cast stores choices u B e)) c H h)
  keeps (Seq A B) c H single old h = ⊎_elim
      (λ first.
      let inner = under_does (λ K. Seq K B) (plays cast stores choices u A e) c H first in
      let k = keeps A c inner.0 single.0.0 (λ j s. old j (or_left _ _ s)) inner.1 in
      subst (Keeps u e (Seq A B)) inner.2 (record {
        single = ((k.single, single.0.1), left_apart A B inner.0 (λ j s. old j (or_right _ _ s)) single.1 k);
        was = left_was A B inner.0 k;
      }))
      (λ next.
      let free = when_does (light A && not (is_doer_due e A)) (under (Seq A) (plays cast stores choices u B e)) c H next.1 in
      let inner = under_does (Seq A) (plays cast stores choices u B e) c H free.1 in
      let k = keeps B c inner.0 single.0.1 (λ j s. old j (or_right _ _ s)) inner.1 in
      subst (Keeps u e (Seq A B)) inner.2 (record {
        single = ((single.0.0, k.single), right_apart A B inner.0 (λ j s. old j (or_left _ _ s)) single.1 k);
        was = right_was A B inner.0 k;
      }))
      (orelse_does (under (λ K. Seq K B) (plays cast stores choices u A e)) (when (light A && not (is_doer_due e A)) (under (Seq A) (plays cast stores choices u B e))) c H h)
