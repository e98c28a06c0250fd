-- Which part of a running term plays an entry. No auxiliary entry is played, and of one index one entry is.
use Rattle.std.proofs.Common.{◌≡◌, ◌⊎◌, ℕ, suc, List, Bool, true, false, ◌&&◌, not, Some, refl, sym, ap, ◌∙◌, subst, inl, inr, ⊎_elim}
use Rattle.std.proofs.lemmas.Bool.{and_parts, not-true}
use Rattle.dioc_terms.specs.declared.names.Role.{Role}
use Rattle.dioc_terms.specs.declared.names.Index.{Index}
use Rattle.dioc_terms.specs.declared.processes.ScopeHead.{ScopeHead}
use Rattle.dioc_terms.specs.declared.entries.Note.TheVariants as note
use Rattle.dioc_terms.specs.declared.entries.Chosen.TheVariants as chosen
use Rattle.dioc_terms.specs.declared.entries.Entry.{Entry}
use Rattle.dioc_terms.specs.declared.entries.Entry.TheVariants as entry
use Rattle.dioc_terms.specs.Equality.{entry_eq}
use Rattle.dioc_terms.specs.Attempts.{Attempt, Stuck, Does, under, orelse, when}
use Rattle.dioc_terms.specs.Expressions.{Expression}
use Rattle.dioc_terms.specs.Messages.{is_aux, doer}
use Rattle.dioc_terms.specs.Stores.{Store, next_input}
use Rattle.dioc_terms.specs.Terms as term
use Rattle.dioc_terms.specs.Terms.{Term, is_in, head_of}
use Rattle.dioc_terms.specs.Values.{eval, is_true}
use Rattle.global_steps.specs.Running as running
use Rattle.global_steps.specs.Running.{Running, started, light, is_due}
use Rattle.global_steps.specs.Follow.{BookChoice, KeepsBody, TakesRule, Effect, operation, is_doer_due, while_plays, scope_plays, plays}
use Rattle.marked_laws.proofs.Constructs.{Branch, Turning, Stopping, Scoped, Releasing}
use Rattle.marked_laws.proofs.Equality.{entry_same}
use Rattle.marked_laws.proofs.Mark.{Mark, Still, Flying, Over, First, Second, Both, Held, Spent, run, At, Fine}
use Rattle.marked_laws.proofs.Moves.{stuck_does, when_does, under_does}
use Rattle.marked_laws.proofs.Plays.{entry_index, ended_plays, mark_away}
use Rattle.marked_laws.proofs.Proper.{Proper, proper_seq, proper_par}
use Rattle.marked_laws.proofs.Shapes.{none_some, some_same}

pub orelse_cases : {D A : Type 0} (m n : Attempt D A) {d : D} {a : A} → orelse m n ≡ Does d a → (m ≡ Does d a) ⊎ ((m ≡ Stuck) × (n ≡ Does d a))
orelse_cases Stuck n h = inr (refl, h)
orelse_cases (Does d a) n h = inl h

under_stuck : {D A B : Type 0} (f : A → B) (m : Attempt D A) → under f m ≡ Stuck → m ≡ Stuck
under_stuck f Stuck h = refl
under_stuck f (Does d a) h = absurd (stuck_does (sym h))

-- whether the entry's role waits for a message in flight
pub doer_is_due : (e : Entry) (r : Role) (G : Running) → doer e ≡ Some r → is_doer_due e G ≡ is_due r G
doer_is_due (entry.Put k n) r G h = ap (λ q. is_due q G) (some_same h)
doer_is_due (entry.Take k x) r G h = ap (λ q. is_due q G) (some_same h)
doer_is_due (entry.Set i s x v) r G h = ap (λ q. is_due q G) (some_same h)
doer_is_due (entry.Input i s x v) r G h = ap (λ q. is_due q G) (some_same h)
doer_is_due (entry.Pick i s b) r G h = ap (λ q. is_due q G) (some_same h)
doer_is_due (entry.Scope i s c) r G h = ap (λ q. is_due q G) (some_same h)
doer_is_due (entry.Add name) r G h = absurd (none_some h)
doer_is_due (entry.Drop name) r G h = absurd (none_some h)
doer_is_due (entry.Env key v) r G h = absurd (none_some h)

-- two entries that are one third
both_that : (E e f : Entry) {A : Type 0} (m n : Attempt Effect A) {x y : Effect} {K L : A} → when (entry_eq e E) m ≡ Does x K → when (entry_eq f E) n ≡ Does y L → e ≡ f
both_that E e f m n h k = entry_same e E (when_does (entry_eq e E) m h).0 ∙ sym (entry_same f E (when_does (entry_eq f E) n k).0)

module _ (cast : List Role) (stores : Role → Store) (choices : ScopeHead → BookChoice) (updates : ℕ) where
  abbrev Next : Running → Entry → Attempt Effect Running
  Next G e = plays cast stores choices updates G e

  pub seq_plays : (G H : Running) (e : Entry) {x : Effect} {K : Running} → Next (running.Seq G H) e ≡ Does x K
      → ((G' : Running) × (Next G e ≡ Does x G'))
      ⊎ ((Next G e ≡ Stuck) × (light G ≡ true) × (is_doer_due e G ≡ false) × (H' : Running) × (Next H e ≡ Does x H'))
  seq_plays G H e h = ⊎_elim
      (λ first. let part = under_does (λ K. running.Seq K H) (Next G e) first in inl (part.0, part.1))
      (λ second.
      let guard = when_does (light G && not (is_doer_due e G)) (under (running.Seq G) (Next H e)) second.1 in
      let parts = and_parts (light G) (not (is_doer_due e G)) guard.0 in
      let part = under_does (running.Seq G) (Next H e) guard.1 in
      inr (under_stuck (λ K. running.Seq K H) (Next G e) second.0, parts.0, not-true (is_doer_due e G) parts.1, part.0, part.1))
      (orelse_cases (under (λ K. running.Seq K H) (Next G e)) (when (light G && not (is_doer_due e G)) (under (running.Seq G) (Next H e))) h)

  pub par_plays : (G H : Running) (e : Entry) {x : Effect} {K : Running} → Next (running.Par G H) e ≡ Does x K
      → ((G' : Running) × (Next G e ≡ Does x G')) ⊎ ((Next G e ≡ Stuck) × (H' : Running) × (Next H e ≡ Does x H'))
  par_plays G H e h = ⊎_elim
      (λ first. let part = under_does (λ K. running.Par K H) (Next G e) first in inl (part.0, part.1))
      (λ second. let part = under_does (running.Par G) (Next H e) second.1 in
      inr (under_stuck (λ K. running.Par K H) (Next G e) second.0, part.0, part.1))
      (orelse_cases (under (λ K. running.Par K H) (Next G e)) (under (running.Par G) (Next H e)) h)

  pub again_plays : (i : Index) (r : Role) (g : Expression) (I : Term) (G : Running) (e : Entry) {x : Effect} {K : Running}
      → Next (running.Again i r g I G) e ≡ Does x K
      → ((G' : Running) × (Next G e ≡ Does x G'))
      ⊎ ((Next G e ≡ Stuck) × (running.ended G ≡ true) × (while_plays cast stores choices updates i r g I e ≡ Does x K))
  again_plays i r g I G e h = ⊎_elim
      (λ first. let part = under_does (running.Again i r g I) (Next G e) first in inl (part.0, part.1))
      (λ second. let guard = when_does (running.ended G) (while_plays cast stores choices updates i r g I e) second.1 in
      inr (under_stuck (running.Again i r g I) (Next G e) second.0, guard.0, guard.1))
      (orelse_cases (under (running.Again i r g I) (Next G e)) (when (running.ended G) (while_plays cast stores choices updates i r g I e)) h)

  -- no auxiliary entry is played
  that_shown : (E e : Entry) {A : Type 0} (m : Attempt Effect A) {x : Effect} {K : A} → is_aux E ≡ false → when (entry_eq e E) m ≡ Does x K → is_aux e ≡ false
  that_shown E e m is h = ap is_aux (entry_same e E (when_does (entry_eq e E) m h).0) ∙ is

  scope_shown : (i : Index) (r : Role) (I : Term) (roles : Role → Bool) (level : ℕ) (a : BookChoice) (e : Entry) {x : Effect} {K : Running}
      → scope_plays cast stores choices updates i r I roles level a e ≡ Does x K → is_aux e ≡ false
  scope_shown i r I roles level KeepsBody e h = that_shown (entry.Scope i r chosen.Keep) e _ refl h
  scope_shown i r I roles level (TakesRule name B) e h = that_shown (entry.Scope i r (chosen.Rule name (suc updates))) e _ refl h

  pub played_visible : (G : Running) (e : Entry) {x : Effect} {K : Running} → Next G e ≡ Does x K → is_aux e ≡ false
  played_visible running.Skip e h = absurd (stuck_does h)
  played_visible (running.Com i o a v b y) e h = that_shown (entry.Put (operation a b i o) (note.Val (eval v (stores a)))) e _ refl h
  played_visible (running.Fly i o a b y v) e h = that_shown (entry.Take (operation a b i o) (Some y)) e _ refl h
  played_visible (running.Set i y r v) e h = that_shown (entry.Set i r y (eval v (stores r))) e _ refl h
  played_visible (running.Input i y r) e h = that_shown (entry.Input i r y (next_input (stores r))) e _ refl h
  played_visible (running.If i r g I J) e h = that_shown (entry.Pick i r (is_true (eval g (stores r)))) e _ refl h
  played_visible (running.While i r g I) e h = that_shown (entry.Pick i r (is_true (eval g (stores r)))) e _ refl h
  played_visible (running.Again i r g I G) e h = ⊎_elim (λ k. played_visible G e k.1)
      (λ k. that_shown (entry.Pick i r (is_true (eval g (stores r)))) e _ refl k.2) (again_plays i r g I G e h)
  played_visible (running.Scope i r I extra props level) e h =
      scope_shown i r I (λ q. is_in q (term.Scope i r I extra props level)) level (choices (head_of cast i r I extra props level)) e h
  played_visible (running.Bar roles G) e h = played_visible G e (under_does (running.Bar roles) (Next G e) h).1
  played_visible (running.Par G H) e h = ⊎_elim (λ k. played_visible G e k.1) (λ k. played_visible H e k.2) (par_plays G H e h)
  played_visible (running.Seq G H) e h = ⊎_elim (λ k. played_visible G e k.1) (λ k. played_visible H e k.4) (seq_plays G H e h)

  -- of one index one entry is played
  abbrev PlaysIt : Running → Entry → Type 0
  PlaysIt G e = (x : Effect) × (K : Running) × (Next G e ≡ Does x K)

  abbrev PlaysOne : Running → Type 0
  PlaysOne G = (e f : Entry) → entry_index e ≡ entry_index f → PlaysIt G e → PlaysIt G f → e ≡ f

  -- no two parts play entries of one index
  abbrev PlaysApart : Running → Running → Type 0
  PlaysApart G H = (e f : Entry) → entry_index e ≡ entry_index f → PlaysIt G e → PlaysIt H f → ⊥

  seq_one : (G H : Running) → PlaysOne G → PlaysOne H → PlaysApart G H → PlaysOne (running.Seq G H)
  seq_one G H left right apart e f is h k = ⊎_elim
      (λ m. ⊎_elim (λ n. left e f is (h.0, m.0, m.1) (k.0, n.0, n.1)) (λ n. absurd (apart e f is (h.0, m.0, m.1) (k.0, n.3, n.4))) (seq_plays G H f k.2))
      (λ m. ⊎_elim (λ n. absurd (apart f e (sym is) (k.0, n.0, n.1) (h.0, m.3, m.4))) (λ n. right e f is (h.0, m.3, m.4) (k.0, n.3, n.4)) (seq_plays G H f k.2))
      (seq_plays G H e h.2)

  par_one : (G H : Running) → PlaysOne G → PlaysOne H → PlaysApart G H → PlaysOne (running.Par G H)
  par_one G H left right apart e f is h k = ⊎_elim
      (λ m. ⊎_elim (λ n. left e f is (h.0, m.0, m.1) (k.0, n.0, n.1)) (λ n. absurd (apart e f is (h.0, m.0, m.1) (k.0, n.1, n.2))) (par_plays G H f k.2))
      (λ m. ⊎_elim (λ n. absurd (apart f e (sym is) (k.0, n.0, n.1) (h.0, m.1, m.2))) (λ n. right e f is (h.0, m.1, m.2) (k.0, n.1, n.2)) (par_plays G H f k.2))
      (par_plays G H e h.2)

  -- what a mark plays is of an index of it
  played_at : (M : Mark) → Fine cast M → (e : Entry) → PlaysIt (run M) e → (At (entry_index e) M → ⊥) → ⊥
  played_at M fine e h out = stuck_does (sym (mark_away cast stores choices updates M e fine out) ∙ h.2)

  marks_apart : (M N : Mark) → Fine cast M → Fine cast N → ((n : Index) → At n M → At n N → ⊥) → PlaysApart (run M) (run N)
  marks_apart M N fine fine' apart e f is h k =
      played_at M fine e h (λ at. played_at N fine' f k (λ at'. apart (entry_index e) at (subst (λ n. At n N) (sym is) at')))

  scope_one : (i : Index) (r : Role) (I : Term) (roles : Role → Bool) (level : ℕ) (a : BookChoice) (e f : Entry) {x y : Effect} {K L : Running}
      → scope_plays cast stores choices updates i r I roles level a e ≡ Does x K → scope_plays cast stores choices updates i r I roles level a f ≡ Does y L → e ≡ f
  scope_one i r I roles level KeepsBody e f h k = both_that (entry.Scope i r chosen.Keep) e f _ _ h k
  scope_one i r I roles level (TakesRule name B) e f h k = both_that (entry.Scope i r (chosen.Rule name (suc updates))) e f _ _ h k

  started_one : (I : Term) → Proper cast I → PlaysOne (started I)
  started_one term.Skip proper e f is h k = absurd (stuck_does h.2)
  started_one (term.Com i o a v b y) proper e f is h k = both_that (entry.Put (operation a b i o) (note.Val (eval v (stores a)))) e f _ _ h.2 k.2
  started_one (term.Set i y r v) proper e f is h k = both_that (entry.Set i r y (eval v (stores r))) e f _ _ h.2 k.2
  started_one (term.Input i y r) proper e f is h k = both_that (entry.Input i r y (next_input (stores r))) e f _ _ h.2 k.2
  started_one (term.Seq I J) proper e f is h k = let parts = proper_seq cast I J proper in
      seq_one (started I) (started J) (started_one I parts.0) (started_one J parts.1) (marks_apart (Still I) (Still J) parts.0 parts.1 parts.2) e f is h k
  started_one (term.Par I J) proper e f is h k = let parts = proper_par cast I J proper in
      par_one (started I) (started J) (started_one I parts.0) (started_one J parts.1) (marks_apart (Still I) (Still J) parts.0 parts.1 parts.2) e f is h k
  started_one (term.If i r g I J) proper e f is h k = both_that (entry.Pick i r (is_true (eval g (stores r)))) e f _ _ h.2 k.2
  started_one (term.While i r g I) proper e f is h k = both_that (entry.Pick i r (is_true (eval g (stores r)))) e f _ _ h.2 k.2
  started_one (term.Scope i r I extra props level) proper e f is h k =
      scope_one i r I (λ q. is_in q (term.Scope i r I extra props level)) level (choices (head_of cast i r I extra props level)) e f h.2 k.2

  bar_one : (roles : Role → Bool) (G : Running) → PlaysOne G → PlaysOne (running.Bar roles G)
  bar_one roles G one e f is h k =
      let first = under_does (running.Bar roles) (Next G e) h.2 in
      let second = under_does (running.Bar roles) (Next G f) k.2 in
      one e f is (h.0, first.0, first.1) (k.0, second.0, second.1)

  pick_index : (i : Index) (r : Role) (g : Expression) (I : Term) (e : Entry) {x : Effect} {K : Running} → while_plays cast stores choices updates i r g I e ≡ Does x K → entry_index e ≡ i
  pick_index i r g I e h = ap entry_index (entry_same e (entry.Pick i r (is_true (eval g (stores r)))) (when_does (entry_eq e (entry.Pick i r (is_true (eval g (stores r))))) _ h).0)

  pub played_one : (M : Mark) → Fine cast M → PlaysOne (run M)
  played_one (Still I) fine e f is h k = started_one I fine e f is h k
  played_one (Flying i o a v b y w) fine e f is h k = both_that (entry.Take (operation a b i o) (Some y)) e f _ _ h.2 k.2
  played_one (Over I) fine e f is h k = absurd (stuck_does h.2)
  played_one (First M J) fine e f is h k = seq_one (run M) (started J) (played_one M fine.0) (started_one J fine.1) (marks_apart M (Still J) fine.0 fine.1 fine.2) e f is h k
  played_one (Second M N) fine e f is h k = seq_one (run M) (run N) (played_one M fine.0) (played_one N fine.1) (marks_apart M N fine.0 fine.1 fine.2) e f is h k
  played_one (Both M N) fine e f is h k = par_one (run M) (run N) (played_one M fine.0) (played_one N fine.1) (marks_apart M N fine.0 fine.1 fine.2) e f is h k
  played_one (Held (Branch i r g I J b) phases M) fine e f is h k = played_one M fine.0 e f is h k
  played_one (Held (Turning i r g I) phases M) fine e f is h k = ⊎_elim
      (λ m. ⊎_elim
      (λ n. played_one M fine.0 e f is (h.0, m.0, m.1) (k.0, n.0, n.1))
      (λ n. absurd (played_at M fine.0 e (h.0, m.0, m.1) (λ at. fine.1.own (subst (λ x. At x M) (is ∙ pick_index i r g I f n.2) at))))
      (again_plays i r g I (run M) f k.2))
      (λ m. ⊎_elim
      (λ n. absurd (played_at M fine.0 f (k.0, n.0, n.1) (λ at. fine.1.own (subst (λ x. At x M) (sym is ∙ pick_index i r g I e m.2) at))))
      (λ n. both_that (entry.Pick i r (is_true (eval g (stores r)))) e f _ _ m.2 n.2)
      (again_plays i r g I (run M) f k.2))
      (again_plays i r g I (run M) e h.2)
  played_one (Held (Stopping i r g I) phases M) fine e f is h k = absurd (stuck_does h.2)
  played_one (Held (Scoped i r I extra props level begin B) phases M) fine e f is h k = bar_one (λ q. is_in q (term.Scope i r I extra props level)) (run M) (played_one M fine.0) e f is h k
  played_one (Held (Releasing i r I extra props level) phases M) fine e f is h k = bar_one (λ q. is_in q (term.Scope i r I extra props level)) (run M) (played_one M fine.0) e f is h k
  played_one (Spent G) fine e f is h k = absurd (stuck_does (sym (ended_plays cast stores choices updates G e fine) ∙ h.2))
