-- A visible step of a mark is played by its running term, and an auxiliary one changes neither the running term nor a store.
use Rattle.std.proofs.Common.{◌≡◌, ℕ, suc, List, Bool, true, false, ◌&&◌, not, if◌then◌else◌, Some, refl, sym, ap, ap₂, ◌∙◌, subst, inl, inr}
use Rattle.std.proofs.lemmas.Bool.{and_parts, and_from, both_ways, false_from_ne_true, not_from_false}
use Rattle.dioc_terms.specs.declared.names.Role.{Role}
use Rattle.dioc_terms.specs.declared.names.Index.{Index}
use Rattle.dioc_terms.specs.declared.processes.Tag.{Tag}
use Rattle.dioc_terms.specs.declared.processes.ScopeHead.{ScopeHead}
use Rattle.dioc_terms.specs.declared.entries.Note.TheVariants as note
use Rattle.dioc_terms.specs.declared.entries.Chosen.TheVariants as chosen
use Rattle.dioc_terms.specs.declared.entries.Entry.{Entry}
use Rattle.dioc_terms.specs.declared.entries.Entry.TheVariants as entry
use Rattle.dioc_terms.specs.Equality.{entry_eq}
use Rattle.dioc_terms.specs.Expressions.{Expression}
use Rattle.dioc_terms.specs.Messages.{is_aux, is_aux_tag, doer}
use Rattle.dioc_terms.specs.Attempts.{Stuck, Does, under, orelse, when}
use Rattle.dioc_terms.specs.Processes.{Val}
use Rattle.dioc_terms.specs.Stores.{Store, next_input}
use Rattle.dioc_terms.specs.Terms as term
use Rattle.dioc_terms.specs.Terms.{Term, is_in, head_of, stamped, index_at}
use Rattle.dioc_terms.specs.Values.{eval, is_true}
use Rattle.process_steps.specs.Steps.{Deed, Puts, Takes, Sets, Inputs, Picks, Chooses, entry_of, store_after}
use Rattle.global_steps.specs.Running as running
use Rattle.global_steps.specs.Running.{Running, started, light, is_due}
use Rattle.global_steps.specs.Follow.{BookChoice, KeepsBody, TakesRule, Effect, Leaves, Assigns, Reads, affected, operation, is_doer_due, while_plays, scope_plays, plays}
use Rattle.marked_laws.proofs.Constructs.{Kind, Branch, Turning, Stopping, Scoped, Releasing, body, runs, tag, whole_not_skip, Backs, turn_backs, end_backs}
use Rattle.marked_laws.proofs.Ends.{all_over}
use Rattle.marked_laws.proofs.Equality.{entry_same, entry_itself}
use Rattle.marked_laws.proofs.Gates.{closed_ended}
use Rattle.marked_laws.proofs.Groups.{ended_due, begins_light}
use Rattle.marked_laws.proofs.Keeps.{deed_index, deed_at}
use Rattle.marked_laws.proofs.Mark.{Mark, Still, Flying, Over, First, Second, Both, Held, Spent, origin, run, At, Fine, first_fine, both_fine}
use Rattle.marked_laws.proofs.MarkSteps.{Steps, sends, lands, sets, reads, seq_opens, par_opens, seq_first, seq_begins, seq_lags, seq_goes, par_left, par_right, picks, turns, stops, again, leaves, tells, hears, works, arrives, gathers, keeps, replaces, frees, doer_of}
use Rattle.marked_laws.proofs.Moves.{when_true, when_false}
use Rattle.marked_laws.proofs.Proper.{Within}

-- the index of an entry of a role
abbrev pub entry_index : Entry → Index
entry_index (entry.Put k n) = k.index
entry_index (entry.Take k x) = k.index
entry_index (entry.Set i r x v) = i
entry_index (entry.Input i r x v) = i
entry_index (entry.Pick i r b) = i
entry_index (entry.Scope i r c) = i
entry_index _ = index_at 0

pub entry_deed_index : (d : Deed) → entry_index (entry_of d) ≡ deed_index d
entry_deed_index (Puts k l) = refl
entry_deed_index (Takes k x l) = refl
entry_deed_index (Sets i r x v) = refl
entry_deed_index (Inputs i r x v) = refl
entry_deed_index (Picks i r b) = refl
entry_deed_index (Chooses i r c) = refl

pub entry_doer : (d : Deed) → doer (entry_of d) ≡ Some (doer_of d)
entry_doer (Puts k l) = refl
entry_doer (Takes k x l) = refl
entry_doer (Sets i r x v) = refl
entry_doer (Inputs i r x v) = refl
entry_doer (Picks i r b) = refl
entry_doer (Chooses i r c) = refl

pub doer_due : (d : Deed) (G : Running) → is_doer_due (entry_of d) G ≡ is_due (doer_of d) G
doer_due (Puts k l) G = refl
doer_due (Takes k x l) G = refl
doer_due (Sets i r x v) G = refl
doer_due (Inputs i r x v) G = refl
doer_due (Picks i r b) G = refl
doer_due (Chooses i r c) G = refl

-- what the played entry of a deed does to the store
abbrev pub effect_of : Deed → Effect
effect_of (Takes k (Some x) (Val v)) = Assigns x v
effect_of (Sets i r x v) = Assigns x v
effect_of (Inputs i r x v) = Reads x v
effect_of _ = Leaves

pub effect_store : (d : Deed) (s : Store) → affected (effect_of d) s ≡ store_after d s
effect_store (Takes k (Some x) (Val v)) s = refl
effect_store (Sets i r x v) s = refl
effect_store (Inputs i r x v) s = refl
effect_store _ s = refl

-- the messages of a construct are auxiliary
pub tag_aux : (k : Kind) → is_aux_tag (tag k) ≡ true
tag_aux (Branch i r g I J b) = refl
tag_aux (Turning i r g I) = refl
tag_aux (Stopping i r g I) = refl
tag_aux (Scoped i r I extra props level begin B) = refl
tag_aux (Releasing i r I extra props level) = refl

pub backs_aux : {k : Kind} {t : Tag} → Backs k t → is_aux_tag t ≡ true
backs_aux turn_backs = refl
backs_aux end_backs = refl

-- an entry of another index is another one
not_here : (e e' : Entry) → (entry_index e ≡ entry_index e' → ⊥) → entry_eq e e' ≡ false
not_here e e' h = false_from_ne_true (entry_eq e e') (λ is. h (ap entry_index (entry_same e e' is)))

-- nothing can be done in a mark of the empty program
skip_at : (M : Mark) → origin M ≡ term.Skip → (n : Index) → At n M → ⊥
skip_at (Still term.Skip) is n at = at
skip_at (Over I) is n at = at
skip_at (Spent G) is n at = at
skip_at (Held k phases M) is n at = whole_not_skip k is
skip_at M is n at = cc

when_stuck : {D A : Type 0} (t : Bool) → when {D = D} {A = A} t Stuck ≡ Stuck
when_stuck true = refl
when_stuck false = refl

module _ (cast : List Role) (stores : Role → Store) (choices : ScopeHead → BookChoice) (updates : ℕ) where
  -- where no part plays the entry the whole doesn't
  seq_stuck : (G H : Running) (e : Entry) → plays cast stores choices updates G e ≡ Stuck → plays cast stores choices updates H e ≡ Stuck
      → plays cast stores choices updates (running.Seq G H) e ≡ Stuck
  seq_stuck G H e h k =
      ap₂ (λ m n. orelse (under (λ K. running.Seq K H) m) (when (light G && not (is_doer_due e G)) (under (running.Seq G) n))) h k
      ∙ when_stuck (light G && not (is_doer_due e G))

  par_stuck : (G H : Running) (e : Entry) → plays cast stores choices updates G e ≡ Stuck → plays cast stores choices updates H e ≡ Stuck
      → plays cast stores choices updates (running.Par G H) e ≡ Stuck
  par_stuck G H e h k = ap₂ (λ m n. orelse (under (λ K. running.Par K H) m) (under (running.Par G) n)) h k

  -- an ended running term plays nothing
  pub ended_plays : (G : Running) (e : Entry) → running.ended G ≡ true → plays cast stores choices updates G e ≡ Stuck
  ended_plays running.Skip e h = refl
  ended_plays (running.Seq G H) e h = let parts = and_parts _ _ h in seq_stuck G H e (ended_plays G e parts.0) (ended_plays H e parts.1)
  ended_plays (running.Par G H) e h = let parts = and_parts _ _ h in par_stuck G H e (ended_plays G e parts.0) (ended_plays H e parts.1)
  ended_plays (running.Bar roles G) e h = ap (under (running.Bar roles)) (ended_plays G e h)
  ended_plays G e h = cc

  while_away : (i : Index) (r : Role) (g : Expression) (I : Term) (e : Entry) → (entry_index e ≡ i → ⊥) → while_plays cast stores choices updates i r g I e ≡ Stuck
  while_away i r g I e h = when_false _ _ (not_here e (entry.Pick i r (is_true (eval g (stores r)))) h)

  scope_away : (i : Index) (r : Role) (I : Term) (roles : Role → Bool) (level : ℕ) (a : BookChoice) (e : Entry) → (entry_index e ≡ i → ⊥)
      → scope_plays cast stores choices updates i r I roles level a e ≡ Stuck
  scope_away i r I roles level KeepsBody e h = when_false _ _ (not_here e (entry.Scope i r chosen.Keep) h)
  scope_away i r I roles level (TakesRule name B) e h = when_false _ _ (not_here e (entry.Scope i r (chosen.Rule name (suc updates))) h)

  -- an entry of an index that a term hasn't isn't played
  started_away : (I : Term) (e : Entry) → (Within (entry_index e) I → ⊥) → plays cast stores choices updates (started I) e ≡ Stuck
  started_away term.Skip e h = refl
  started_away (term.Com i o a x b y) e h = when_false _ _ (not_here e (entry.Put (operation a b i o) (note.Val (eval x (stores a)))) h)
  started_away (term.Set i x r y) e h = when_false _ _ (not_here e (entry.Set i r x (eval y (stores r))) h)
  started_away (term.Input i x r) e h = when_false _ _ (not_here e (entry.Input i r x (next_input (stores r))) h)
  started_away (term.Seq I J) e h = seq_stuck (started I) (started J) e (started_away I e (λ k. h (inl k))) (started_away J e (λ k. h (inr k)))
  started_away (term.Par I J) e h = par_stuck (started I) (started J) e (started_away I e (λ k. h (inl k))) (started_away J e (λ k. h (inr k)))
  started_away (term.If i r g I J) e h = when_false _ _ (not_here e (entry.Pick i r (is_true (eval g (stores r)))) (λ k. h (inl k)))
  started_away (term.While i r g I) e h = while_away i r g I e (λ k. h (inl k))
  started_away (term.Scope i r I extra props level) e h =
      scope_away i r I (λ q. is_in q (term.Scope i r I extra props level)) level (choices (head_of cast i r I extra props level)) e (λ k. h (inl k))

  pub mark_away : (M : Mark) (e : Entry) → Fine cast M → (At (entry_index e) M → ⊥) → plays cast stores choices updates (run M) e ≡ Stuck
  mark_away (Still I) e fine h = started_away I e h
  mark_away (Flying i o a x b y v) e fine h = when_false _ _ (not_here e (entry.Take (operation a b i o) (Some y)) h)
  mark_away (Over I) e fine h = refl
  mark_away (First M J) e fine h = seq_stuck (run M) (started J) e (mark_away M e fine.0 (λ k. h (inl k))) (started_away J e (λ k. h (inr k)))
  mark_away (Second M N) e fine h = seq_stuck (run M) (run N) e (mark_away M e fine.0 (λ k. h (inl k))) (mark_away N e fine.1 (λ k. h (inr k)))
  mark_away (Both M N) e fine h = par_stuck (run M) (run N) e (mark_away M e fine.0 (λ k. h (inl k))) (mark_away N e fine.1 (λ k. h (inr k)))
  mark_away (Held (Branch i r g I J b) phases M) e fine h = mark_away M e fine.0 (λ k. h (inr k))
  mark_away (Held (Turning i r g I) phases M) e fine h =
      ap₂ (λ m n. orelse (under (running.Again i r g I) m) (when (running.ended (run M)) n)) (mark_away M e fine.0 (λ k. h (inr k))) (while_away i r g I e (λ k. h (inl (inl k))))
      ∙ when_stuck (running.ended (run M))
  mark_away (Held (Stopping i r g I) phases M) e fine h = refl
  mark_away (Held (Scoped i r I extra props level begin B) phases M) e fine h =
      ap (under (running.Bar (λ q. is_in q (term.Scope i r I extra props level)))) (mark_away M e fine.0 (λ k. h (inr k)))
  mark_away (Held (Releasing i r I extra props level) phases M) e fine h =
      ap (under (running.Bar (λ q. is_in q (term.Scope i r I extra props level)))) (mark_away M e fine.0 (λ k. h (inr k)))
  mark_away (Spent G) e fine h = ended_plays G e fine

  -- the first part plays an entry
  first_plays : (G G' H : Running) (e : Entry) (effect : Effect) → plays cast stores choices updates G e ≡ Does effect G'
      → plays cast stores choices updates (running.Seq G H) e ≡ Does effect (running.Seq G' H)
  first_plays G G' H e effect h = ap (λ m. orelse (under (λ K. running.Seq K H) m) (when (light G && not (is_doer_due e G)) (under (running.Seq G) (plays cast stores choices updates H e)))) h

  -- the second part plays an entry
  second_plays : (G H H' : Running) (d : Deed) (effect : Effect) → plays cast stores choices updates G (entry_of d) ≡ Stuck → light G ≡ true
      → is_due (doer_of d) G ≡ false → plays cast stores choices updates H (entry_of d) ≡ Does effect H'
      → plays cast stores choices updates (running.Seq G H) (entry_of d) ≡ Does effect (running.Seq G H')
  second_plays G H H' d effect away is_light none h =
      ap₂ (λ m n. orelse (under (λ K. running.Seq K H) m) (when (light G && not (is_doer_due (entry_of d) G)) (under (running.Seq G) n))) away h
      ∙ when_true (light G && not (is_doer_due (entry_of d) G)) _ (and_from _ _ is_light (not_from_false _ (doer_due d G ∙ none)))

  -- a loop's pick
  while_picks : (i : Index) (r : Role) (g : Expression) (I : Term) (b : Bool) → is_true (eval g (stores r)) ≡ b
      → while_plays cast stores choices updates i r g I (entry.Pick i r b) ≡ Does Leaves (if b then running.Again i r g I (started I) else running.Skip)
  while_picks i r g I b e =
      ap (λ x. when (entry_eq (entry.Pick i r b) (entry.Pick i r x)) (Does Leaves (if x then running.Again i r g I (started I) else running.Skip))) e
      ∙ when_true (entry_eq (entry.Pick i r b) (entry.Pick i r b)) _ (entry_itself (entry.Pick i r b))

  -- the pick after a turn
  again_picks : (i : Index) (r : Role) (g : Expression) (I : Term) (G : Running) (b : Bool) → running.ended G ≡ true → is_true (eval g (stores r)) ≡ b
      → plays cast stores choices updates (running.Again i r g I G) (entry.Pick i r b) ≡ Does Leaves (if b then running.Again i r g I (started I) else running.Skip)
  again_picks i r g I G b over e =
      ap₂ (λ m n. orelse (under (running.Again i r g I) m) (when (running.ended G) n)) (ended_plays G (entry.Pick i r b) over) (while_picks i r g I b e)
      ∙ when_true (running.ended G) _ over

  -- what runs inside a construct plays for it, if anything runs there
  runs_plays : (k : Kind) (G G' : Running) (e : Entry) (effect : Effect) → (body k ≡ term.Skip → ⊥) → plays cast stores choices updates G e ≡ Does effect G'
      → plays cast stores choices updates (runs k G) e ≡ Does effect (runs k G')
  runs_plays (Branch i r g I J b) G G' e effect lives h = h
  runs_plays (Turning i r g I) G G' e effect lives h =
      ap (λ m. orelse (under (running.Again i r g I) m) (when (running.ended G) (while_plays cast stores choices updates i r g I e))) h
  runs_plays (Stopping i r g I) G G' e effect lives h = absurd (lives refl)
  runs_plays (Scoped i r I extra props level begin B) G G' e effect lives h = ap (under (running.Bar (λ q. is_in q (term.Scope i r I extra props level)))) h
  runs_plays (Releasing i r I extra props level) G G' e effect lives h = ap (under (running.Bar (λ q. is_in q (term.Scope i r I extra props level)))) h

  -- a visible step is played
  pub run_step : {M N : Mark} {d : Deed} → Steps cast stores choices updates M d N → Fine cast M → is_aux (entry_of d) ≡ false
      → plays cast stores choices updates (run M) (entry_of d) ≡ Does (effect_of d) (run N)
  run_step (sends {i = i} {o = o} {a = a} {e = e} {b = b}) fine h = when_true _ _ (entry_itself (entry.Put (operation a b i o) (note.Val (eval e (stores a)))))
  run_step (lands {i = i} {o = o} {a = a} {b = b} {x = x}) fine h = when_true _ _ (entry_itself (entry.Take (operation a b i o) (Some x)))
  run_step (sets {i = i} {x = x} {r = r} {e = e}) fine h = when_true _ _ (entry_itself (entry.Set i r x (eval e (stores r))))
  run_step (reads {i = i} {x = x} {r = r}) fine h = when_true _ _ (entry_itself (entry.Input i r x (next_input (stores r))))
  run_step (seq_opens {I = I} {J = J} s) fine h = run_step s (first_fine cast I J fine) h
  run_step (par_opens {I = I} {J = J} s) fine h = run_step s (both_fine cast I J fine) h
  run_step (seq_first {M = M} {N = N} {J = J} {d = d} s) fine h = first_plays (run M) (run N) (started J) (entry_of d) (effect_of d) (run_step s fine.0 h)
  run_step (seq_begins {M = M} {N = N} {J = J} {d = d} e s) fine h =
      second_plays (run M) (started J) (run N) d (effect_of d)
      (mark_away M (entry_of d) fine.0 (λ at. fine.2 (entry_index (entry_of d)) at (subst (λ n. Within n J) (sym (entry_deed_index d)) (deed_at cast stores choices updates s))))
      (begins_light cast stores choices updates M fine e s) (ended_due cast M (doer_of d) fine.0 e) (run_step s fine.1 h)
  run_step (seq_lags {M = M} {N = N} {K = K} {d = d} s) fine h = first_plays (run M) (run N) (run K) (entry_of d) (effect_of d) (run_step s fine.0 h)
  run_step (seq_goes {M = M} {N = N} {K = K} {d = d} e s) fine h =
      second_plays (run M) (run N) (run K) d (effect_of d)
      (mark_away M (entry_of d) fine.0 (λ at. fine.2 (entry_index (entry_of d)) at (subst (λ n. At n N) (sym (entry_deed_index d)) (deed_at cast stores choices updates s))))
      fine.3 (ended_due cast M (doer_of d) fine.0 e) (run_step s fine.1 h)
  run_step (par_left {M = M} {N = N} {K = K} {d = d} s) fine h =
      ap (λ m. orelse (under (λ G. running.Par G (run K)) m) (under (running.Par (run M)) (plays cast stores choices updates (run K) (entry_of d)))) (run_step s fine.0 h)
  run_step (par_right {M = M} {N = N} {K = K} {d = d} s) fine h =
      ap₂ (λ m n. orelse (under (λ G. running.Par G (run N)) m) (under (running.Par (run M)) n))
      (mark_away M (entry_of d) fine.0 (λ at. fine.2 (entry_index (entry_of d)) at (subst (λ n. At n N) (sym (entry_deed_index d)) (deed_at cast stores choices updates s))))
      (run_step s fine.1 h)
  run_step (picks {i = i} {r = r} {g = g}) fine h = when_true _ _ (entry_itself (entry.Pick i r (is_true (eval g (stores r)))))
  run_step (turns {i = i} {r = r} {g = g} {I = I} e) fine h = while_picks i r g I true e
  run_step (stops {i = i} {r = r} {g = g} {I = I} e) fine h = while_picks i r g I false e
  run_step (again {i = i} {r = r} {g = g} {I = I} {phases = phases} {M = M} e c) fine h =
      again_picks i r g I (run M) true (all_over cast M fine.0 (closed_ended cast (Turning i r g I) phases M fine c)) e
  run_step (leaves {i = i} {r = r} {g = g} {I = I} {phases = phases} {M = M} e c) fine h =
      again_picks i r g I (run M) false (all_over cast M fine.0 (closed_ended cast (Turning i r g I) phases M fine c)) e
  run_step (tells {k = k} e) fine h = absurd (both_ways _ h (tag_aux k))
  run_step (hears {k = k} e) fine h = absurd (both_ways _ h (tag_aux k))
  run_step (works {k = k} {M = M} {N = N} {d = d} b s) fine h = runs_plays k (run M) (run N) (entry_of d) (effect_of d)
      (λ is. skip_at M (fine.1.is_body ∙ is) (deed_index d) (deed_at cast stores choices updates s)) (run_step s fine.0 h)
  run_step (arrives b e f) fine h = absurd (both_ways _ h (backs_aux b))
  run_step (gathers b e f) fine h = absurd (both_ways _ h (backs_aux b))
  run_step (keeps {i = i} {r = r} {I = I} {extra = extra} {props = props} {level = level} e) fine h =
      ap (λ a. scope_plays cast stores choices updates i r I (λ q. is_in q (term.Scope i r I extra props level)) level a (entry.Scope i r chosen.Keep)) e
      ∙ when_true _ _ (entry_itself (entry.Scope i r chosen.Keep))
  run_step (replaces {i = i} {r = r} {I = I} {extra = extra} {props = props} {level = level} {name = name} e) fine h =
      ap (λ a. scope_plays cast stores choices updates i r I (λ q. is_in q (term.Scope i r I extra props level)) level a (entry.Scope i r (chosen.Rule name (suc updates)))) e
      ∙ when_true _ _ (entry_itself (entry.Scope i r (chosen.Rule name (suc updates))))
  run_step (frees c e) fine h = absurd (both_ways false refl (sym h))

  -- an auxiliary step changes neither the running term nor a store
  pub aux_step : {M N : Mark} {d : Deed} → Steps cast stores choices updates M d N → is_aux (entry_of d) ≡ true → (run N ≡ run M) × ((s : Store) → store_after d s ≡ s)
  aux_step sends h = absurd (both_ways false refl h)
  aux_step lands h = absurd (both_ways false refl h)
  aux_step sets h = absurd (both_ways false refl h)
  aux_step reads h = absurd (both_ways false refl h)
  aux_step (seq_opens s) h = aux_step s h
  aux_step (par_opens s) h = aux_step s h
  aux_step (seq_first {J = J} s) h = let rest = aux_step s h in (ap (λ G. running.Seq G (started J)) rest.0, rest.1)
  aux_step (seq_begins {M = M} e s) h = let rest = aux_step s h in (ap (running.Seq (run M)) rest.0, rest.1)
  aux_step (seq_lags {K = K} s) h = let rest = aux_step s h in (ap (λ G. running.Seq G (run K)) rest.0, rest.1)
  aux_step (seq_goes {M = M} e s) h = let rest = aux_step s h in (ap (running.Seq (run M)) rest.0, rest.1)
  aux_step (par_left {K = K} s) h = let rest = aux_step s h in (ap (λ G. running.Par G (run K)) rest.0, rest.1)
  aux_step (par_right {M = M} s) h = let rest = aux_step s h in (ap (running.Par (run M)) rest.0, rest.1)
  aux_step picks h = absurd (both_ways false refl h)
  aux_step (turns e) h = absurd (both_ways false refl h)
  aux_step (stops e) h = absurd (both_ways false refl h)
  aux_step (again e c) h = absurd (both_ways false refl h)
  aux_step (leaves e c) h = absurd (both_ways false refl h)
  aux_step (tells e) h = (refl, λ s. refl)
  aux_step (hears e) h = (refl, λ s. refl)
  aux_step (works {k = k} b s) h = let rest = aux_step s h in (ap (runs k) rest.0, rest.1)
  aux_step (arrives b e f) h = (refl, λ s. refl)
  aux_step (gathers b e f) h = (refl, λ s. refl)
  aux_step (keeps e) h = absurd (both_ways false refl h)
  aux_step (replaces e) h = absurd (both_ways false refl h)
  aux_step (frees c e) h = (refl, λ s. refl)
