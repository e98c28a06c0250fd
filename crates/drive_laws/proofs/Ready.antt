-- Readiness: in a mark whose roles have no auxiliary act left, each entry that the running term plays and that is settled can be done.
use Rattle.std.proofs.Common.{◌≡◌, ℕ, suc, List, [], Bool, true, false, Option, Some, None, refl, sym, ap, ◌∙◌, subst, ⊎_elim}
use Rattle.std.proofs.lemmas.Bool.{or_parts, or_left, or_right, cases_Bool, cond-true, cond-false, both_ways}
use Rattle.dioc_terms.specs.declared.names.Role.{Role}
use Rattle.dioc_terms.specs.declared.names.Index.{Index}
use Rattle.dioc_terms.specs.declared.values.Value.{Value}
use Rattle.dioc_terms.specs.declared.processes.Key.{Key}
use Rattle.dioc_terms.specs.declared.processes.Tag.TheVariants.{Op, Go, Turn}
use Rattle.dioc_terms.specs.declared.processes.ScopeHead.{ScopeHead}
use Rattle.dioc_terms.specs.declared.entries.Note.TheVariants as note
use Rattle.dioc_terms.specs.declared.entries.Chosen.TheVariants as chosen
use Rattle.dioc_terms.specs.declared.entries.Act.{Act}
use Rattle.dioc_terms.specs.declared.entries.Act.TheVariants as act
use Rattle.dioc_terms.specs.declared.entries.Entry.{Entry}
use Rattle.dioc_terms.specs.declared.entries.Entry.TheVariants as entry
use Rattle.dioc_terms.specs.Equality.{role_eq, key_eq, act_eq, entry_eq}
use Rattle.dioc_terms.specs.Attempts.{Attempt, Stuck, Does}
use Rattle.dioc_terms.specs.Expressions.{Expression}
use Rattle.dioc_terms.specs.Messages.{doer, act_of}
use Rattle.dioc_terms.specs.Processes as process
use Rattle.dioc_terms.specs.Processes.{Process, Load, Val, Flag, Done}
use Rattle.dioc_terms.specs.Stores.{Store, next_input}
use Rattle.dioc_terms.specs.Terms as term
use Rattle.dioc_terms.specs.Terms.{Term, is_in, others, head_of}
use Rattle.dioc_terms.specs.Values.{eval, is_true}
use Rattle.projection.specs.Projection.{projected}
use Rattle.process_steps.specs.Steps.{Deed, Puts, Takes, Sets, Inputs, Picks, Chooses, Decision, key, tell, gather, ended, entry_of, take_value, begin_scope}
use Rattle.global_steps.specs.Running as running
use Rattle.global_steps.specs.Running.{Running, started, light, is_due}
use Rattle.global_steps.specs.Follow.{BookChoice, KeepsBody, TakesRule, Effect, operation, scope_plays, plays}
use Rattle.global_steps.specs.Settled.{Due, due_after, NoneDue, Released, Played, SettledAt}
use Rattle.network_steps.specs.Network.{decision}
use Rattle.marked_laws.proofs.Agreeing.{agrees_first, agrees_second, agrees_both, agrees_inside}
use Rattle.marked_laws.proofs.CanStep.{given_pending}
use Rattle.marked_laws.proofs.Constructs.{Phases, Kind, Branch, Turning, Stopping, Scoped, Releasing, turn_backs, untold, ungone}
use Rattle.marked_laws.proofs.Ends.{place_leader, still_skip, all_over}
use Rattle.marked_laws.proofs.Equality.{role_itself, key_itself, act_itself, entry_same}
use Rattle.marked_laws.proofs.Mark.{Mark, Still, Flying, Over, First, Second, Both, Held, Spent, origin, run, place, Fine, Order, Closed, both_fine}
use Rattle.marked_laws.proofs.MarkSteps.{Agrees}
use Rattle.marked_laws.proofs.Moves.{stuck_does, when_does, when_true, under_does}
use Rattle.marked_laws.proofs.Plays.{ended_plays}
use Rattle.marked_laws.proofs.Proper.{Proper, proper_seq, proper_par}
use Rattle.marked_laws.proofs.Roles.{role_swap}
use Rattle.marked_laws.proofs.Shapes.{some_same}
use Rattle.marked_laws.proofs.Tells.{tell_done, gather_done}
use Rattle.drive_laws.proofs.Quiet.{Doing, Lifts, none_ended, lift_first, lift_second, lift_left, lift_other, outsider_ends, lift_held, closes}
use Rattle.drive_laws.proofs.Arrivals.{Free, free_first, free_second, free_left, free_right, free_held, started_light, started_over, all_arrive, arrives, Begun, begun_first, begun_before, begun_after, begun_left, begun_right, begun_told, begun_held, Loose}
use Rattle.drive_laws.proofs.PlayedParts.{doer_is_due, seq_plays, par_plays, again_plays}
use Rattle.drive_laws.proofs.Seals.{Sealed, shut}

-- what holds where the part plays the entry, and where it doesn't
played_part : (m : Attempt Effect Running) (A B : Type 0) {x : Effect} {G : Running} → m ≡ Does x G → Played m A B → A
played_part m A B h p = subst (λ n. Played n A B) h p

other_part : (m : Attempt Effect Running) (A B : Type 0) → m ≡ Stuck → Played m A B → B
other_part m A B h p = subst (λ n. Played n A B) h p

-- who is in a construct's body is in it
inner_in : {x y : Bool} → (x ≡ false → y ≡ false) → y ≡ true → x ≡ true
inner_in {x} {y} f h = ⊎_elim (λ is. is) (λ no. absurd (both_ways y (f no) h)) (cases_Bool x)

module _ (cast : List Role) (stores : Role → Store) (choices : ScopeHead → BookChoice) (updates : ℕ) (mails : Key → Option Load)
    (decide : Role → ScopeHead → Decision) (decides : (q : Role) (head : ScopeHead) → head.leader ≡ q → decide q head ≡ decision cast updates head (choices head)) where
  abbrev Does' : Role → Process → Act → Deed → Type 0
  Does' q P a d = Doing cast stores mails decide q P a d

  abbrev FreeAt : Role → Mark → Type 0
  FreeAt q M = Free cast stores mails decide q (place cast M q)

  -- the role can do the entry at the process
  abbrev pub Doable : Role → Process → Entry → Type 0
  Doable q P e = (a : Act) × (d : Deed) × (entry_of d ≡ e) × (act_of e ≡ Some a) × Does' q P a d

  doable_along : (q : Role) (P Q : Process) (e : Entry) → Lifts cast stores mails decide q P Q → Doable q P e → Doable q Q e
  doable_along q P Q e lifts can = (can.0, can.1, can.2, can.3, lifts can.0 can.1 can.4)

  doable_same : (q : Role) (P Q : Process) (e : Entry) → P ≡ Q → Doable q P e → Doable q Q e
  doable_same q P Q e h can = subst (λ X. Doable q X e) h can

  -- an entry by what it is and whose it is
  doable_that : (E e : Entry) (r s : Role) (P : Role → Process) → entry_eq e E ≡ true → doer e ≡ Some r → doer E ≡ Some s → Doable s (P s) E → Doable r (P r) e
  doable_that E e r s P h who whose can =
      let is : e ≡ E = entry_same e E h in
      let same : s ≡ r = some_same (sym whose ∙ ap doer (sym is) ∙ who) in
      subst (λ q. Doable q (P q) e) same (subst (λ f. Doable s (P s) f) (sym is) can)

  -- the first act of each construct
  sends_first : (i : Index) (o : List ℕ) (a : Role) (y : Expression) (b : Role) (z : List ℕ)
      → Doable a (projected cast (term.Com i o a y b z) a) (entry.Put (operation a b i o) (note.Val (eval y (stores a))))
  sends_first i o a y b z =
      doable_same a (process.Send i o b y) (projected cast (term.Com i o a y b z) a) (entry.Put (operation a b i o) (note.Val (eval y (stores a))))
      (sym (cond-true (role_eq a a) (process.Send i o b y) _ (role_itself a)))
      (act.Put (key a b i (Op o)), Puts (key a b i (Op o)) (Val (eval y (stores a))), refl, refl, (process.Skip, when_true (act_eq (act.Put (key a b i (Op o))) (act.Put (key a b i (Op o)))) _ (act_itself (act.Put (key a b i (Op o))))))

  sets_first : (i : Index) (x : List ℕ) (r : Role) (y : Expression) → Doable r (projected cast (term.Set i x r y) r) (entry.Set i r x (eval y (stores r)))
  sets_first i x r y =
      doable_same r (process.Assign i x y) (projected cast (term.Set i x r y) r) (entry.Set i r x (eval y (stores r)))
      (sym (cond-true (role_eq r r) (process.Assign i x y) process.Skip (role_itself r)))
      (act.Set i, Sets i r x (eval y (stores r)), refl, refl, (process.Skip, when_true (act_eq (act.Set i) (act.Set i)) _ (act_itself (act.Set i))))

  reads_first : (i : Index) (x : List ℕ) (r : Role) → Doable r (projected cast (term.Input i x r) r) (entry.Input i r x (next_input (stores r)))
  reads_first i x r =
      doable_same r (process.Read i x) (projected cast (term.Input i x r) r) (entry.Input i r x (next_input (stores r)))
      (sym (cond-true (role_eq r r) (process.Read i x) process.Skip (role_itself r)))
      (act.Input i, Inputs i r x (next_input (stores r)), refl, refl, (process.Skip, when_true (act_eq (act.Input i) (act.Input i)) _ (act_itself (act.Input i))))

  picks_first : (i : Index) (r : Role) (g : Expression) (I J : Term) → Doable r (projected cast (term.If i r g I J) r) (entry.Pick i r (is_true (eval g (stores r))))
  picks_first i r g I J =
      let P : Process = process.IfLead i g (others cast r (term.If i r g I J)) (projected cast I r) (projected cast J r) in
      doable_same r P (projected cast (term.If i r g I J) r) (entry.Pick i r (is_true (eval g (stores r)))) (sym (cond-true (role_eq r r) P _ (role_itself r)))
      (act.Pick i, Picks i r (is_true (eval g (stores r))), refl, refl, (_, when_true (act_eq (act.Pick i) (act.Pick i)) _ (act_itself (act.Pick i))))

  turns_first : (i : Index) (r : Role) (g : Expression) (I : Term) → Doable r (projected cast (term.While i r g I) r) (entry.Pick i r (is_true (eval g (stores r))))
  turns_first i r g I =
      let P : Process = process.WhileLead i g (others cast r (term.While i r g I)) (projected cast I r) in
      doable_same r P (projected cast (term.While i r g I) r) (entry.Pick i r (is_true (eval g (stores r)))) (sym (cond-true (role_eq r r) P _ (role_itself r)))
      (act.Pick i, Picks i r (is_true (eval g (stores r))), refl, refl, (_, when_true (act_eq (act.Pick i) (act.Pick i)) _ (act_itself (act.Pick i))))

  chooses_first : (i : Index) (r : Role) (I : Term) (extra : List Role) (props : List (List ℕ × Value)) (level : ℕ) (e : Entry) (q : Role)
      → doer e ≡ Some q → (c : BookChoice) → choices (head_of cast i r I extra props level) ≡ c → {x : Effect} {K : Running}
      → scope_plays cast stores choices updates i r I (λ s. is_in s (term.Scope i r I extra props level)) level c e ≡ Does x K
      → Doable q (projected cast (term.Scope i r I extra props level) q) e
  chooses_first i r I extra props level e q who KeepsBody is h =
      let head : ScopeHead = head_of cast i r I extra props level in
      let E : Entry = entry.Scope i r chosen.Keep in
      let qs : List Role = others cast r (term.Scope i r I extra props level) in
      let P : Process = process.ScopeLead head qs (projected cast I r) in
      doable_that E e q r (projected cast (term.Scope i r I extra props level)) (when_does (entry_eq e E) _ h).0 who refl
      (doable_same r P (projected cast (term.Scope i r I extra props level) r) E (sym (cond-true (role_eq r r) P _ (role_itself r))) (
        act.Scope i,
        Chooses i r chosen.Keep,
        refl,
        refl,
        (_, when_true (act_eq (act.Scope i) (act.Scope i)) _ (act_itself (act.Scope i)) ∙ ap (begin_scope r i qs (projected cast I r)) (decides r head refl ∙ ap (decision cast updates head) is)),
      ))
  chooses_first i r I extra props level e q who (TakesRule name B) is h =
      let head : ScopeHead = head_of cast i r I extra props level in
      let E : Entry = entry.Scope i r (chosen.Rule name (suc updates)) in
      let qs : List Role = others cast r (term.Scope i r I extra props level) in
      let P : Process = process.ScopeLead head qs (projected cast I r) in
      doable_that E e q r (projected cast (term.Scope i r I extra props level)) (when_does (entry_eq e E) _ h).0 who refl
      (doable_same r P (projected cast (term.Scope i r I extra props level) r) E (sym (cond-true (role_eq r r) P _ (role_itself r))) (
        act.Scope i,
        Chooses i r (chosen.Rule name (suc updates)),
        refl,
        refl,
        (_, when_true (act_eq (act.Scope i) (act.Scope i)) _ (act_itself (act.Scope i)) ∙ ap (begin_scope r i qs (projected cast I r)) (decides r head refl ∙ ap (decision cast updates head) is)),
      ))

  -- of a term that nobody has begun
  still_ready : (I : Term) → Proper cast I → (e : Entry) (r : Role) → doer e ≡ Some r → {x : Effect} {K : Running}
      → plays cast stores choices updates (started I) e ≡ Does x K → Doable r (projected cast I r) e
  still_ready term.Skip proper e r who h = absurd (stuck_does h)
  still_ready (term.Com i o a y b z) proper e r who h =
      let E : Entry = entry.Put (operation a b i o) (note.Val (eval y (stores a))) in
      doable_that E e r a (projected cast (term.Com i o a y b z)) (when_does (entry_eq e E) _ h).0 who refl (sends_first i o a y b z)
  still_ready (term.Set i x s y) proper e r who h =
      let E : Entry = entry.Set i s x (eval y (stores s)) in
      doable_that E e r s (projected cast (term.Set i x s y)) (when_does (entry_eq e E) _ h).0 who refl (sets_first i x s y)
  still_ready (term.Input i x s) proper e r who h =
      let E : Entry = entry.Input i s x (next_input (stores s)) in
      doable_that E e r s (projected cast (term.Input i x s)) (when_does (entry_eq e E) _ h).0 who refl (reads_first i x s)
  still_ready (term.If i s g I J) proper e r who h =
      let E : Entry = entry.Pick i s (is_true (eval g (stores s))) in
      doable_that E e r s (projected cast (term.If i s g I J)) (when_does (entry_eq e E) _ h).0 who refl (picks_first i s g I J)
  still_ready (term.While i s g I) proper e r who h =
      let E : Entry = entry.Pick i s (is_true (eval g (stores s))) in
      doable_that E e r s (projected cast (term.While i s g I)) (when_does (entry_eq e E) _ h).0 who refl (turns_first i s g I)
  still_ready (term.Scope i s I extra props level) proper e r who h =
      chooses_first i s I extra props level e r who (choices (head_of cast i s I extra props level)) refl h
  still_ready (term.Seq I J) proper e r who h =
      let P : Process = projected cast I r in
      let Q : Process = projected cast J r in
      let parts = proper_seq cast I J proper in
      ⊎_elim
      (λ k. doable_along r P (process.Seq P Q) e (lift_first cast stores mails decide r P Q) (still_ready I parts.0 e r who k.1))
      (λ k. doable_along r Q (process.Seq P Q) e (lift_second cast stores mails decide r P Q (started_over cast I (started_light I k.1) r)) (still_ready J parts.1 e r who k.4))
      (seq_plays cast stores choices updates (started I) (started J) e h)
  still_ready (term.Par I J) proper e r who h =
      let P : Process = projected cast I r in
      let Q : Process = projected cast J r in
      let parts = proper_par cast I J proper in
      ⊎_elim
      (λ k. doable_along r P (process.Par P Q) e (lift_left cast stores mails decide r P Q) (still_ready I parts.0 e r who k.1))
      (λ k. doable_along r Q (process.Par P Q) e (lift_other cast stores mails decide (Still I) (Still J) (both_fine cast I J proper) r) (still_ready J parts.1 e r who k.2))
      (par_plays cast stores choices updates (started I) (started J) e h)

  -- What holds of each part of a mark whose roles have no auxiliary act left: of those who have begun it, and of those who aren't due
  -- before it, none has one left in it.
  pub record Calm (due : Due) (M : Mark) : Type 0 where
    pub fine : Fine cast M
    pub order : Order cast M
    pub sealed : Sealed cast M
    pub agrees : Agrees mails M
    pub begun : Begun cast stores mails decide M
    pub rests : (q : Role) → is_in q (origin M) ≡ true → due q ≡ false → FreeAt q M

  calm_first : (due : Due) (M : Mark) (J : Term) → Calm due (First M J) → Calm due M
  calm_first due M J calm = record {
    fine = calm.fine.0;
    order = calm.order;
    sealed = calm.sealed;
    agrees = agrees_first mails M J calm.agrees;
    begun = begun_first cast stores mails decide M J calm.begun;
    rests = λ q in_it out. free_first cast stores mails decide q (place cast M q) (projected cast J q) (calm.rests q (or_left (is_in q (origin M)) (is_in q J) in_it) out);
  }

  calm_before : (due : Due) (M N : Mark) → Calm due (Second M N) → Calm due M
  calm_before due M N calm = record {
    fine = calm.fine.0;
    order = calm.order.0;
    sealed = calm.sealed.0;
    agrees = (agrees_second mails M N calm.fine.2 calm.agrees).0;
    begun = begun_before cast stores mails decide M N calm.begun;
    rests = λ q in_it out. free_first cast stores mails decide q (place cast M q) (place cast N q) (calm.rests q (or_left (is_in q (origin M)) (is_in q (origin N)) in_it) out);
  }

  -- whoever isn't due in a first part has come to its end, where somebody has begun the second
  comes_through : (due : Due) (M N : Mark) → Calm due (Second M N) → (q : Role) → FreeAt q (Second M N) → is_due q (run M) ≡ false → ended (place cast M q) ≡ true
  comes_through due M N calm q none out =
      arrives cast stores mails decide M calm.fine.0 calm.order.0 (agrees_second mails M N calm.fine.2 calm.agrees).0 (begun_before cast stores mails decide M N calm.begun) q
      (free_first cast stores mails decide q (place cast M q) (place cast N q) none)
      (shut cast stores mails decide M calm.fine.0 calm.sealed.0 calm.sealed.2 calm.sealed.3 calm.sealed.4 q) calm.fine.3 out

  calm_after : (due : Due) (M N : Mark) → Calm due (Second M N) → Calm (due_after due (run M)) N
  calm_after due M N calm = record {
    fine = calm.fine.1;
    order = calm.order.1;
    sealed = calm.sealed.1;
    agrees = (agrees_second mails M N calm.fine.2 calm.agrees).1;
    begun = begun_after cast stores mails decide M N calm.order calm.begun;
    rests = λ q in_it out.
        let outs = or_parts (due q) (is_due q (run M)) out in
        let none = calm.rests q (or_right (is_in q (origin M)) (is_in q (origin N)) in_it) outs.0 in
        free_second cast stores mails decide q (place cast M q) (place cast N q) (comes_through due M N calm q none outs.1) none;
  }

  calm_left : (due : Due) (M N : Mark) → Calm due (Both M N) → Calm due M
  calm_left due M N calm = record {
    fine = calm.fine.0;
    order = calm.order.0;
    sealed = calm.sealed.0;
    agrees = (agrees_both mails M N calm.fine.2 calm.agrees).0;
    begun = begun_left cast stores mails decide M N calm.begun;
    rests = λ q in_it out. free_left cast stores mails decide q (place cast M q) (place cast N q) (calm.rests q (or_left (is_in q (origin M)) (is_in q (origin N)) in_it) out);
  }

  calm_right : (due : Due) (M N : Mark) → Calm due (Both M N) → Calm due N
  calm_right due M N calm = record {
    fine = calm.fine.1;
    order = calm.order.1;
    sealed = calm.sealed.1;
    agrees = (agrees_both mails M N calm.fine.2 calm.agrees).1;
    begun = begun_right cast stores mails decide M N calm.fine calm.begun;
    rests = λ q in_it out. free_right cast stores mails decide M N calm.fine q (calm.rests q (or_right (is_in q (origin M)) (is_in q (origin N)) in_it) out);
  }

  calm_held : (due : Due) (k : Kind) (phases : Phases) (M : Mark) → Calm due (Held k phases M) → Calm due M
  calm_held due k phases M calm = record {
    fine = calm.fine.0;
    order = calm.order;
    sealed = calm.sealed;
    agrees = agrees_inside mails k phases M calm.fine.1.own calm.agrees;
    begun = begun_held cast stores mails decide k phases M calm.fine calm.agrees calm.begun;
    rests = λ q in_it out. free_held cast stores mails decide k phases M calm.fine calm.agrees (begun_told cast stores mails decide k phases M calm.begun) q
        (calm.rests q (inner_in (calm.fine.1.inner q) (sym (ap (is_in q) calm.fine.1.is_body) ∙ in_it)) out);
  }

  -- where the chosen scopes of a first part are released for a role, none of them holds it back
  released_loose : (M : Mark) (due : Due) → Calm due M → (r : Role) → Released due (run M) r → Loose cast stores mails decide M r
  released_loose (First M J) due calm r released = released_loose M due (calm_first due M J calm) r released.0
  released_loose (Second M N) due calm r released =
      (released_loose M due (calm_before due M N calm) r released.0, released_loose N (due_after due (run M)) (calm_after due M N calm) r released.1)
  released_loose (Both M N) due calm r released =
      (released_loose M due (calm_left due M N calm) r released.0, released_loose N due (calm_right due M N calm) r released.1)
  released_loose (Held (Branch i s g I J b) phases M) due calm r released = released_loose M due (calm_held due (Branch i s g I J b) phases M calm) r released
  released_loose (Held (Scoped i s I extra props level begin B) phases M) due calm r released = λ in_r t in_t differs. calm.rests t in_t (released.0 in_r t in_t)
  released_loose (Held (Turning i s g I) phases M) due calm r released = tt
  released_loose (Held (Stopping i s g I) phases M) due calm r released = tt
  released_loose (Held (Releasing i s I extra props level) phases M) due calm r released = tt
  released_loose (Still I) due calm r released = tt
  released_loose (Flying i o a e b x v) due calm r released = tt
  released_loose (Over I) due calm r released = tt
  released_loose (Spent G) due calm r released = tt

  abbrev Settles : Due → Running → Entry → Role → Type 0
  Settles due G e r = SettledAt cast stores choices updates due G e r

  -- a message that flies lands
  flying_ready : (i : Index) (o : List ℕ) (a : Role) (y : Expression) (b : Role) (z : List ℕ) (v : Value) → Fine cast (Flying i o a y b z v)
      → Agrees mails (Flying i o a y b z v) → Doable b (place cast (Flying i o a y b z v) b) (entry.Take (operation a b i o) (Some z))
  flying_ready i o a y b z v fine agrees =
      let j : Key = key a b i (Op o) in
      doable_same b (process.Recv i o a z) (place cast (Flying i o a y b z v) b) (entry.Take (operation a b i o) (Some z))
      (sym (cond-false (role_eq b a) process.Skip _ (role_swap a b fine.no_self) ∙ cond-true (role_eq b b) (process.Recv i o a z) process.Skip (role_itself b))) (
        act.Take j,
        Takes j (Some z) (Val v),
        refl,
        refl,
        (
          process.Skip,
          when_true (act_eq (act.Take j) (act.Take j)) _ (act_itself (act.Take j))
              ∙ ap (take_value j z) (given_pending mails (decide b) j (Val v) (agrees j refl ∙ cond-true (key_eq j j) (Some (Val v)) None (key_itself j))),
        ),
      )

  -- the next pick of a loop, whose roles have all come to the end of the turn
  turn_ready : (i : Index) (s : Role) (g : Expression) (I : Term) (phases : Phases) (M : Mark) → Closed cast (Turning i s g I) phases M
      → Doable s (place cast (Held (Turning i s g I) phases M) s) (entry.Pick i s (is_true (eval g (stores s))))
  turn_ready i s g I phases M closed =
      let k : Kind = Turning i s g I in
      let E : Entry = entry.Pick i s (is_true (eval g (stores s))) in
      let P : Process = place cast M s in
      let T : Process = tell s (untold cast k phases) i Go (λ x. Flag true) in
      let G : Process = gather s (ungone cast k phases) i Turn in
      let W : Process = projected cast (term.While i s g I) s in
      doable_same s (process.Seq T (process.Seq P (process.Seq G W))) (place cast (Held k phases M) s) E (sym (place_leader cast k phases M s refl))
      (doable_along s (process.Seq P (process.Seq G W)) (process.Seq T (process.Seq P (process.Seq G W))) E
      (lift_second cast stores mails decide s T (process.Seq P (process.Seq G W)) (tell_done s (untold cast k phases) i Go (λ x. Flag true) closed.told))
      (doable_along s (process.Seq G W) (process.Seq P (process.Seq G W)) E (lift_second cast stores mails decide s P (process.Seq G W) closed.done)
      (doable_along s W (process.Seq G W) E (lift_second cast stores mails decide s G W (gather_done s (ungone cast k phases) i Turn closed.gathered))
      (turns_first i s g I))))

  -- what is played inside of a construct
  ready_inside : (k : Kind) (phases : Phases) (M : Mark) (due : Due) → Calm due (Held k phases M) → (r : Role) → FreeAt r (Held k phases M) → (e : Entry)
      → (FreeAt r M → Doable r (place cast M r) e) → Doable r (place cast (Held k phases M) r) e
  ready_inside k phases M due calm r none e inner =
      let all : untold cast k phases ≡ [] = begun_told cast stores mails decide k phases M calm.begun in
      doable_along r (place cast M r) (place cast (Held k phases M) r) e (lift_held cast stores mails decide k phases M calm.fine calm.agrees all r none)
      (inner (free_held cast stores mails decide k phases M calm.fine calm.agrees all r none))

  -- each entry that the running term plays and that is settled can be done
  pub ready : (M : Mark) (due : Due) → Calm due M → (e : Entry) (r : Role) → doer e ≡ Some r → FreeAt r M → {x : Effect} {K : Running}
      → plays cast stores choices updates (run M) e ≡ Does x K → Settles due (run M) e r → Doable r (place cast M r) e
  ready (Still I) due calm e r who none h settled = still_ready I calm.fine e r who h
  ready (Flying i o a y b z v) due calm e r who none h settled =
      let E : Entry = entry.Take (operation a b i o) (Some z) in
      doable_that E e r b (place cast (Flying i o a y b z v)) (when_does (entry_eq e E) _ h).0 who refl (flying_ready i o a y b z v calm.fine calm.agrees)
  ready (Over I) due calm e r who none h settled = absurd (stuck_does h)
  ready (First M J) due calm e r who none h settled =
      let P : Process = place cast M r in
      let Q : Process = projected cast J r in
      let free : FreeAt r M = free_first cast stores mails decide r P Q none in
      let inner : Calm due M = calm_first due M J calm in
      ⊎_elim
      (λ k. doable_along r P (process.Seq P Q) e (lift_first cast stores mails decide r P Q)
      (ready M due inner e r who free k.1 (played_part (plays cast stores choices updates (run M) e) _ _ k.1 settled)))
      (λ k.
      let there = other_part (plays cast stores choices updates (run M) e) (Settles due (run M) e r)
      (Released due (run M) r × Settles (due_after due (run M)) (started J) e r) k.0 settled in
      doable_along r Q (process.Seq P Q) e
      (lift_second cast stores mails decide r P Q
      (arrives cast stores mails decide M inner.fine inner.order inner.agrees inner.begun r free (released_loose M due inner r there.0) k.1
      (sym (doer_is_due e r (run M) who) ∙ k.2)))
      (still_ready J calm.fine.1 e r who k.4))
      (seq_plays cast stores choices updates (run M) (started J) e h)
  ready (Second M N) due calm e r who none h settled =
      let P : Process = place cast M r in
      let Q : Process = place cast N r in
      ⊎_elim
      (λ k. doable_along r P (process.Seq P Q) e (lift_first cast stores mails decide r P Q)
      (ready M due (calm_before due M N calm) e r who (free_first cast stores mails decide r P Q none) k.1
      (played_part (plays cast stores choices updates (run M) e) _ _ k.1 settled)))
      (λ k.
      let there = other_part (plays cast stores choices updates (run M) e) (Settles due (run M) e r)
      (Released due (run M) r × Settles (due_after due (run M)) (run N) e r) k.0 settled in
      let over : ended P ≡ true = comes_through due M N calm r none (sym (doer_is_due e r (run M) who) ∙ k.2) in
      doable_along r Q (process.Seq P Q) e (lift_second cast stores mails decide r P Q over)
      (ready N (due_after due (run M)) (calm_after due M N calm) e r who (free_second cast stores mails decide r P Q over none) k.4 there.1))
      (seq_plays cast stores choices updates (run M) (run N) e h)
  ready (Both M N) due calm e r who none h settled =
      let P : Process = place cast M r in
      let Q : Process = place cast N r in
      ⊎_elim
      (λ k. doable_along r P (process.Par P Q) e (lift_left cast stores mails decide r P Q)
      (ready M due (calm_left due M N calm) e r who (free_left cast stores mails decide r P Q none) k.1
      (played_part (plays cast stores choices updates (run M) e) _ _ k.1 settled)))
      (λ k. doable_along r Q (process.Par P Q) e (lift_other cast stores mails decide M N calm.fine r)
      (ready N due (calm_right due M N calm) e r who (free_right cast stores mails decide M N calm.fine r none) k.2
      (other_part (plays cast stores choices updates (run M) e) (Settles due (run M) e r) (Settles due (run N) e r) k.0 settled)))
      (par_plays cast stores choices updates (run M) (run N) e h)
  ready (Held (Branch i s g I J b) phases M) due calm e r who none h settled =
      let k : Kind = Branch i s g I J b in
      ready_inside k phases M due calm r none e (λ free. ready M due (calm_held due k phases M calm) e r who free h settled)
  ready (Held (Turning i s g I) phases M) due calm e r who none h settled =
      let k : Kind = Turning i s g I in
      ⊎_elim
      (λ m. ready_inside k phases M due calm r none e (λ free. ready M due (calm_held due k phases M calm) e r who free m.1
      (played_part (plays cast stores choices updates (run M) e) _ _ m.1 settled)))
      (λ m.
      let E : Entry = entry.Pick i s (is_true (eval g (stores s))) in
      let out : NoneDue due (λ q. is_in q (term.While i s g I)) =
      other_part (plays cast stores choices updates (run M) e) (Settles due (run M) e r) (NoneDue due (λ q. is_in q (term.While i s g I))) m.0 settled in
      let each : (q : Role) → FreeAt q (Held k phases M) = λ q. ⊎_elim
      (λ in_it. calm.rests q in_it (out q in_it))
      (λ no. none_ended cast stores mails decide q (place cast (Held k phases M) q) (outsider_ends cast stores mails decide k phases M calm.fine calm.agrees q no))
      (cases_Bool (is_in q (term.While i s g I))) in
      let all : untold cast k phases ≡ [] = begun_told cast stores mails decide k phases M calm.begun in
      let over : (q : Role) → ended (place cast M q) ≡ true = all_arrive cast stores mails decide M calm.fine.0 (agrees_inside mails k phases M calm.fine.1.own calm.agrees)
      (λ q. free_held cast stores mails decide k phases M calm.fine calm.agrees all q (each q)) m.1 in
      doable_that E e r s (place cast (Held k phases M)) (when_does (entry_eq e E) _ m.2).0 who refl
      (turn_ready i s g I phases M (closes cast stores mails decide k phases M calm.fine calm.agrees turn_backs each over)))
      (again_plays cast stores choices updates i s g I (run M) e h)
  ready (Held (Stopping i s g I) phases M) due calm e r who none h settled = absurd (stuck_does h)
  ready (Held (Scoped i s I extra props level begin B) phases M) due calm e r who none h settled =
      let k : Kind = Scoped i s I extra props level begin B in
      let inner = under_does (running.Bar (λ q. is_in q (term.Scope i s I extra props level))) (plays cast stores choices updates (run M) e) h in
      ready_inside k phases M due calm r none e (λ free. ready M due (calm_held due k phases M calm) e r who free inner.1 settled)
  ready (Held (Releasing i s I extra props level) phases M) due calm e r who none h settled =
      let inner = under_does (running.Bar (λ q. is_in q (term.Scope i s I extra props level))) (plays cast stores choices updates (run M) e) h in
      absurd (stuck_does (sym (ended_plays cast stores choices updates (run M) e (all_over cast M calm.fine.0 (λ q. still_skip cast M q calm.fine.1.is_body))) ∙ inner.1))
  ready (Spent G) due calm e r who none h settled = absurd (stuck_does (sym (ended_plays cast stores choices updates G e calm.fine) ∙ h))
