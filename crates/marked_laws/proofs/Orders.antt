-- The second invariant of a run: who has begun a second part has ended the first. A step keeps it, since who does a step had not
-- ended before.
use Rattle.std.proofs.Common.{◌≡◌, ◌⊎◌, ℕ, List, ◌∷◌, Bool, true, false, ◌||◌, not, refl, sym, ap, ◌∙◌, subst, inl, inr, ⊎_elim}
use Rattle.std.proofs.lemmas.Bool.{and_parts, and_left, and_right, or_cases, or_from, or_left, or_right, both_ways, cases_Bool, cond-true, cond-false, false_from_ne_true}
use Rattle.dioc_terms.specs.declared.names.Role.{Role}
use Rattle.dioc_terms.specs.declared.names.Index.{Index}
use Rattle.dioc_terms.specs.declared.values.Value.{Value}
use Rattle.dioc_terms.specs.declared.processes.Tag.{Tag}
use Rattle.dioc_terms.specs.declared.processes.Tag.TheVariants.{Choice, Go, Begin, Out, Turn, End}
use Rattle.dioc_terms.specs.declared.processes.ScopeHead.{ScopeHead}
use Rattle.dioc_terms.specs.Equality.{role_eq}
use Rattle.dioc_terms.specs.Expressions.{Expression}
use Rattle.dioc_terms.specs.Processes as process
use Rattle.dioc_terms.specs.Processes.{Process, Load, Flag, Done}
use Rattle.dioc_terms.specs.Stores.{Store}
use Rattle.dioc_terms.specs.Terms as term
use Rattle.dioc_terms.specs.Terms.{Term, is_in, others}
use Rattle.process_steps.specs.Steps.{Deed, tell, gather, ended}
use Rattle.global_steps.specs.Running.{started}
use Rattle.global_steps.specs.Follow.{BookChoice, updated}
use Rattle.marked_laws.proofs.Constructs.{Phase, Phases, Kind, Branch, Turning, Stopping, Scoped, Releasing, Waits, Told, Inside, Sent, Gone, waits, gone, is_early, leader, whole, Backs, turn_backs, end_backs, leads, inside, follows, untold, ungone}
use Rattle.marked_laws.proofs.Ends.{place_leader, place_follower, held_inside}
use Rattle.marked_laws.proofs.Equality.{role_same, role_itself}
use Rattle.marked_laws.proofs.Gates.{before_busy, untold_head, ungone_none, closed_ended}
use Rattle.marked_laws.proofs.Mark.{Mark, Still, Flying, Over, First, Second, Both, Held, Spent, run, in_bars, has_passed, acted, place, Fine, Order, Closed, first_fine, both_fine}
use Rattle.marked_laws.proofs.MarkSteps.{Steps, sends, lands, sets, reads, seq_opens, par_opens, seq_first, seq_begins, seq_lags, seq_goes, par_left, par_right, picks, turns, stops, again, leaves, tells, hears, works, arrives, gathers, keeps, replaces, frees, doer_of}
use Rattle.marked_laws.proofs.Others.{place_other}
use Rattle.marked_laws.proofs.Roles.{role_cases, role_swap, updated_here, updated_there}

-- a role that is told nothing new hasn't begun the construct by that
passed_same : (q : Role) (k : Kind) (p p' : Phase) → is_early p' ≡ is_early p → has_passed q k p' ≡ has_passed q k p
passed_same q (Releasing i r I extra props level) p p' h = refl
passed_same q k p p' h = ap (λ early. role_eq q (leader k) || not early) h

updated_passed : (k : Kind) (phases : Phases) (t : Role) (p : Phase) (q : Role) → is_early p ≡ is_early (phases t)
    → has_passed q k (updated t p phases q) ≡ has_passed q k (phases q)
updated_passed k phases t p q h = passed_same q k (phases q) (updated t p phases q) (⊎_elim
    (λ is. subst (λ y. is_early (updated t p phases y) ≡ is_early (phases y)) (sym is) (ap is_early (updated_here t p phases) ∙ h))
    (λ differs. ap is_early (updated_there t p phases q differs))
    (role_cases q t))

waits_early : (p : Phase) → waits p ≡ true → is_early p ≡ true
waits_early Waits h = refl
waits_early p h = cc

gone_passed : (p : Phase) → gone p ≡ true → not (is_early p) ≡ true
gone_passed Gone h = refl
gone_passed p h = cc

-- of a construct that is just begun its leader alone has begun it
leader_alone : (b : Bool) → ((b || false) || false) ≡ true → b ≡ true
leader_alone true h = refl
leader_alone false h = h

-- what hasn't begun has no chosen scope in it
no_bars : (q : Role) (I : Term) → in_bars q (started I) ≡ false
no_bars q (term.Seq I J) = or_from _ _ (no_bars q I) (no_bars q J)
no_bars q (term.Par I J) = or_from _ _ (no_bars q I) (no_bars q J)
no_bars q term.Skip = refl
no_bars q (term.Com i o a e b x) = refl
no_bars q (term.Set i x r e) = refl
no_bars q (term.Input i x r) = refl
no_bars q (term.If i r g I J) = refl
no_bars q (term.While i r g I) = refl
no_bars q (term.Scope i r I extra props level) = refl

module _ (cast : List Role) where
  -- who is still to tell, to gather or to be let out has not ended
  leads_telling : (k : Kind) (phases : Phases) (P : Process) (q : Role) (qs : List Role) → untold cast k phases ≡ q ∷ qs
      → ended (leads cast k phases P) ≡ false
  leads_telling (Branch i r g I J b) phases P q qs h = and_left _ _ (ap (λ rs. ended (tell r rs i Choice (λ q. Flag b))) h)
  leads_telling (Turning i r g I) phases P q qs h = and_left _ _ (ap (λ rs. ended (tell r rs i Go (λ q. Flag true))) h)
  leads_telling (Stopping i r g I) phases P q qs h = ap (λ rs. ended (tell r rs i Go (λ q. Flag false))) h
  leads_telling (Scoped i r I extra props level begin B) phases P q qs h = and_left _ _ (ap (λ rs. ended (tell r rs i Begin begin)) h)
  leads_telling (Releasing i r I extra props level) phases P q qs h = ap (λ rs. ended (tell r rs i Out (λ q. Done))) h

  leads_gathering : {k : Kind} {t : Tag} → Backs k t → (phases : Phases) (P : Process) (q : Role) (qs : List Role) → ungone cast k phases ≡ q ∷ qs
      → ended (leads cast k phases P) ≡ false
  leads_gathering (turn_backs {i = i} {r = r}) phases P q qs h =
      and_right _ _ (and_right (ended P) _ (and_left _ _ (ap (λ rs. ended (gather r rs i Turn)) h)))
  leads_gathering (end_backs {i = i} {r = r}) phases P q qs h =
      and_right _ _ (and_right (ended P) _ (and_left _ _ (ap (λ rs. ended (gather r rs i End)) h)))

  inside_busy : {k : Kind} {t : Tag} → Backs k t → (q : Role) (P : Process) → ended (inside cast k q P) ≡ false
  inside_busy turn_backs q P = and_right (ended P) _ refl
  inside_busy end_backs q P = and_right (ended P) _ refl

  -- a role of a chosen scope isn't through before the leader lets it out
  scoped_busy : (i : Index) (r : Role) (I : Term) (extra : List Role) (props : List (List ℕ × Value)) (level : ℕ) (begin : Role → Load) (B : Term)
      (q : Role) (p : Phase) (P : Process) → role_eq q r ≡ false → is_in q (term.Scope i r I extra props level) ≡ true
      → ended (follows cast (Scoped i r I extra props level begin B) q p P) ≡ false
  scoped_busy i r I extra props level begin B q Waits P other in_it = before_busy cast (Scoped i r I extra props level begin B) q other in_it
  scoped_busy i r I extra props level begin B q Told P other in_it = before_busy cast (Scoped i r I extra props level begin B) q other in_it
  scoped_busy i r I extra props level begin B q Inside P other in_it = and_right (ended P) _ refl
  scoped_busy i r I extra props level begin B q Sent P other in_it = refl
  scoped_busy i r I extra props level begin B q Gone P other in_it = refl

  pub scoped_follower : (i : Index) (r : Role) (I : Term) (extra : List Role) (props : List (List ℕ × Value)) (level : ℕ) (begin : Role → Load) (B : Term)
      (phases : Phases) (M : Mark) (q : Role) → role_eq q r ≡ false → is_in q (term.Scope i r I extra props level) ≡ true
      → ended (place cast (Held (Scoped i r I extra props level begin B) phases M) q) ≡ true → ⊥
  scoped_follower i r I extra props level begin B phases M q other in_it h = both_ways _
      (scoped_busy i r I extra props level begin B q (phases q) (place cast M q) other in_it)
      (sym (ap ended (place_follower cast (Scoped i r I extra props level begin B) phases M q other)) ∙ h)

  -- where all have ended, who is of a chosen scope has begun the mark
  bars_acted : (M : Mark) → Fine cast M → ((q : Role) → ended (place cast M q) ≡ true) → (q : Role) → in_bars q (run M) ≡ true → acted q M ≡ true
  bars_acted (Still I) fine h q k = absurd (both_ways _ (no_bars q I) k)
  bars_acted (Flying i o a e b x v) fine h q k = absurd (both_ways false refl k)
  bars_acted (Over I) fine h q k = absurd (both_ways false refl k)
  bars_acted (First M J) fine h q k = ⊎_elim (λ l. bars_acted M fine.0 (λ r. (and_parts _ _ (h r)).0) q l)
      (λ l. absurd (both_ways _ (no_bars q J) l)) (or_cases _ _ k)
  bars_acted (Second M N) fine h q k = ⊎_elim
      (λ l. or_left _ (acted q N) (bars_acted M fine.0 (λ r. (and_parts _ _ (h r)).0) q l))
      (λ l. or_right (acted q M) _ (bars_acted N fine.1 (λ r. (and_parts _ _ (h r)).1) q l)) (or_cases _ _ k)
  bars_acted (Both M N) fine h q k = ⊎_elim
      (λ l. or_left _ (acted q N) (bars_acted M fine.0 (λ r. (and_parts _ _ (h r)).0) q l))
      (λ l. or_right (acted q M) _ (bars_acted N fine.1 (λ r. (and_parts _ _ (h r)).1) q l)) (or_cases _ _ k)
  bars_acted (Held (Branch i r g I J b) phases M) fine h q k =
      or_right (has_passed q (Branch i r g I J b) (phases q)) _ (bars_acted M fine.0 (λ s. held_inside cast (Branch i r g I J b) phases M s fine (h s)) q k)
  bars_acted (Held (Turning i r g I) phases M) fine h q k =
      or_right (has_passed q (Turning i r g I) (phases q)) _ (bars_acted M fine.0 (λ s. held_inside cast (Turning i r g I) phases M s fine (h s)) q k)
  bars_acted (Held (Stopping i r g I) phases M) fine h q k = absurd (both_ways false refl k)
  bars_acted (Held (Scoped i r I extra props level begin B) phases M) fine h q k = ⊎_elim
      (λ in_it. ⊎_elim
      (λ is. or_left _ (acted q M) (or_left (role_eq q r) (not (is_early (phases q))) (subst (λ y. role_eq y r ≡ true) (sym is) (role_itself r))))
      (λ other. absurd (scoped_follower i r I extra props level begin B phases M q other in_it (h q)))
      (role_cases q r))
      (λ l. or_right (role_eq q r || not (is_early (phases q))) _
      (bars_acted M fine.0 (λ s. held_inside cast (Scoped i r I extra props level begin B) phases M s fine (h s)) q l))
      (or_cases _ _ k)
  bars_acted (Held (Releasing i r I extra props level) phases M) fine h q k = ⊎_elim
      (λ in_it. or_left _ (acted q M) in_it)
      (λ l. or_right (is_in q (term.Scope i r I extra props level)) _
      (bars_acted M fine.0 (λ s. held_inside cast (Releasing i r I extra props level) phases M s fine (h s)) q l))
      (or_cases _ _ k)
  bars_acted (Spent G) fine h q k = k

  -- of a turn or a scope that is over all roles have begun it
  pub closed_passed : (k : Kind) (phases : Phases) (M : Mark) → Fine cast (Held k phases M) → Closed cast k phases M → (q : Role) → is_in q (whole k) ≡ true
      → (role_eq q (leader k) || not (is_early (phases q))) ≡ true
  closed_passed k phases M fine closed q in_it = ⊎_elim
      (λ is. or_left (role_eq q (leader k)) _ is)
      (λ other. or_right (role_eq q (leader k)) _ (gone_passed (phases q) (ungone_none cast k phases q fine.1.proper closed.gathered other in_it)))
      (cases_Bool (role_eq q (leader k)))

  module _ (stores : Role → Store) (choices : ScopeHead → BookChoice) (updates : ℕ) where
    -- the leader of a turn has still to pick again
    turn_busy : (i : Index) (r : Role) (g : Expression) (I : Term) (phases : Phases) (M : Mark) → ended (place cast (Held (Turning i r g I) phases M) r) ≡ false
    turn_busy i r g I phases M =
        ap ended (place_leader cast (Turning i r g I) phases M r refl)
        ∙ and_right _ _ (and_right (ended (place cast M r)) _ (and_right _ _ (ap ended (cond-true (role_eq r r) _ _ (role_itself r)))))

    -- who does a step hasn't ended before it
    pub step_busy : {M N : Mark} {d : Deed} → Steps cast stores choices updates M d N → Fine cast M → ended (place cast M (doer_of d)) ≡ false
    step_busy (sends {a = a}) fine = ap ended (cond-true (role_eq a a) _ _ (role_itself a))
    step_busy (lands {i = i} {o = o} {a = a} {b = b} {x = x}) fine =
        ap ended (cond-false (role_eq b a) process.Skip _ (role_swap a b fine.no_self) ∙ cond-true (role_eq b b) (process.Recv i o a x) process.Skip (role_itself b))
    step_busy (sets {i = i} {x = x} {r = r} {e = e}) fine = ap ended (cond-true (role_eq r r) (process.Assign i x e) process.Skip (role_itself r))
    step_busy (reads {i = i} {x = x} {r = r}) fine = ap ended (cond-true (role_eq r r) (process.Read i x) process.Skip (role_itself r))
    step_busy (seq_opens {I = I} {J = J} s) fine = step_busy s (first_fine cast I J fine)
    step_busy (par_opens {I = I} {J = J} s) fine = step_busy s (both_fine cast I J fine)
    step_busy (seq_first s) fine = and_left _ _ (step_busy s fine.0)
    step_busy (seq_begins e s) fine = and_right _ _ (step_busy s fine.1)
    step_busy (seq_lags s) fine = and_left _ _ (step_busy s fine.0)
    step_busy (seq_goes e s) fine = and_right _ _ (step_busy s fine.1)
    step_busy (par_left s) fine = and_left _ _ (step_busy s fine.0)
    step_busy (par_right s) fine = and_right _ _ (step_busy s fine.1)
    step_busy (picks {r = r}) fine = ap ended (cond-true (role_eq r r) _ _ (role_itself r))
    step_busy (turns {r = r} e) fine = ap ended (cond-true (role_eq r r) _ _ (role_itself r))
    step_busy (stops {r = r} e) fine = ap ended (cond-true (role_eq r r) _ _ (role_itself r))
    step_busy (again {i = i} {r = r} {g = g} {I = I} {phases = phases} {M = M} e closed) fine = turn_busy i r g I phases M
    step_busy (leaves {i = i} {r = r} {g = g} {I = I} {phases = phases} {M = M} e closed) fine = turn_busy i r g I phases M
    step_busy (tells {k = k} {phases = phases} {M = M} {q = q} {qs = qs} e) fine =
        ap ended (place_leader cast k phases M (leader k) refl) ∙ leads_telling k phases (place cast M (leader k)) q qs e
    step_busy (hears {k = k} {phases = phases} {M = M} {q = q} e) fine =
        let who = fine.1.known q (ap waits e) in
        ap ended (place_follower cast k phases M q who.0) ∙ ap (λ p. ended (follows cast k q p (place cast M q))) e ∙ before_busy cast k q who.0 who.1
    step_busy (works {k = k} {phases = phases} {M = M} {d = d} b s) fine =
        false_from_ne_true _ (λ h. both_ways _ (step_busy s fine.0) (held_inside cast k phases M (doer_of d) fine h))
    step_busy (arrives {k = k} {phases = phases} {M = M} {q = q} b e f) fine =
        let who = fine.1.known q (ap waits e) in
        ap ended (place_follower cast k phases M q who.0) ∙ ap (λ p. ended (follows cast k q p (place cast M q))) e ∙ inside_busy b q (place cast M q)
    step_busy (gathers {k = k} {phases = phases} {M = M} {q = q} {qs = qs} b e f) fine =
        ap ended (place_leader cast k phases M (leader k) refl) ∙ leads_gathering b phases (place cast M (leader k)) q qs e
    step_busy (keeps {r = r} e) fine = ap ended (cond-true (role_eq r r) _ _ (role_itself r))
    step_busy (replaces {r = r} e) fine = ap ended (cond-true (role_eq r r) _ _ (role_itself r))
    step_busy (frees {i = i} {r = r} {I = I} {extra = extra} {props = props} {level = level} {begin = begin} {B = B} {phases = phases} {M = M} closed f) fine =
        ap ended (place_leader cast (Scoped i r I extra props level begin B) phases M r refl)
        ∙ and_right _ _ (and_right (ended (place cast M r)) _ (and_right _ _ (ap (λ rs. ended (tell r rs i Out (λ q. Done))) f)))

    -- who has begun a mark after a step had begun it before, or did the step
    pub acted_step : {M N : Mark} {d : Deed} → Steps cast stores choices updates M d N → Fine cast M → (q : Role) → acted q N ≡ true
        → (acted q M ≡ true) ⊎ (q ≡ doer_of d)
    acted_step (sends {a = a}) fine q h = inr (role_same q a h)
    acted_step (lands {a = a} {b = b}) fine q h = ⊎_elim (λ k. inl k) (λ k. inr (role_same q b k)) (or_cases (role_eq q a) (role_eq q b) h)
    acted_step (sets {r = r}) fine q h = inr (role_same q r h)
    acted_step (reads {r = r}) fine q h = inr (role_same q r h)
    acted_step (seq_opens {I = I} {J = J} s) fine q h = acted_step s (first_fine cast I J fine) q h
    acted_step (par_opens {I = I} {J = J} s) fine q h = acted_step s (both_fine cast I J fine) q h
    acted_step (seq_first s) fine q h = acted_step s fine.0 q h
    acted_step (seq_begins {M = M} {N = N} e s) fine q h = ⊎_elim (λ k. inl k)
        (λ k. ⊎_elim (λ l. absurd (both_ways false refl l)) (λ l. inr l) (acted_step s fine.1 q k)) (or_cases (acted q M) (acted q N) h)
    acted_step (seq_lags {M = M} {N = N} {K = K} s) fine q h = ⊎_elim
        (λ k. ⊎_elim (λ l. inl (or_left (acted q M) (acted q K) l)) (λ l. inr l) (acted_step s fine.0 q k))
        (λ k. inl (or_right (acted q M) (acted q K) k)) (or_cases (acted q N) (acted q K) h)
    acted_step (seq_goes {M = M} {N = N} {K = K} e s) fine q h = ⊎_elim
        (λ k. inl (or_left (acted q M) (acted q N) k))
        (λ k. ⊎_elim (λ l. inl (or_right (acted q M) (acted q N) l)) (λ l. inr l) (acted_step s fine.1 q k)) (or_cases (acted q M) (acted q K) h)
    acted_step (par_left {M = M} {N = N} {K = K} s) fine q h = ⊎_elim
        (λ k. ⊎_elim (λ l. inl (or_left (acted q M) (acted q K) l)) (λ l. inr l) (acted_step s fine.0 q k))
        (λ k. inl (or_right (acted q M) (acted q K) k)) (or_cases (acted q N) (acted q K) h)
    acted_step (par_right {M = M} {N = N} {K = K} s) fine q h = ⊎_elim
        (λ k. inl (or_left (acted q M) (acted q N) k))
        (λ k. ⊎_elim (λ l. inl (or_right (acted q M) (acted q N) l)) (λ l. inr l) (acted_step s fine.1 q k)) (or_cases (acted q M) (acted q K) h)
    acted_step (picks {r = r}) fine q h = inr (role_same q r (leader_alone (role_eq q r) h))
    acted_step (turns {r = r} e) fine q h = inr (role_same q r (leader_alone (role_eq q r) h))
    acted_step (stops {r = r} e) fine q h = inr (role_same q r (leader_alone (role_eq q r) h))
    acted_step (again {r = r} e closed) fine q h = inr (role_same q r (leader_alone (role_eq q r) h))
    acted_step (leaves {r = r} e closed) fine q h = inr (role_same q r (leader_alone (role_eq q r) h))
    acted_step (tells {k = k} {phases = phases} {M = M} {q = t} {qs = ts} e) fine q h =
        inl (subst (λ b. (b || acted q M) ≡ true) (updated_passed k phases t Told q (sym (waits_early (phases t) (untold_head cast k phases t ts e).0))) h)
    acted_step (hears {k = k} {phases = phases} {M = M} {q = t} e) fine q h = ⊎_elim (λ is. inr is)
        (λ differs. inl (subst (λ p. (has_passed q k p || acted q M) ≡ true) (updated_there t Inside phases q differs) h)) (role_cases q t)
    acted_step (works {k = k} {phases = phases} {M = M} {N = N} b s) fine q h = ⊎_elim
        (λ l. inl (or_left (has_passed q k (phases q)) (acted q M) l))
        (λ l. ⊎_elim (λ m. inl (or_right (has_passed q k (phases q)) (acted q M) m)) (λ m. inr m) (acted_step s fine.0 q l))
        (or_cases (has_passed q k (phases q)) (acted q N) h)
    acted_step (arrives {k = k} {phases = phases} {M = M} {q = t} b e f) fine q h =
        inl (subst (λ b. (b || acted q M) ≡ true) (updated_passed k phases t Sent q (sym (ap is_early e))) h)
    acted_step (gathers {k = k} {phases = phases} {M = M} {q = t} b e f) fine q h =
        inl (subst (λ b. (b || acted q M) ≡ true) (updated_passed k phases t Gone q (sym (ap is_early f))) h)
    acted_step (keeps {r = r} e) fine q h = inr (role_same q r (leader_alone (role_eq q r) h))
    acted_step (replaces {r = r} e) fine q h = inr (role_same q r (leader_alone (role_eq q r) h))
    acted_step (frees {i = i} {r = r} {I = I} {extra = extra} {props = props} {level = level} {begin = begin} {B = B} {phases = phases} {M = M} closed f) fine q h = inl (⊎_elim
        (λ in_it. or_left _ (acted q M) (closed_passed (Scoped i r I extra props level begin B) phases M fine closed q in_it))
        (λ l. or_right (role_eq q r || not (is_early (phases q))) _
        (bars_acted M fine.0 (closed_ended cast (Scoped i r I extra props level begin B) phases M fine closed) q l))
        (or_cases (is_in q (term.Scope i r I extra props level)) (in_bars q (run M)) h))

    -- the second invariant is kept
    pub order_step : {M N : Mark} {d : Deed} → Steps cast stores choices updates M d N → Fine cast M → Order cast M → Order cast N
    order_step sends fine order = tt
    order_step lands fine order = tt
    order_step sets fine order = tt
    order_step reads fine order = tt
    order_step (seq_opens {I = I} {J = J} s) fine order = order_step s (first_fine cast I J fine) tt
    order_step (par_opens {I = I} {J = J} s) fine order = order_step s (both_fine cast I J fine) (tt, tt)
    order_step (seq_first s) fine order = order_step s fine.0 order
    order_step (seq_begins {M = M} {N = N} {d = d} e s) fine order = (
      order,
      order_step s fine.1 tt,
      λ q h. ⊎_elim
          (λ k. absurd (both_ways false refl k))
          (λ is. subst (λ y. ended (place cast M y) ≡ true) (sym is) e) (acted_step s fine.1 q h),
    )
    order_step (seq_lags {M = M} {N = N} {d = d} s) fine order = (
      order_step s fine.0 order.0,
      order.1,
      λ q h. ⊎_elim
          (λ is. absurd (both_ways _ (step_busy s fine.0) (subst (λ y. ended (place cast M y) ≡ true) is (order.2 q h))))
          (λ other. ap ended (place_other cast stores choices updates s fine.0 q other) ∙ order.2 q h) (role_cases q (doer_of d)),
    )
    order_step (seq_goes {M = M} {d = d} e s) fine order = (
      order.0,
      order_step s fine.1 order.1,
      λ q h. ⊎_elim
          (λ k. order.2 q k)
          (λ is. subst (λ y. ended (place cast M y) ≡ true) (sym is) e) (acted_step s fine.1 q h),
    )
    order_step (par_left s) fine order = (order_step s fine.0 order.0, order.1)
    order_step (par_right s) fine order = (order.0, order_step s fine.1 order.1)
    order_step picks fine order = tt
    order_step (turns e) fine order = tt
    order_step (stops e) fine order = tt
    order_step (again e closed) fine order = tt
    order_step (leaves e closed) fine order = tt
    order_step (tells e) fine order = order
    order_step (hears e) fine order = order
    order_step (works b s) fine order = order_step s fine.0 order
    order_step (arrives b e f) fine order = order
    order_step (gathers b e f) fine order = order
    order_step (keeps e) fine order = tt
    order_step (replaces e) fine order = tt
    order_step (frees closed f) fine order = tt
