-- Each visible step of a mark is settled in its running term: nobody passes the end of a turn or of a scope before all its roles have
-- arrived there.
use Rattle.std.proofs.Common.{◌≡◌, ℕ, List, [], Bool, true, false, ◌||◌, not, refl, sym, ap, ◌∙◌, subst, ⊎_elim}
use Rattle.std.proofs.lemmas.Bool.{and_parts, or_from, or_left, or_right, both_ways}
use Rattle.dioc_terms.specs.declared.names.Role.{Role}
use Rattle.dioc_terms.specs.declared.names.Index.{Index}
use Rattle.dioc_terms.specs.declared.values.Value.{Value}
use Rattle.dioc_terms.specs.declared.processes.Tag.TheVariants.{Out}
use Rattle.dioc_terms.specs.declared.processes.ScopeHead.{ScopeHead}
use Rattle.dioc_terms.specs.declared.entries.Entry.{Entry}
use Rattle.dioc_terms.specs.declared.entries.Entry.TheVariants as entry
use Rattle.dioc_terms.specs.Equality.{role_eq, member}
use Rattle.dioc_terms.specs.Expressions.{Expression}
use Rattle.dioc_terms.specs.Messages.{is_aux}
use Rattle.dioc_terms.specs.Attempts.{Attempt, Stuck, Does}
use Rattle.dioc_terms.specs.Processes.{Load, Done}
use Rattle.dioc_terms.specs.Stores.{Store}
use Rattle.dioc_terms.specs.Terms as term
use Rattle.dioc_terms.specs.Terms.{Term, is_in, others}
use Rattle.process_steps.specs.Steps.{Deed, ended, entry_of}
use Rattle.global_steps.specs.Running as running
use Rattle.global_steps.specs.Running.{Running, started, is_due}
use Rattle.global_steps.specs.Follow.{BookChoice, Effect, plays}
use Rattle.global_steps.specs.Settled.{Due, due_after, nobody, Released, Played, SettledAt}
use Rattle.marked_laws.proofs.Plays.{tag_aux, backs_aux}
use Rattle.marked_laws.proofs.Tells.{tell_ended}
use Rattle.marked_laws.proofs.Constructs.{Phases, Kind, Branch, Turning, Stopping, Scoped, Releasing, is_early, runs}
use Rattle.marked_laws.proofs.Ends.{place_leader, held_inside, all_over}
use Rattle.marked_laws.proofs.Equality.{role_itself}
use Rattle.marked_laws.proofs.Gates.{closed_ended, is_follower}
use Rattle.marked_laws.proofs.Groups.{ended_due, over_due}
use Rattle.marked_laws.proofs.Keeps.{deed_index, deed_at}
use Rattle.marked_laws.proofs.Mark.{Mark, Still, Flying, Over, First, Second, Both, Held, Spent, run, At, in_bars, has_passed, acted, place, Fine, Order, Closed, first_fine, both_fine}
use Rattle.marked_laws.proofs.MarkSteps.{Steps, sends, lands, sets, reads, seq_opens, par_opens, seq_first, seq_begins, seq_lags, seq_goes, par_left, par_right, picks, turns, stops, again, leaves, tells, hears, works, arrives, gathers, keeps, replaces, frees, doer_of}
use Rattle.marked_laws.proofs.Orders.{scoped_follower, closed_passed}
use Rattle.marked_laws.proofs.Plays.{entry_deed_index, ended_plays, mark_away, run_step}
use Rattle.marked_laws.proofs.Proper.{Proper}
use Rattle.marked_laws.proofs.Roles.{role_cases}

-- what hasn't begun has no chosen scope in it
unbarred : (due : Due) (I : Term) (s : Role) → Released due (started I) s
unbarred due (term.Seq I J) s = (unbarred due I s, unbarred (due_after due (started I)) J s)
unbarred due (term.Par I J) s = (unbarred due I s, unbarred due J s)
unbarred due term.Skip s = tt
unbarred due (term.Com i o a e b x) s = tt
unbarred due (term.Set i x r e) s = tt
unbarred due (term.Input i x r) s = tt
unbarred due (term.If i r g I J) s = tt
unbarred due (term.While i r g I) s = tt
unbarred due (term.Scope i r I extra props level) s = tt

-- an ended term of whose scopes nobody is due
released_ended : (due : Due) (G : Running) (s : Role) → running.ended G ≡ true → ((q : Role) → in_bars q G ≡ true → due q ≡ false) → Released due G s
released_ended due (running.Seq G H) s h clear =
    let parts = and_parts (running.ended G) (running.ended H) h in (
      released_ended due G s parts.0 (λ q k. clear q (or_left _ (in_bars q H) k)),
      released_ended (due_after due G) H s parts.1 (λ q k. or_from (due q) (is_due q G) (clear q (or_right (in_bars q G) _ k)) (over_due q G parts.0)),
    )
released_ended due (running.Par G H) s h clear =
    let parts = and_parts (running.ended G) (running.ended H) h in (
      released_ended due G s parts.0 (λ q k. clear q (or_left _ (in_bars q H) k)),
      released_ended due H s parts.1 (λ q k. clear q (or_right (in_bars q G) _ k)),
    )
released_ended due (running.Bar roles G) s h clear =
    ((λ in_it q k. clear q (or_left (roles q) (in_bars q G) k)), released_ended due G s h (λ q k. clear q (or_right (roles q) (in_bars q G) k)))
released_ended due (running.Again i r g I G) s h clear = absurd (both_ways false refl h)
released_ended due running.Skip s h clear = tt
released_ended due (running.Com i o a e b x) s h clear = tt
released_ended due (running.Set i x r e) s h clear = tt
released_ended due (running.Input i x r) s h clear = tt
released_ended due (running.If i r g I J) s h clear = tt
released_ended due (running.While i r g I) s h clear = tt
released_ended due (running.Scope i r I extra props level) s h clear = tt
released_ended due (running.Fly i o a b x v) s h clear = tt

module _ (cast : List Role) where
  -- who has ended a chosen scope is its leader, and has no others in it
  scoped_alone : (i : Index) (r : Role) (I : Term) (extra : List Role) (props : List (List ℕ × Value)) (level : ℕ) (begin : Role → Load) (B : Term)
      (phases : Phases) (M : Mark) → Proper cast (term.Scope i r I extra props level)
      → (s : Role) → is_in s (term.Scope i r I extra props level) ≡ true
      → ended (place cast (Held (Scoped i r I extra props level begin B) phases M) s) ≡ true
      → (q : Role) → is_in q (term.Scope i r I extra props level) ≡ true → role_eq q r ≡ false → ⊥
  scoped_alone i r I extra props level begin B phases M proper s in_s h q in_q other = ⊎_elim
      (λ is. no_others (tell_ended r (others cast r (term.Scope i r I extra props level)) i Out (λ q. Done)
      (and_parts _ _ (and_parts (ended (place cast M s)) _ (and_parts _ _ (sym (ap ended (place_leader cast (Scoped i r I extra props level begin B) phases M s is)) ∙ h)).1).1).1))
      (λ differs. scoped_follower cast i r I extra props level begin B phases M s differs in_s h)
      (role_cases s r)
    where
      no_others : others cast r (term.Scope i r I extra props level) ≡ [] → ⊥
      no_others none = both_ways _ (ap (member q) none) (is_follower cast (Scoped i r I extra props level begin B) q proper other in_q)

  module _ (stores : Role → Store) (choices : ScopeHead → BookChoice) (updates : ℕ) where
    -- nobody who has begun the mark is due before it
    abbrev pub Clear : Due → Mark → Type 0
    Clear due M = (q : Role) → acted q M ≡ true → due q ≡ false

    -- who has begun the second part isn't due for a message of the first
    clear_second : (due : Due) (M N : Mark) → Fine cast M → ((q : Role) → acted q N ≡ true → ended (place cast M q) ≡ true)
        → Clear due (Second M N) → Clear (due_after due (run M)) N
    clear_second due M N fine through clear q h =
        or_from (due q) (is_due q (run M)) (clear q (or_right (acted q M) _ h)) (ended_due cast M q fine (through q h))

    -- who has ended a mark finds the chosen scopes in it released
    released : (due : Due) (M : Mark) → Fine cast M → Order cast M → (s : Role) → ended (place cast M s) ≡ true → Clear due M → Released due (run M) s
    released due (Still I) fine order s h clear = unbarred due I s
    released due (Flying i o a e b x v) fine order s h clear = tt
    released due (Over I) fine order s h clear = tt
    released due (First M J) fine order s h clear =
        (released due M fine.0 order s (and_parts _ _ h).0 clear, unbarred (due_after due (run M)) J s)
    released due (Second M N) fine order s h clear = (
      released due M fine.0 order.0 s (and_parts _ _ h).0 (λ q k. clear q (or_left _ (acted q N) k)),
      released (due_after due (run M)) N fine.1 order.1 s (and_parts _ _ h).1 (clear_second due M N fine.0 order.2 clear),
    )
    released due (Both M N) fine order s h clear = (
      released due M fine.0 order.0 s (and_parts _ _ h).0 (λ q k. clear q (or_left _ (acted q N) k)),
      released due N fine.1 order.1 s (and_parts _ _ h).1 (λ q k. clear q (or_right (acted q M) _ k)),
    )
    released due (Held (Branch i r g I J b) phases M) fine order s h clear =
        released due M fine.0 order s (held_inside cast (Branch i r g I J b) phases M s fine h)
        (λ q k. clear q (or_right (has_passed q (Branch i r g I J b) (phases q)) _ k))
    released due (Held (Turning i r g I) phases M) fine order s h clear =
        released due M fine.0 order s (held_inside cast (Turning i r g I) phases M s fine h)
        (λ q k. clear q (or_right (has_passed q (Turning i r g I) (phases q)) _ k))
    released due (Held (Stopping i r g I) phases M) fine order s h clear = tt
    released due (Held (Scoped i r I extra props level begin B) phases M) fine order s h clear = (
      (λ in_s q in_q. ⊎_elim
          (λ is. clear q (or_left _ (acted q M) (or_left (role_eq q r) (not (is_early (phases q))) (subst (λ y. role_eq y r ≡ true) (sym is) (role_itself r)))))
          (λ other. absurd (scoped_alone i r I extra props level begin B phases M fine.1.proper s in_s h q in_q other))
          (role_cases q r)),
      released due M fine.0 order s (held_inside cast (Scoped i r I extra props level begin B) phases M s fine h)
          (λ q k. clear q (or_right (role_eq q r || not (is_early (phases q))) _ k)),
    )
    released due (Held (Releasing i r I extra props level) phases M) fine order s h clear = (
      (λ in_s q in_q. clear q (or_left _ (acted q M) in_q)),
      released due M fine.0 order s (held_inside cast (Releasing i r I extra props level) phases M s fine h)
          (λ q k. clear q (or_right (is_in q (term.Scope i r I extra props level)) _ k)),
    )
    released due (Spent G) fine order s h clear = released_ended due G s fine clear

    played_there : (m : Attempt Effect Running) (A B : Type 0) {effect : Effect} {G : Running} → m ≡ Does effect G → A → Played m A B
    played_there m A B h a = subst (λ x. Played x A B) (sym h) a

    played_here : (m : Attempt Effect Running) (A B : Type 0) → m ≡ Stuck → B → Played m A B
    played_here m A B h b = subst (λ x. Played x A B) (sym h) b

    -- a construct settles what its body does
    settled_inside : (k : Kind) (due : Due) (G : Running) (e : Entry) (doer : Role) {effect : Effect} {G' : Running}
        → plays cast stores choices updates G e ≡ Does effect G' → SettledAt cast stores choices updates due G e doer
        → SettledAt cast stores choices updates due (runs k G) e doer
    settled_inside (Branch i r g I J b) due G e doer h settled = settled
    settled_inside (Turning i r g I) due G e doer h settled = played_there _ _ _ h settled
    settled_inside (Stopping i r g I) due G e doer h settled = tt
    settled_inside (Scoped i r I extra props level begin B) due G e doer h settled = settled
    settled_inside (Releasing i r I extra props level) due G e doer h settled = settled

    -- a mark plays no entry of a step elsewhere
    elsewhere : (M : Mark) → Fine cast M → (d : Deed) → (At (deed_index d) M → ⊥) → plays cast stores choices updates (run M) (entry_of d) ≡ Stuck
    elsewhere M fine d out =
        mark_away cast stores choices updates M (entry_of d) fine (λ h. out (subst (λ n. At n M) (entry_deed_index d) h))

    -- the next pick of a loop is settled, since all its roles have told the leader that they are through with the turn
    again_settled : (i : Index) (r : Role) (g : Expression) (I : Term) (phases : Phases) (M : Mark) → Fine cast (Held (Turning i r g I) phases M)
        → Closed cast (Turning i r g I) phases M → (b : Bool) → (due : Due) → Clear due (Held (Turning i r g I) phases M)
        → SettledAt cast stores choices updates due (running.Again i r g I (run M)) (entry.Pick i r b) r
    again_settled i r g I phases M fine closed b due clear =
        played_here _ _ _ (ended_plays cast stores choices updates (run M) (entry.Pick i r b)
        (all_over cast M fine.0 (closed_ended cast (Turning i r g I) phases M fine closed)))
        (λ q in_it. clear q (or_left _ (acted q M) (closed_passed cast (Turning i r g I) phases M fine closed q in_it)))

    -- a visible step is settled, at a place before which nobody is due who has begun it
    settled_from : {M N : Mark} {d : Deed} → Steps cast stores choices updates M d N → Fine cast M → Order cast M → is_aux (entry_of d) ≡ false
        → (due : Due) → Clear due M → SettledAt cast stores choices updates due (run M) (entry_of d) (doer_of d)
    settled_from sends fine order visible due clear = tt
    settled_from lands fine order visible due clear = tt
    settled_from sets fine order visible due clear = tt
    settled_from reads fine order visible due clear = tt
    settled_from (seq_opens {I = I} {J = J} s) fine order visible due clear = settled_from s (first_fine cast I J fine) tt visible due clear
    settled_from (par_opens {I = I} {J = J} s) fine order visible due clear = settled_from s (both_fine cast I J fine) (tt, tt) visible due clear
    settled_from (seq_first s) fine order visible due clear =
        played_there _ _ _ (run_step cast stores choices updates s fine.0 visible) (settled_from s fine.0 order visible due clear)
    settled_from (seq_begins {M = M} {d = d} e s) fine order visible due clear =
        played_here _ _ _ (elsewhere M fine.0 d (λ h. fine.2 (deed_index d) h (deed_at cast stores choices updates s))) (
          released due M fine.0 order (doer_of d) e clear,
          settled_from s fine.1 tt visible (due_after due (run M)) (λ q h. absurd (both_ways false refl h)),
        )
    settled_from (seq_lags {K = K} s) fine order visible due clear =
        played_there _ _ _ (run_step cast stores choices updates s fine.0 visible)
        (settled_from s fine.0 order.0 visible due (λ q h. clear q (or_left _ (acted q K) h)))
    settled_from (seq_goes {M = M} {N = N} {d = d} e s) fine order visible due clear =
        played_here _ _ _ (elsewhere M fine.0 d (λ h. fine.2 (deed_index d) h (deed_at cast stores choices updates s))) (
          released due M fine.0 order.0 (doer_of d) e (λ q h. clear q (or_left _ (acted q N) h)),
          settled_from s fine.1 order.1 visible (due_after due (run M)) (clear_second due M N fine.0 order.2 clear),
        )
    settled_from (par_left {K = K} s) fine order visible due clear =
        played_there _ _ _ (run_step cast stores choices updates s fine.0 visible)
        (settled_from s fine.0 order.0 visible due (λ q h. clear q (or_left _ (acted q K) h)))
    settled_from (par_right {M = M} {d = d} s) fine order visible due clear =
        played_here _ _ _ (elsewhere M fine.0 d (λ h. fine.2 (deed_index d) h (deed_at cast stores choices updates s)))
        (settled_from s fine.1 order.1 visible due (λ q h. clear q (or_right (acted q M) _ h)))
    settled_from picks fine order visible due clear = tt
    settled_from (turns e) fine order visible due clear = tt
    settled_from (stops e) fine order visible due clear = tt
    settled_from (again {i = i} {r = r} {g = g} {I = I} {phases = phases} {M = M} e closed) fine order visible due clear =
        again_settled i r g I phases M fine closed true due clear
    settled_from (leaves {i = i} {r = r} {g = g} {I = I} {phases = phases} {M = M} e closed) fine order visible due clear =
        again_settled i r g I phases M fine closed false due clear
    settled_from (tells {k = k} e) fine order visible due clear = absurd (both_ways _ visible (tag_aux k))
    settled_from (hears {k = k} e) fine order visible due clear = absurd (both_ways _ visible (tag_aux k))
    settled_from (works {k = k} {phases = phases} {M = M} {d = d} b s) fine order visible due clear =
        settled_inside k due (run M) (entry_of d) (doer_of d) (run_step cast stores choices updates s fine.0 visible)
        (settled_from s fine.0 order visible due (λ q h. clear q (or_right (has_passed q k (phases q)) _ h)))
    settled_from (arrives b e f) fine order visible due clear = absurd (both_ways _ visible (backs_aux b))
    settled_from (gathers b e f) fine order visible due clear = absurd (both_ways _ visible (backs_aux b))
    settled_from (keeps e) fine order visible due clear = tt
    settled_from (replaces e) fine order visible due clear = tt
    settled_from (frees closed f) fine order visible due clear = absurd (both_ways true visible refl)

    -- each visible step of a run is settled
    pub settled_step : {M N : Mark} {d : Deed} → Steps cast stores choices updates M d N → Fine cast M → Order cast M → is_aux (entry_of d) ≡ false
        → SettledAt cast stores choices updates nobody (run M) (entry_of d) (doer_of d)
    settled_step s fine order visible = settled_from s fine order visible nobody (λ q h. refl)
