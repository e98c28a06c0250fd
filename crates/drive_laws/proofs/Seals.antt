-- The third invariant of a run: who began the second part of a sequence had come to the end of the first with everybody who ends it.
-- So nobody is held back there by the end of a scope.
use Rattle.std.proofs.Common.{◌≡◌, ℕ, List, [], Bool, true, false, ◌&&◌, if◌then◌else◌, Option, refl, sym, ap, ◌∙◌, subst, ⊎_elim}
use Rattle.std.proofs.lemmas.Bool.{and_parts, cases_Bool, cond-true, cond-false, both_ways}
use Rattle.dioc_terms.specs.declared.names.Role.{Role}
use Rattle.dioc_terms.specs.declared.names.Index.{Index}
use Rattle.dioc_terms.specs.declared.values.Value.{Value}
use Rattle.dioc_terms.specs.declared.processes.Key.{Key}
use Rattle.dioc_terms.specs.declared.processes.Tag.TheVariants.{Begin, End, Out}
use Rattle.dioc_terms.specs.declared.processes.ScopeHead.{ScopeHead}
use Rattle.dioc_terms.specs.Equality.{role_eq, member}
use Rattle.dioc_terms.specs.Expressions.{Expression}
use Rattle.dioc_terms.specs.Processes.{Process, Load, Done}
use Rattle.dioc_terms.specs.Stores.{Store}
use Rattle.dioc_terms.specs.Terms as term
use Rattle.dioc_terms.specs.Terms.{Term, empty, is_in, others}
use Rattle.connectedness.specs.ByCases.{attends_ends}
use Rattle.projection.specs.Projection.{projected}
use Rattle.process_steps.specs.Steps.{Deed, Decision, tell, gather, ended}
use Rattle.global_steps.specs.Follow.{BookChoice}
use Rattle.marked_laws.proofs.Constructs.{Phases, Kind, Branch, Turning, Stopping, Scoped, Releasing, body, leads, untold, ungone}
use Rattle.marked_laws.proofs.Ends.{place_leader, held_inside}
use Rattle.marked_laws.proofs.Equality.{role_itself}
use Rattle.marked_laws.proofs.Gates.{is_follower}
use Rattle.marked_laws.proofs.Groups.{groups_empty, starts}
use Rattle.marked_laws.proofs.Keeps.{origin_step}
use Rattle.marked_laws.proofs.Mark.{Mark, Still, Flying, Over, First, Second, Both, Held, Spent, origin, place, Fine, first_fine, both_fine}
use Rattle.marked_laws.proofs.MarkSteps.{Steps, sends, lands, sets, reads, seq_opens, par_opens, seq_first, seq_begins, seq_lags, seq_goes, par_left, par_right, picks, turns, stops, again, leaves, tells, hears, works, arrives, gathers, keeps, replaces, frees, doer_of}
use Rattle.marked_laws.proofs.Orders.{scoped_follower, step_busy}
use Rattle.marked_laws.proofs.Others.{place_other}
use Rattle.marked_laws.proofs.Proper.{Proper}
use Rattle.marked_laws.proofs.Roles.{role_cases}
use Rattle.marked_laws.proofs.Tells.{tell_ended}
use Rattle.drive_laws.proofs.Arrivals.{Loose}

module _ (cast : List Role) where
  -- somebody who is in each group that ends a first part has ended it, where the second part is begun
  abbrev pub Sealed : Mark → Type 0
  Sealed (First M J) = Sealed M
  Sealed (Second M N) = Sealed M × Sealed N × (s : Role) × (attends_ends s (origin M) ≡ true) × (ended (place cast M s) ≡ true)
  Sealed (Both M N) = Sealed M × Sealed N
  Sealed (Held k phases M) = Sealed M
  Sealed _ = Unit {0}

  -- who has ended a chosen scope is its leader, and has no others in it
  scoped_alone : (i : Index) (r : Role) (I : Term) (extra : List Role) (props : List (List ℕ × Value)) (level : ℕ) (begin : Role → Load) (B : Term)
      (phases : Phases) (M : Mark) → Proper cast (term.Scope i r I extra props level)
      → (s : Role) → is_in s (term.Scope i r I extra props level) ≡ true
      → ended (place cast (Held (Scoped i r I extra props level begin B) phases M) s) ≡ true
      → (q : Role) → is_in q (term.Scope i r I extra props level) ≡ true → role_eq q r ≡ false → ⊥
  scoped_alone i r I extra props level begin B phases M proper s in_s h q in_q other = ⊎_elim
      (λ is.
      let k : Kind = Scoped i r I extra props level begin B in
      let qs : List Role = others cast r (term.Scope i r I extra props level) in
      let G : Process = gather r (ungone cast k phases) i End in
      let O : Process = tell r qs i Out (λ x. Done) in
      let led : ended (leads cast k phases (place cast M s)) ≡ true = sym (ap ended (place_leader cast k phases M s is)) ∙ h in
      let first = and_parts (ended (tell r (untold cast k phases) i Begin begin)) (ended (place cast M s) && (ended G && ended O)) led in
      let second = and_parts (ended (place cast M s)) (ended G && ended O) first.1 in
      let none : qs ≡ [] = tell_ended r qs i Out (λ x. Done) (and_parts (ended G) (ended O) second.1).1 in
      both_ways false refl (subst (λ l. member q l ≡ true) none (is_follower cast k q proper other in_q)))
      (λ differs. scoped_follower cast i r I extra props level begin B phases M s differs in_s h)
      (role_cases s r)

  module _ (stores : Role → Store) (mails : Key → Option Load) (decide : Role → ScopeHead → Decision) where
    abbrev LooseFor : Role → Mark → Type 0
    LooseFor q M = Loose cast stores mails decide M q

    -- nothing is held in a mark of an empty term
    empty_loose : (M : Mark) → empty (origin M) ≡ true → (q : Role) → LooseFor q M
    empty_loose (First M J) h q = empty_loose M (and_parts (empty (origin M)) (empty J) h).0 q
    empty_loose (Second M N) h q = let parts = and_parts (empty (origin M)) (empty (origin N)) h in (empty_loose M parts.0 q, empty_loose N parts.1 q)
    empty_loose (Both M N) h q = let parts = and_parts (empty (origin M)) (empty (origin N)) h in (empty_loose M parts.0 q, empty_loose N parts.1 q)
    empty_loose (Held (Branch i r g I J b) phases M) h q = absurd (both_ways false refl h)
    empty_loose (Held (Scoped i r I extra props level begin B) phases M) h q = absurd (both_ways false refl h)
    empty_loose (Held (Turning i r g I) phases M) h q = tt
    empty_loose (Held (Stopping i r g I) phases M) h q = tt
    empty_loose (Held (Releasing i r I extra props level) phases M) h q = tt
    empty_loose (Still I) h q = tt
    empty_loose (Flying i o a e b x v) h q = tt
    empty_loose (Over I) h q = tt
    empty_loose (Spent G) h q = tt

    branch_loose : (i : Index) (r : Role) (g : Expression) (I J : Term) (b : Bool) (M : Mark) → origin M ≡ body (Branch i r g I J b) → (s : Role)
        → attends_ends s (term.If i r g I J) ≡ true → (q : Role) → (attends_ends s (origin M) ≡ true → LooseFor q M) → LooseFor q M
    branch_loose i r g I J true M is s h q rest =
        let part = (and_parts (if empty I then is_in s (term.If i r g I J) else attends_ends s I) (if empty J then is_in s (term.If i r g I J) else attends_ends s J) h).0 in
        ⊎_elim (λ none. empty_loose M (ap empty is ∙ none) q)
        (λ some. rest (ap (attends_ends s) is ∙ sym (cond-false (empty I) (is_in s (term.If i r g I J)) (attends_ends s I) some) ∙ part)) (cases_Bool (empty I))
    branch_loose i r g I J false M is s h q rest =
        let part = (and_parts (if empty I then is_in s (term.If i r g I J) else attends_ends s I) (if empty J then is_in s (term.If i r g I J) else attends_ends s J) h).1 in
        ⊎_elim (λ none. empty_loose M (ap empty is ∙ none) q)
        (λ some. rest (ap (attends_ends s) is ∙ sym (cond-false (empty J) (is_in s (term.If i r g I J)) (attends_ends s J) some) ∙ part)) (cases_Bool (empty J))

    -- where one who is in each group that ends a mark has ended it, no scope at its end holds anybody back
    pub shut : (M : Mark) → Fine cast M → Sealed M → (s : Role) → attends_ends s (origin M) ≡ true → ended (place cast M s) ≡ true → (q : Role) → LooseFor q M
    shut (Still I) fine sealed s h over q = tt
    shut (Flying i o a e b x v) fine sealed s h over q = tt
    shut (Over I) fine sealed s h over q = tt
    shut (First M J) fine sealed s h over q =
        let parts = and_parts (ended (place cast M s)) (ended (projected cast J s)) over in
        ⊎_elim
        (λ none. shut M fine.0 sealed s (sym (cond-true (empty J) (attends_ends s (origin M)) (attends_ends s J) none) ∙ h) parts.0 q)
        (λ some. absurd (both_ways (empty J) some
        (groups_empty cast s J (sym (cond-false (empty J) (attends_ends s (origin M)) (attends_ends s J) some) ∙ h) parts.1)))
        (cases_Bool (empty J))
    shut (Second M N) fine sealed s h over q =
        let parts = and_parts (ended (place cast M s)) (ended (place cast N s)) over in (
          shut M fine.0 sealed.0 sealed.2 sealed.3 sealed.4 q,
          ⊎_elim
              (λ none. empty_loose N none q)
              (λ some. shut N fine.1 sealed.1 s (sym (cond-false (empty (origin N)) (attends_ends s (origin M)) (attends_ends s (origin N)) some) ∙ h) parts.1 q)
              (cases_Bool (empty (origin N))),
        )
    shut (Both M N) fine sealed s h over q =
        let parts = and_parts (ended (place cast M s)) (ended (place cast N s)) over in
        let both = and_parts (attends_ends s (origin M)) (attends_ends s (origin N)) h in
        (shut M fine.0 sealed.0 s both.0 parts.0 q, shut N fine.1 sealed.1 s both.1 parts.1 q)
    shut (Held (Branch i r g I J b) phases M) fine sealed s h over q =
        branch_loose i r g I J b M fine.1.is_body s h q (λ k. shut M fine.0 sealed s k (held_inside cast (Branch i r g I J b) phases M s fine over) q)
    shut (Held (Turning i r g I) phases M) fine sealed s h over q = tt
    shut (Held (Stopping i r g I) phases M) fine sealed s h over q = tt
    shut (Held (Scoped i r I extra props level begin B) phases M) fine sealed s h over q = λ in_q t in_t differs. ⊎_elim
        (λ is. ⊎_elim
        (λ at. absurd (both_ways (role_eq t q) differs (subst (λ y. role_eq t y ≡ true) (at ∙ sym is) (role_itself t))))
        (λ other. absurd (scoped_alone i r I extra props level begin B phases M fine.1.proper s h over t in_t other))
        (role_cases t r))
        (λ other. absurd (scoped_alone i r I extra props level begin B phases M fine.1.proper s h over q in_q other))
        (role_cases q r)
    shut (Held (Releasing i r I extra props level) phases M) fine sealed s h over q = tt
    shut (Spent G) fine sealed s h over q = tt

  module _ (stores : Role → Store) (choices : ScopeHead → BookChoice) (updates : ℕ) where
    -- who has ended a mark has ended it after a step too
    stays_ended : {M N : Mark} {d : Deed} → Steps cast stores choices updates M d N → Fine cast M → (q : Role) → ended (place cast M q) ≡ true
        → ended (place cast N q) ≡ true
    stays_ended {M = M} {d = d} s fine q h = ⊎_elim
        (λ is. absurd (both_ways _ (step_busy cast stores choices updates s fine) (subst (λ y. ended (place cast M y) ≡ true) is h)))
        (λ other. ap ended (place_other cast stores choices updates s fine q other) ∙ h) (role_cases q (doer_of d))

    pub sealed_step : {M N : Mark} {d : Deed} → Steps cast stores choices updates M d N → Fine cast M → Sealed M → Sealed N
    sealed_step sends fine sealed = tt
    sealed_step lands fine sealed = tt
    sealed_step sets fine sealed = tt
    sealed_step reads fine sealed = tt
    sealed_step (seq_opens {I = I} {J = J} s) fine sealed = sealed_step s (first_fine cast I J fine) tt
    sealed_step (par_opens {I = I} {J = J} s) fine sealed = sealed_step s (both_fine cast I J fine) (tt, tt)
    sealed_step (seq_first s) fine sealed = sealed_step s fine.0 sealed
    sealed_step (seq_begins {d = d} e s) fine sealed = (
      sealed,
      sealed_step s fine.1 tt,
      doer_of d,
      fine.3 (doer_of d) (starts cast stores choices updates s fine.1),
      e,
    )
    sealed_step (seq_lags s) fine sealed = (
      sealed_step s fine.0 sealed.0,
      sealed.1,
      sealed.2,
      ap (attends_ends sealed.2) (origin_step cast stores choices updates s) ∙ sealed.3,
      stays_ended s fine.0 sealed.2 sealed.4,
    )
    sealed_step (seq_goes e s) fine sealed = (sealed.0, sealed_step s fine.1 sealed.1, sealed.2, sealed.3, sealed.4)
    sealed_step (par_left s) fine sealed = (sealed_step s fine.0 sealed.0, sealed.1)
    sealed_step (par_right s) fine sealed = (sealed.0, sealed_step s fine.1 sealed.1)
    sealed_step picks fine sealed = tt
    sealed_step (turns e) fine sealed = tt
    sealed_step (stops e) fine sealed = tt
    sealed_step (again e closed) fine sealed = tt
    sealed_step (leaves e closed) fine sealed = tt
    sealed_step (tells e) fine sealed = sealed
    sealed_step (hears e) fine sealed = sealed
    sealed_step (works b s) fine sealed = sealed_step s fine.0 sealed
    sealed_step (arrives b e f) fine sealed = sealed
    sealed_step (gathers b e f) fine sealed = sealed
    sealed_step (keeps e) fine sealed = tt
    sealed_step (replaces e) fine sealed = tt
    sealed_step (frees closed f) fine sealed = tt
