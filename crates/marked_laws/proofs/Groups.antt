-- Why a sequence is not begun too early: who is in each group that ends a first part, and has ended it, leaves nothing there but
-- messages in flight; and who begins the second part of a connected sequence is such a role.
use Rattle.std.proofs.Common.{◌≡◌, ℕ, List, Bool, true, false, ◌||◌, if◌then◌else◌, refl, sym, ap, ◌∙◌, subst, ⊎_elim}
use Rattle.std.proofs.lemmas.Bool.{and_parts, and_from, and_cases, and_left, and_right, or_from, or_left, or_right, or_cases, cases_Bool, cond-true, cond-false, both_ways}
use Rattle.dioc_terms.specs.declared.names.Role.{Role}
use Rattle.dioc_terms.specs.declared.names.Index.{Index}
use Rattle.dioc_terms.specs.declared.values.Value.{Value}
use Rattle.dioc_terms.specs.declared.processes.ScopeHead.{ScopeHead}
use Rattle.dioc_terms.specs.Equality.{role_eq}
use Rattle.dioc_terms.specs.Expressions.{Expression}
use Rattle.dioc_terms.specs.Processes as process
use Rattle.dioc_terms.specs.Processes.{Process, Load}
use Rattle.dioc_terms.specs.Stores.{Store}
use Rattle.dioc_terms.specs.Terms.{Term, Skip, Com, Set, Input, Seq, Par, If, While, Scope, empty, is_in}
use Rattle.projection.specs.Projection.{projected}
use Rattle.process_steps.specs.Steps.{Deed, ended}
use Rattle.global_steps.specs.Running as running
use Rattle.global_steps.specs.Running.{Running, started, light, is_due}
use Rattle.global_steps.specs.Follow.{BookChoice}
use Rattle.connectedness.specs.ByCases.{begins, attends_ends}
use Rattle.marked_laws.proofs.Tells.{tell_ended, gather_ended}
use Rattle.marked_laws.proofs.Constructs.{Phase, Phases, Kind, Branch, Turning, Stopping, Scoped, Releasing, Waits, Told, Inside, Sent, Gone, leader, whole, body, inside, outside, follows, untold, ungone}
use Rattle.marked_laws.proofs.Ends.{place_leader, place_follower, held_inside, all_over, still_skip, turn_goes_on}
use Rattle.marked_laws.proofs.Equality.{role_itself}
use Rattle.marked_laws.proofs.Gates.{before_busy, closed_ended}
use Rattle.marked_laws.proofs.Mark.{Mark, Still, Flying, Over, First, Second, Both, Held, Spent, origin, run, place, Fine}
use Rattle.marked_laws.proofs.MarkSteps.{Steps, sends, sets, reads, seq_opens, par_opens, seq_first, seq_begins, par_left, par_right, picks, turns, stops, keeps, replaces, doer_of}
use Rattle.marked_laws.proofs.Proper.{Proper, proper_seq, proper_par}
use Rattle.marked_laws.proofs.Roles.{role_cases}

-- a role of each group of a term that isn't empty is in the term
pub groups_in : (q : Role) (I : Term) → attends_ends q I ≡ true → empty I ≡ false → is_in q I ≡ true
groups_in q Skip h e = absurd (both_ways true e refl)
groups_in q (Com i o a x b y) h e = h
groups_in q (Set i x r y) h e = h
groups_in q (Input i x r) h e = h
groups_in q (Seq I J) h e = ⊎_elim
    (λ none. or_left (is_in q I) (is_in q J)
    (groups_in q I (sym (cond-true (empty J) (attends_ends q I) (attends_ends q J) none) ∙ h)
    (⊎_elim (λ k. k) (λ k. absurd (both_ways (empty J) k none)) (and_cases (empty I) (empty J) e))))
    (λ some. or_right (is_in q I) (is_in q J) (groups_in q J (sym (cond-false (empty J) (attends_ends q I) (attends_ends q J) some) ∙ h) some))
    (cases_Bool (empty J))
groups_in q (Par I J) h e =
    let parts = and_parts (attends_ends q I) (attends_ends q J) h in
    ⊎_elim (λ k. or_left (is_in q I) (is_in q J) (groups_in q I parts.0 k)) (λ k. or_right (is_in q I) (is_in q J) (groups_in q J parts.1 k))
    (and_cases (empty I) (empty J) e)
groups_in q (If i r g I J) h e =
    let part = (and_parts (if empty I then is_in q (If i r g I J) else attends_ends q I) (if empty J then is_in q (If i r g I J) else attends_ends q J) h).0 in
    ⊎_elim
    (λ none. sym (cond-true (empty I) (is_in q (If i r g I J)) (attends_ends q I) none) ∙ part)
    (λ some. or_left (role_eq q r || is_in q I) (is_in q J) (or_right (role_eq q r) (is_in q I)
    (groups_in q I (sym (cond-false (empty I) (is_in q (If i r g I J)) (attends_ends q I) some) ∙ part) some)))
    (cases_Bool (empty I))
groups_in q (While i r g I) h e = h
groups_in q (Scope i r I extra props level) h e = h

-- a role that begins a term finds something in it
pub start_busy : (q : Role) (I : Term) → begins q I ≡ true → empty I ≡ false
start_busy q Skip h = sym h
start_busy q (Seq I J) h = ⊎_elim
    (λ none. and_right (empty I) (empty J) (start_busy q J (sym (cond-true (empty I) (begins q J) (begins q I) none) ∙ h)))
    (λ some. and_left (empty I) (empty J) some)
    (cases_Bool (empty I))
start_busy q (Par I J) h = ⊎_elim (λ k. and_left (empty I) (empty J) (start_busy q I k)) (λ k. and_right (empty I) (empty J) (start_busy q J k))
    (or_cases (begins q I) (begins q J) h)
start_busy q I h = refl

-- an empty term has ended from its start
pub empty_over : (I : Term) → empty I ≡ true → running.ended (started I) ≡ true
empty_over Skip h = refl
empty_over (Seq I J) h = let parts = and_parts (empty I) (empty J) h in and_from _ _ (empty_over I parts.0) (empty_over J parts.1)
empty_over (Par I J) h = let parts = and_parts (empty I) (empty J) h in and_from _ _ (empty_over I parts.0) (empty_over J parts.1)
empty_over I h = cc

pub over_light : (G : Running) → running.ended G ≡ true → light G ≡ true
over_light running.Skip h = refl
over_light (running.Seq G H) h = let parts = and_parts (running.ended G) (running.ended H) h in and_from _ _ (over_light G parts.0) (over_light H parts.1)
over_light (running.Par G H) h = let parts = and_parts (running.ended G) (running.ended H) h in and_from _ _ (over_light G parts.0) (over_light H parts.1)
over_light (running.Bar roles G) h = h
over_light G h = cc

pub over_due : (q : Role) (G : Running) → running.ended G ≡ true → is_due q G ≡ false
over_due q running.Skip h = refl
over_due q (running.Seq G H) h = let parts = and_parts (running.ended G) (running.ended H) h in or_from _ _ (over_due q G parts.0) (over_due q H parts.1)
over_due q (running.Par G H) h = let parts = and_parts (running.ended G) (running.ended H) h in or_from _ _ (over_due q G parts.0) (over_due q H parts.1)
over_due q (running.Bar roles G) h = over_due q G h
over_due q (running.Fly i o a b x v) h = cc
over_due q (running.Again i r g I G) h = cc
over_due q G h = refl

-- nobody is due in a term that has not begun
pub started_due : (q : Role) (I : Term) → is_due q (started I) ≡ false
started_due q (Seq I J) = or_from _ _ (started_due q I) (started_due q J)
started_due q (Par I J) = or_from _ _ (started_due q I) (started_due q J)
started_due q Skip = refl
started_due q (Com i o a e b x) = refl
started_due q (Set i x r e) = refl
started_due q (Input i x r) = refl
started_due q (If i r g I J) = refl
started_due q (While i r g I) = refl
started_due q (Scope i r I extra props level) = refl

module _ (cast : List Role) where
  -- a role that a term names has something to do in it
  pub insider : (I : Term) (q : Role) → is_in q I ≡ true → ended (projected cast I q) ≡ false
  insider Skip q h = sym h
  insider (Com i o a e b x) q h = ⊎_elim
      (λ k. ap ended (cond-true (role_eq q a) (process.Send i o b e) (if role_eq q b then process.Recv i o a x else process.Skip) k))
      (λ differs. ⊎_elim (λ k. absurd (both_ways (role_eq q a) differs k))
      (λ k. ap ended (cond-false (role_eq q a) (process.Send i o b e) (if role_eq q b then process.Recv i o a x else process.Skip) differs
      ∙ cond-true (role_eq q b) (process.Recv i o a x) process.Skip k))
      (or_cases (role_eq q a) (role_eq q b) h))
      (cases_Bool (role_eq q a))
  insider (Set i x r e) q h = ap ended (cond-true (role_eq q r) (process.Assign i x e) process.Skip h)
  insider (Input i x r) q h = ap ended (cond-true (role_eq q r) (process.Read i x) process.Skip h)
  insider (Seq I J) q h = ⊎_elim (λ k. and_left _ _ (insider I q k)) (λ k. and_right _ _ (insider J q k)) (or_cases (is_in q I) (is_in q J) h)
  insider (Par I J) q h = ⊎_elim (λ k. and_left _ _ (insider I q k)) (λ k. and_right _ _ (insider J q k)) (or_cases (is_in q I) (is_in q J) h)
  insider (If i r g I J) q h = ⊎_elim (λ k. ap ended (cond-true (role_eq q r) _ _ k))
      (λ k. ap ended (cond-false (role_eq q r) _ _ k ∙ cond-true (is_in q (If i r g I J)) _ process.Skip h)) (cases_Bool (role_eq q r))
  insider (While i r g I) q h = ⊎_elim (λ k. ap ended (cond-true (role_eq q r) _ _ k))
      (λ k. ap ended (cond-false (role_eq q r) _ _ k ∙ cond-true (is_in q (While i r g I)) _ process.Skip h)) (cases_Bool (role_eq q r))
  insider (Scope i r I extra props level) q h = ⊎_elim (λ k. ap ended (cond-true (role_eq q r) _ _ k))
      (λ k. ap ended (cond-false (role_eq q r) _ _ k ∙ cond-true (is_in q (Scope i r I extra props level)) _ process.Skip h)) (cases_Bool (role_eq q r))

  -- a role of each group that has ended a term that nobody has begun finds it empty
  pub groups_empty : (q : Role) (I : Term) → attends_ends q I ≡ true → ended (projected cast I q) ≡ true → empty I ≡ true
  groups_empty q I h e = ⊎_elim (λ k. k) (λ k. absurd (both_ways _ (insider I q (groups_in q I h k)) e)) (cases_Bool (empty I))

  empty_light : (M : Mark) → Fine cast M → empty (origin M) ≡ true → light (run M) ≡ true
  empty_light (Still I) fine h = over_light (started I) (empty_over I h)
  empty_light (Flying i o a e b x v) fine h = refl
  empty_light (Over I) fine h = refl
  empty_light (First M J) fine h =
      let parts = and_parts (empty (origin M)) (empty J) h in and_from _ _ (empty_light M fine.0 parts.0) (over_light (started J) (empty_over J parts.1))
  empty_light (Second M N) fine h = let parts = and_parts (empty (origin M)) (empty (origin N)) h in and_from _ _ (empty_light M fine.0 parts.0) (empty_light N fine.1 parts.1)
  empty_light (Both M N) fine h = let parts = and_parts (empty (origin M)) (empty (origin N)) h in and_from _ _ (empty_light M fine.0 parts.0) (empty_light N fine.1 parts.1)
  empty_light (Held (Branch i r g I J b) phases M) fine h = cc
  empty_light (Held (Turning i r g I) phases M) fine h = cc
  empty_light (Held (Stopping i r g I) phases M) fine h = cc
  empty_light (Held (Scoped i r I extra props level begin B) phases M) fine h = cc
  empty_light (Held (Releasing i r I extra props level) phases M) fine h = cc
  empty_light (Spent G) fine h = over_light G fine

  -- a follower that is in a construct is not through with it, where it is to go on afterwards
  busy_follower : (k : Kind) (phases : Phases) (M : Mark) (q : Role) → role_eq q (leader k) ≡ false → is_in q (whole k) ≡ true
      → ended (inside cast k q (place cast M q)) ≡ false → ended (outside cast k q) ≡ false → ended (place cast (Held k phases M) q) ≡ false
  busy_follower k phases M q other in_it h h' = ap ended (place_follower cast k phases M q other) ∙ by_phase (phases q)
    where
      by_phase : (p : Phase) → ended (follows cast k q p (place cast M q)) ≡ false
      by_phase Waits = before_busy cast k q other in_it
      by_phase Told = before_busy cast k q other in_it
      by_phase Inside = h
      by_phase Sent = h'
      by_phase Gone = h'

  turning_busy : (i : Index) (r : Role) (g : Expression) (I : Term) (phases : Phases) (M : Mark) (q : Role) → is_in q (While i r g I) ≡ true
      → ended (place cast (Held (Turning i r g I) phases M) q) ≡ true → ⊥
  turning_busy i r g I phases M q in_it h = ⊎_elim
      (λ is. turn_goes_on cast i r g I phases M (subst (λ y. ended (place cast (Held (Turning i r g I) phases M) y) ≡ true) is h))
      (λ other. both_ways _ (busy_follower (Turning i r g I) phases M q other in_it (and_right (ended (place cast M q)) _ refl) (before_busy cast (Turning i r g I) q other in_it)) h)
      (role_cases q r)

  -- where a role of a scope has ended it, all have
  scope_over : (i : Index) (r : Role) (I : Term) (extra : List Role) (props : List (List ℕ × Value)) (level : ℕ) (begin : Role → Load) (B : Term) (phases : Phases)
      (M : Mark) (q : Role) → Fine cast (Held (Scoped i r I extra props level begin B) phases M) → is_in q (Scope i r I extra props level) ≡ true
      → ended (place cast (Held (Scoped i r I extra props level begin B) phases M) q) ≡ true → running.ended (run M) ≡ true
  scope_over i r I extra props level begin B phases M q fine in_it h = ⊎_elim
      (λ is.
      let k : Kind = Scoped i r I extra props level begin B in
      let led = sym (ap ended (place_leader cast k phases M q is)) ∙ h in
      let first = and_parts _ _ led in
      let second = and_parts (ended (place cast M q)) _ first.1 in
      let third = and_parts _ _ second.1 in
      all_over cast M fine.0 (closed_ended cast k phases M fine (record {
        told = tell_ended r (untold cast k phases) i _ begin first.0;
        done = subst (λ y. ended (place cast M y) ≡ true) is second.0;
        gathered = gather_ended r (ungone cast k phases) i _ third.0;
      })))
      (λ other. absurd (both_ways _ (busy_follower (Scoped i r I extra props level begin B) phases M q other in_it (and_right (ended (place cast M q)) _ refl) refl) h))
      (role_cases q r)

  branch_light : (i : Index) (r : Role) (g : Expression) (I J : Term) (b : Bool) (M : Mark) (q : Role) → Fine cast M
      → origin M ≡ body (Branch i r g I J b) → attends_ends q (If i r g I J) ≡ true → (attends_ends q (origin M) ≡ true → light (run M) ≡ true)
      → light (run M) ≡ true
  branch_light i r g I J true M q fine is h rest =
      let part = (and_parts (if empty I then is_in q (If i r g I J) else attends_ends q I) (if empty J then is_in q (If i r g I J) else attends_ends q J) h).0 in
      ⊎_elim (λ none. empty_light M fine (ap empty is ∙ none))
      (λ some. rest (ap (attends_ends q) is ∙ sym (cond-false (empty I) (is_in q (If i r g I J)) (attends_ends q I) some) ∙ part)) (cases_Bool (empty I))
  branch_light i r g I J false M q fine is h rest =
      let part = (and_parts (if empty I then is_in q (If i r g I J) else attends_ends q I) (if empty J then is_in q (If i r g I J) else attends_ends q J) h).1 in
      ⊎_elim (λ none. empty_light M fine (ap empty is ∙ none))
      (λ some. rest (ap (attends_ends q) is ∙ sym (cond-false (empty J) (is_in q (If i r g I J)) (attends_ends q J) some) ∙ part)) (cases_Bool (empty J))

  -- who is in each group that ends a term, and has ended it, leaves nothing but messages in flight
  pub groups_light : (M : Mark) (q : Role) → Fine cast M → attends_ends q (origin M) ≡ true → ended (place cast M q) ≡ true → light (run M) ≡ true
  groups_light (Still I) q fine h e = over_light (started I) (empty_over I (groups_empty q I h e))
  groups_light (Flying i o a x b y v) q fine h e = refl
  groups_light (Over I) q fine h e = refl
  groups_light (First M J) q fine h e =
      let parts = and_parts (ended (place cast M q)) (ended (projected cast J q)) e in
      ⊎_elim
      (λ none. and_from _ _ (groups_light M q fine.0 (sym (cond-true (empty J) (attends_ends q (origin M)) (attends_ends q J) none) ∙ h) parts.0)
      (over_light (started J) (empty_over J none)))
      (λ some. absurd (both_ways (empty J) some (groups_empty q J (sym (cond-false (empty J) (attends_ends q (origin M)) (attends_ends q J) some) ∙ h) parts.1)))
      (cases_Bool (empty J))
  groups_light (Second M N) q fine h e =
      let parts = and_parts (ended (place cast M q)) (ended (place cast N q)) e in
      and_from _ _ fine.3 (⊎_elim (λ none. empty_light N fine.1 none)
      (λ some. groups_light N q fine.1 (sym (cond-false (empty (origin N)) (attends_ends q (origin M)) (attends_ends q (origin N)) some) ∙ h) parts.1)
      (cases_Bool (empty (origin N))))
  groups_light (Both M N) q fine h e =
      let parts = and_parts (ended (place cast M q)) (ended (place cast N q)) e in
      let both = and_parts (attends_ends q (origin M)) (attends_ends q (origin N)) h in
      and_from _ _ (groups_light M q fine.0 both.0 parts.0) (groups_light N q fine.1 both.1 parts.1)
  groups_light (Held (Branch i r g I J b) phases M) q fine h e =
      branch_light i r g I J b M q fine.0 fine.1.is_body h (λ k. groups_light M q fine.0 k (held_inside cast (Branch i r g I J b) phases M q fine e))
  groups_light (Held (Turning i r g I) phases M) q fine h e = absurd (turning_busy i r g I phases M q h e)
  groups_light (Held (Stopping i r g I) phases M) q fine h e = refl
  groups_light (Held (Scoped i r I extra props level begin B) phases M) q fine h e = scope_over i r I extra props level begin B phases M q fine h e
  groups_light (Held (Releasing i r I extra props level) phases M) q fine h e = all_over cast M fine.0 (λ p. still_skip cast M p fine.1.is_body)
  groups_light (Spent G) q fine h e = over_light G fine

  -- who has ended a mark has no message in flight in it
  pub ended_due : (M : Mark) (q : Role) → Fine cast M → ended (place cast M q) ≡ true → is_due q (run M) ≡ false
  ended_due (Still I) q fine h = started_due q I
  ended_due (Flying i o a e b x v) q fine h = ⊎_elim
      (λ is. ap (λ r. role_eq r b) is ∙ fine.no_self)
      (λ differs. ⊎_elim
      (λ yes. absurd (both_ways false refl (sym (ap ended (cond-false (role_eq q a) process.Skip _ differs ∙ cond-true (role_eq q b) (process.Recv i o a x) process.Skip yes)) ∙ h)))
      (λ no. no) (cases_Bool (role_eq q b)))
      (role_cases q a)
  ended_due (Over I) q fine h = refl
  ended_due (First M J) q fine h = or_from _ _ (ended_due M q fine.0 (and_parts _ (ended (projected cast J q)) h).0) (started_due q J)
  ended_due (Second M N) q fine h = let parts = and_parts _ _ h in or_from _ _ (ended_due M q fine.0 parts.0) (ended_due N q fine.1 parts.1)
  ended_due (Both M N) q fine h = let parts = and_parts _ _ h in or_from _ _ (ended_due M q fine.0 parts.0) (ended_due N q fine.1 parts.1)
  ended_due (Held (Branch i r g I J b) phases M) q fine h = ended_due M q fine.0 (held_inside cast (Branch i r g I J b) phases M q fine h)
  ended_due (Held (Turning i r g I) phases M) q fine h = ended_due M q fine.0 (held_inside cast (Turning i r g I) phases M q fine h)
  ended_due (Held (Stopping i r g I) phases M) q fine h = refl
  ended_due (Held (Scoped i r I extra props level begin B) phases M) q fine h = ended_due M q fine.0 (held_inside cast (Scoped i r I extra props level begin B) phases M q fine h)
  ended_due (Held (Releasing i r I extra props level) phases M) q fine h = ended_due M q fine.0 (held_inside cast (Releasing i r I extra props level) phases M q fine h)
  ended_due (Spent G) q fine h = over_due q G fine

  module _ (stores : Role → Store) (choices : ScopeHead → BookChoice) (updates : ℕ) where
    seq_start_first : (q : Role) (I J : Term) → begins q I ≡ true → begins q (Seq I J) ≡ true
    seq_start_first q I J h = cond-false (empty I) (begins q J) (begins q I) (start_busy q I h) ∙ h

    seq_start_second : (q : Role) (I J : Term) → Proper cast (Seq I J) → ended (projected cast I q) ≡ true → begins q J ≡ true → begins q (Seq I J) ≡ true
    seq_start_second q I J proper e h =
        cond-true (empty I) (begins q J) (begins q I) (groups_empty q I ((proper_seq cast I J proper).3 q h) e) ∙ h

    -- a term that nobody has begun is begun by a role that begins it
    pub starts : {I : Term} {N : Mark} {d : Deed} → Steps cast stores choices updates (Still I) d N → Proper cast I → begins (doer_of d) I ≡ true
    starts (sends {a = a}) proper = role_itself a
    starts (sets {r = r}) proper = role_itself r
    starts (reads {r = r}) proper = role_itself r
    starts (seq_opens {I = I} {J = J} {d = d} (seq_first s)) proper = seq_start_first (doer_of d) I J (starts s (proper_seq cast I J proper).0)
    starts (seq_opens {I = I} {J = J} {d = d} (seq_begins e s)) proper = seq_start_second (doer_of d) I J proper e (starts s (proper_seq cast I J proper).1)
    starts (par_opens {I = I} {J = J} {d = d} (par_left s)) proper = or_left (begins (doer_of d) I) (begins (doer_of d) J) (starts s (proper_par cast I J proper).0)
    starts (par_opens {I = I} {J = J} {d = d} (par_right s)) proper = or_right (begins (doer_of d) I) (begins (doer_of d) J) (starts s (proper_par cast I J proper).1)
    starts (picks {r = r}) proper = role_itself r
    starts (turns {r = r} e) proper = role_itself r
    starts (stops {r = r} e) proper = role_itself r
    starts (keeps {r = r} e) proper = role_itself r
    starts (replaces {r = r} e) proper = role_itself r

    -- where the second part of a sequence is begun nothing is left of the first but messages in flight
    pub begins_light : (M : Mark) {N : Mark} {J : Term} {d : Deed} → Fine cast (First M J) → ended (place cast M (doer_of d)) ≡ true
        → Steps cast stores choices updates (Still J) d N → light (run M) ≡ true
    begins_light M {d = d} fine e s = groups_light M (doer_of d) fine.0 (fine.3 (doer_of d) (starts s fine.1)) e
