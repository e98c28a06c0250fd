-- Who is still to be told and to be waited for at a begun construct, and who has something to do before it.
use Rattle.std.proofs.Common.{◌≡◌, List, [], ◌∷◌, Bool, true, false, ◌&&◌, ◌||◌, not, refl, sym, ap, ◌∙◌, subst, ⊎_elim}
use Rattle.std.proofs.lemmas.Bool.{and_parts, and_from, or_parts, or_left, both_ways, cases_Bool, cond-true, cond-false, not-true, not-false, not_from_false}
use Rattle.dioc_terms.specs.declared.names.Role.{Role}
use Rattle.dioc_terms.specs.Equality.{role_eq, member}
use Rattle.dioc_terms.specs.Terms.{Term, Skip, Com, Set, Input, Seq, Par, If, While, Scope, is_in, distinct_roles}
use Rattle.dioc_terms.specs.Processes as process
use Rattle.dioc_terms.specs.Processes.{Process}
use Rattle.projection.specs.Projection.{projected}
use Rattle.process_steps.specs.Steps.{ended}
use Rattle.global_steps.specs.Follow.{updated}
use Rattle.marked_laws.proofs.Constructs.{Phase, Phases, Kind, Branch, Turning, Stopping, Scoped, Releasing, Waits, Told, Inside, Sent, Gone, waits, gone, is_early, is_late, leader, whole, before, followers, untold, ungone}
use Rattle.marked_laws.proofs.Equality.{role_itself}
use Rattle.marked_laws.proofs.Mark.{Mark, Held, origin, place, Fine, Closed}
use Rattle.marked_laws.proofs.Proper.{Proper}
use Rattle.marked_laws.proofs.RoleLists.{filter_head, filter_none, filter_alike, filter_tail, filter_keeps, filter_member, filter_distinct}
use Rattle.marked_laws.proofs.Roles.{role_cases, updated_here, updated_there}

module _ (cast : List Role) where
  -- a role that a term doesn't name has nothing to do in it
  pub outsider : (I : Term) (q : Role) → is_in q I ≡ false → ended (projected cast I q) ≡ true
  outsider Skip q h = refl
  outsider (Com i o a e b x) q h = let parts = or_parts (role_eq q a) (role_eq q b) h in
      ap ended (cond-false (role_eq q a) _ _ parts.0 ∙ cond-false (role_eq q b) (process.Recv i o a x) process.Skip parts.1)
  outsider (Set i x r e) q h = ap ended (cond-false (role_eq q r) (process.Assign i x e) process.Skip h)
  outsider (Input i x r) q h = ap ended (cond-false (role_eq q r) (process.Read i x) process.Skip h)
  outsider (Seq I J) q h = let parts = or_parts (is_in q I) (is_in q J) h in and_from _ _ (outsider I q parts.0) (outsider J q parts.1)
  outsider (Par I J) q h = let parts = or_parts (is_in q I) (is_in q J) h in and_from _ _ (outsider I q parts.0) (outsider J q parts.1)
  outsider (If i r g I J) q h =
      let parts = or_parts (role_eq q r || is_in q I) (is_in q J) h in
      let first = or_parts (role_eq q r) (is_in q I) parts.0 in
      ap ended (cond-false (role_eq q r) _ _ first.0 ∙ cond-false (is_in q (If i r g I J)) _ process.Skip h)
  outsider (While i r g I) q h =
      let parts = or_parts (role_eq q r) (is_in q I) h in
      ap ended (cond-false (role_eq q r) _ _ parts.0 ∙ cond-false (is_in q (While i r g I)) _ process.Skip h)
  outsider (Scope i r I extra props level) q h =
      let parts = or_parts (role_eq q r || is_in q I) (member q extra) h in
      let first = or_parts (role_eq q r) (is_in q I) parts.0 in
      ap ended (cond-false (role_eq q r) _ _ first.0 ∙ cond-false (is_in q (Scope i r I extra props level)) _ process.Skip h)

  -- the followers of a construct are its roles without its leader
  pub follower : (k : Kind) (q : Role) → member q (followers cast k) ≡ true → (role_eq q (leader k) ≡ false) × (is_in q (whole k) ≡ true)
  follower k q h =
      let parts = and_parts (is_in q (whole k)) (not (role_eq q (leader k))) (filter_member (λ r. is_in r (whole k) && not (role_eq r (leader k))) cast q h).0 in
      (not-true _ parts.1, parts.0)

  pub is_follower : (k : Kind) (q : Role) → Proper cast (whole k) → role_eq q (leader k) ≡ false → is_in q (whole k) ≡ true → member q (followers cast k) ≡ true
  is_follower k q proper h in_it =
      filter_keeps (λ r. is_in r (whole k) && not (role_eq r (leader k))) cast q (and_from _ _ in_it (not_from_false _ h)) (proper.in_cast q in_it)

  pub distinct_followers : distinct_roles cast ≡ true → (k : Kind) → distinct_roles (followers cast k) ≡ true
  distinct_followers unique k = filter_distinct _ cast unique

  pub untold_head : (k : Kind) (phases : Phases) (q : Role) (qs : List Role) → untold cast k phases ≡ q ∷ qs
      → (waits (phases q) ≡ true) × (role_eq q (leader k) ≡ false) × (is_in q (whole k) ≡ true)
  untold_head k phases q qs h =
      let head = filter_head (λ r. waits (phases r)) (followers cast k) q qs h in
      let who = follower k q head.1 in
      (head.0, who.0, who.1)

  pub ungone_head : (k : Kind) (phases : Phases) (q : Role) (qs : List Role) → ungone cast k phases ≡ q ∷ qs
      → (gone (phases q) ≡ false) × (role_eq q (leader k) ≡ false) × (is_in q (whole k) ≡ true)
  ungone_head k phases q qs h =
      let head = filter_head (λ r. not (gone (phases r))) (followers cast k) q qs h in
      let who = follower k q head.1 in
      (not-true _ head.0, who.0, who.1)

  -- once the first of them is told, the rest are still untold
  pub untold_tells : distinct_roles cast ≡ true → (k : Kind) (phases : Phases) (q : Role) (qs : List Role) → untold cast k phases ≡ q ∷ qs
      → (p : Phase) → waits p ≡ false → untold cast k (updated q p phases) ≡ qs
  untold_tells unique k phases q qs h p out =
      filter_tail (λ r. waits (phases r)) (λ r. waits (updated q p phases r)) (followers cast k) q qs (distinct_followers unique k) h
      (ap waits (updated_here q p phases) ∙ out) (λ r differs. ap waits (updated_there q p phases r differs))

  pub ungone_gathers : distinct_roles cast ≡ true → (k : Kind) (phases : Phases) (q : Role) (qs : List Role) → ungone cast k phases ≡ q ∷ qs
      → (p : Phase) → gone p ≡ true → ungone cast k (updated q p phases) ≡ qs
  ungone_gathers unique k phases q qs h p in_it =
      filter_tail (λ r. not (gone (phases r))) (λ r. not (gone (updated q p phases r))) (followers cast k) q qs (distinct_followers unique k) h
      (ap (λ x. not (gone x)) (updated_here q p phases) ∙ ap not in_it) (λ r differs. ap (λ x. not (gone x)) (updated_there q p phases r differs))

  -- a test of phases that doesn't see the difference
  test_same : (f : Phase → Bool) (phases : Phases) (q : Role) (p : Phase) → f p ≡ f (phases q) → (r : Role) → f (updated q p phases r) ≡ f (phases r)
  test_same f phases q p h r = ⊎_elim
      (λ is. subst (λ y. f (updated q p phases y) ≡ f (phases y)) (sym is) (ap f (updated_here q p phases) ∙ h))
      (λ differs. ap f (updated_there q p phases r differs)) (role_cases r q)

  pub untold_same : (k : Kind) (phases : Phases) (q : Role) (p : Phase) → waits p ≡ waits (phases q)
      → untold cast k (updated q p phases) ≡ untold cast k phases
  untold_same k phases q p h = filter_alike _ _ (followers cast k) (λ r in_it. test_same waits phases q p h r)

  pub ungone_same : (k : Kind) (phases : Phases) (q : Role) (p : Phase) → gone p ≡ gone (phases q)
      → ungone cast k (updated q p phases) ≡ ungone cast k phases
  ungone_same k phases q p h = filter_alike _ _ (followers cast k) (λ r in_it. ap not (test_same gone phases q p h r))

  -- where all are told, each other role of the construct is
  pub untold_none : (k : Kind) (phases : Phases) (q : Role) → Proper cast (whole k) → untold cast k phases ≡ [] → role_eq q (leader k) ≡ false
      → is_in q (whole k) ≡ true → waits (phases q) ≡ false
  untold_none k phases q proper h other in_it = filter_none (λ r. waits (phases r)) (followers cast k) q h (is_follower k q proper other in_it)

  pub ungone_none : (k : Kind) (phases : Phases) (q : Role) → Proper cast (whole k) → ungone cast k phases ≡ [] → role_eq q (leader k) ≡ false
      → is_in q (whole k) ≡ true → gone (phases q) ≡ true
  ungone_none k phases q proper h other in_it =
      not-false (gone (phases q)) (filter_none (λ r. not (gone (phases r))) (followers cast k) q h (is_follower k q proper other in_it))

  -- a role of the construct has something to do before it takes the leader's message, and another one has not
  pub before_busy : (k : Kind) (q : Role) → role_eq q (leader k) ≡ false → is_in q (whole k) ≡ true → ended (before cast k q) ≡ false
  before_busy (Branch i r g I J b) q other in_it = ap ended (cond-false (role_eq q r) _ _ other ∙ cond-true (is_in q (If i r g I J)) _ process.Skip in_it)
  before_busy (Turning i r g I) q other in_it = ap ended (cond-false (role_eq q r) _ _ other ∙ cond-true (is_in q (While i r g I)) _ process.Skip in_it)
  before_busy (Stopping i r g I) q other in_it = ap ended (cond-false (role_eq q r) _ _ other ∙ cond-true (is_in q (While i r g I)) _ process.Skip in_it)
  before_busy (Scoped i r I extra props level begin B) q other in_it =
      ap ended (cond-false (role_eq q r) _ _ other ∙ cond-true (is_in q (Scope i r I extra props level)) _ process.Skip in_it)
  before_busy (Releasing i r I extra props level) q other in_it = ap ended (cond-true (is_in q (Scope i r I extra props level)) _ process.Skip in_it)

  pub before_out : (k : Kind) (q : Role) → is_in q (whole k) ≡ false → ended (before cast k q) ≡ true
  before_out (Releasing i r I extra props level) q out = ap ended (cond-false (is_in q (Scope i r I extra props level)) _ process.Skip out)
  before_out (Branch i r g I J b) q out = outsider (If i r g I J) q out
  before_out (Turning i r g I) q out = outsider (While i r g I) q out
  before_out (Stopping i r g I) q out = outsider (While i r g I) q out
  before_out (Scoped i r I extra props level begin B) q out = outsider (Scope i r I extra props level) q out

  -- a role that isn't of the construct waits, and has nothing to do in the body
  pub outsider_waits : (k : Kind) (phases : Phases) (M : Mark) → Fine cast (Held k phases M) → (q : Role) → is_in q (whole k) ≡ false → phases q ≡ Waits
  outsider_waits k phases M fine q out = by_phase (phases q) (λ h. both_ways (is_in q (whole k)) out (fine.1.known q h).1)
    where
      by_phase : (p : Phase) → (waits p ≡ false → ⊥) → p ≡ Waits
      by_phase Waits h = refl
      by_phase p h = absurd (h refl)

  -- the leader is of its construct
  pub leader_in : (k : Kind) → is_in (leader k) (whole k) ≡ true
  leader_in (Branch i r g I J b) = or_left (role_eq r r || is_in r I) (is_in r J) (or_left (role_eq r r) (is_in r I) (role_itself r))
  leader_in (Turning i r g I) = or_left (role_eq r r) (is_in r I) (role_itself r)
  leader_in (Stopping i r g I) = or_left (role_eq r r) (is_in r I) (role_itself r)
  leader_in (Scoped i r I extra props level begin B) = or_left (role_eq r r || is_in r I) (member r extra) (or_left (role_eq r r) (is_in r I) (role_itself r))
  leader_in (Releasing i r I extra props level) = or_left (role_eq r r || is_in r I) (member r extra) (or_left (role_eq r r) (is_in r I) (role_itself r))

  -- who isn't the leader and hasn't begun its part, and isn't of the construct, has ended the body
  pub outsider_body : (k : Kind) (phases : Phases) (M : Mark) → Fine cast (Held k phases M) → (q : Role) → role_eq q (leader k) ≡ false
      → is_in q (whole k) ≡ false → ended (place cast M q) ≡ true
  outsider_body k phases M fine q other out =
      let waiting : is_early (phases q) ≡ true = ap is_early (outsider_waits k phases M fine q out) in
      ap ended (fine.1.fresh q waiting other) ∙ outsider (origin M) q (ap (is_in q) fine.1.is_body ∙ fine.1.inner q out)

  gone_late : (p : Phase) → gone p ≡ true → is_late p ≡ true
  gone_late Gone h = refl
  gone_late Waits h = cc
  gone_late Told h = cc
  gone_late Inside h = cc
  gone_late Sent h = cc

  -- a turn or a scope that is over: each role has ended its part
  pub closed_ended : (k : Kind) (phases : Phases) (M : Mark) → Fine cast (Held k phases M) → Closed cast k phases M → (q : Role)
      → ended (place cast M q) ≡ true
  closed_ended k phases M fine closed q = ⊎_elim
      (λ is. subst (λ y. ended (place cast M y) ≡ true) (sym is) closed.done)
      (λ other. ⊎_elim
      (λ in_it. fine.1.through q (gone_late (phases q) (ungone_none k phases q fine.1.proper closed.gathered other in_it)))
      (λ out. outsider_body k phases M fine q other out)
      (cases_Bool (is_in q (whole k))))
      (role_cases q (leader k))
