-- Roles that have no auxiliary act left, and what this says of the constructs that they are in. What a role does in a part it does in
-- the whole too, by the same deed.
use Rattle.std.proofs.Common.{◌≡◌, ◌⊎◌, ℕ, List, [], ◌∷◌, ◌++◌, Bool, true, false, ◌&&◌, not, Option, Some, None, refl, sym, ap, ◌∙◌, subst, inl, inr, ⊎_elim}
use Rattle.std.proofs.lemmas.Bool.{and_parts, and_from, or_from, or_right, cases_Bool, cond-true, cond-false, both_ways, not-true, false_from_ne_true}
use Rattle.std.proofs.lemmas.List.Folds.{list_any-append}
use Rattle.dioc_terms.specs.declared.names.Role.{Role}
use Rattle.dioc_terms.specs.declared.names.Index.{Index}
use Rattle.dioc_terms.specs.declared.values.Value.{Value}
use Rattle.dioc_terms.specs.declared.processes.Key.{Key}
use Rattle.dioc_terms.specs.declared.processes.Tag.{Tag}
use Rattle.dioc_terms.specs.declared.processes.Tag.TheVariants.{Choice, Go, Turn, Begin, End, Out}
use Rattle.dioc_terms.specs.declared.processes.ScopeHead.{ScopeHead}
use Rattle.dioc_terms.specs.declared.entries.Act.{Act}
use Rattle.dioc_terms.specs.declared.entries.Act.TheVariants as act
use Rattle.dioc_terms.specs.Equality.{role_eq, key_eq, act_eq, member}
use Rattle.dioc_terms.specs.Attempts.{Does, under}
use Rattle.dioc_terms.specs.Processes as process
use Rattle.dioc_terms.specs.Processes.{Process, Load, Flag, Done}
use Rattle.dioc_terms.specs.Stores.{Store}
use Rattle.dioc_terms.specs.Terms as term
use Rattle.dioc_terms.specs.Terms.{Term, is_in, others}
use Rattle.projection.specs.Projection.{projected}
use Rattle.process_steps.specs.Steps.{Deed, Decision, ended, after, key, tell, gather, send_one, offers, is_offered, step}
use Rattle.marked_laws.specs.Offers.{distinct_acts}
use Rattle.marked_laws.proofs.Acts.{step_offered, step_unended}
use Rattle.marked_laws.proofs.Agreeing.{own_given}
use Rattle.marked_laws.proofs.CanStep.{Can, can_along, can_first, can_second, can_tell, can_gather, can_hear}
use Rattle.marked_laws.proofs.Constructs.{Phase, Phases, Kind, Branch, Turning, Stopping, Scoped, Releasing, Waits, Told, Inside, Sent, Gone, waits, gone, is_late, leader, tag, told, whole, body, telling_key, backing_key, letter, opened, Backs, turn_backs, end_backs, leads, inside, follows, untold, ungone}
use Rattle.marked_laws.proofs.Ends.{place_leader, place_follower, still_skip}
use Rattle.marked_laws.proofs.Equality.{act_same, key_itself}
use Rattle.marked_laws.proofs.FoundHeld.{from_leader, to_leader}
use Rattle.marked_laws.proofs.Gates.{is_follower, before_out, outsider_waits, outsider_body, leader_in, untold_none, ungone_head}
use Rattle.marked_laws.proofs.Keys.{few_offers}
use Rattle.marked_laws.proofs.Mark.{Mark, Both, Held, origin, place, Fine, Closed}
use Rattle.marked_laws.proofs.MarkSteps.{given_by, Agrees}
use Rattle.marked_laws.proofs.Plays.{tag_aux, backs_aux}
use Rattle.marked_laws.proofs.Roles.{role_cases}
use Rattle.marked_laws.proofs.Tells.{tell_done, gather_done}
use Rattle.drive_laws.specs.Laws.{is_aux_act}

-- a list has a first role, or none
pub first_role : (xs : List Role) → ((x : Role) × (rest : List Role) × (xs ≡ x ∷ rest)) ⊎ (xs ≡ [])
first_role [] = inr refl
first_role (x ∷ rest) = inl (x, rest, refl)

abbrev is_told : Phase → Bool
is_told Told = true
is_told p = false

told_at : (p : Phase) → is_told p ≡ true → p ≡ Told
told_at Told h = refl
told_at p h = cc

-- who took the leader's message is inside, or through
begun_at : (p : Phase) → waits p ≡ false → is_told p ≡ false → (p ≡ Inside) ⊎ (is_late p ≡ true)
begun_at Waits h k = absurd (both_ways false refl (sym h))
begun_at Told h k = absurd (both_ways false refl (sym k))
begun_at Inside h k = inl refl
begun_at Sent h k = inr refl
begun_at Gone h k = inr refl

sent_at : (p : Phase) → is_late p ≡ true → gone p ≡ false → p ≡ Sent
sent_at Sent h k = refl
sent_at p h k = cc

told_opened : (k : Kind) (x : Role) → opened (letter k x Told) (telling_key k x) ≡ Some (told k x)
told_opened k x = cond-true (key_eq (telling_key k x) (telling_key k x)) (Some (told k x)) None (key_itself (telling_key k x))

-- what a role has sent back is opened by its key
sent_opened : {k : Kind} {t : Tag} → Backs k t → (x : Role) → opened (letter k x Sent) (backing_key k t x) ≡ Some Done
sent_opened (turn_backs {i = i} {r = r}) x = let j : Key = key x r i Turn in cond-true (key_eq j j) (Some Done) None (key_itself j)
sent_opened (end_backs {i = i} {r = r}) x = let j : Key = key x r i End in cond-true (key_eq j j) (Some Done) None (key_itself j)

-- of distinct acts, one that comes later doesn't come before
distinct_apart : (acts more : List Act) (a : Act) → distinct_acts (acts ++ more) ≡ true → is_offered a more ≡ true → is_offered a acts ≡ false
distinct_apart [] more a h k = refl
distinct_apart (c ∷ acts) more a h k =
    let parts = and_parts (not (is_offered c (acts ++ more))) (distinct_acts (acts ++ more)) h in
    or_from (act_eq a c) (is_offered a acts)
    (false_from_ne_true (act_eq a c) (λ is. both_ways (is_offered c (acts ++ more)) (not-true (is_offered c (acts ++ more)) parts.0)
    (list_any-append (act_eq c) acts more ∙ or_right (is_offered c acts) (is_offered c more) (subst (λ x. is_offered x more ≡ true) (act_same a c is) k))))
    (distinct_apart acts more a parts.1 k)

-- the kinds whose roles are out of them once they have done their part
abbrev pub is_one_way : Kind → Bool
is_one_way (Turning i r g I) = false
is_one_way (Scoped i r I extra props level begin B) = false
is_one_way _ = true

module _ (cast : List Role) (stores : Role → Store) (mails : Key → Option Load) (decide : Role → ScopeHead → Decision) where
  -- the role can do the act at the process
  abbrev pub CanHere : Role → Process → Act → Type 0
  CanHere q P a = Can mails (decide q) q (stores q) P a

  -- the role does the act at the process by the deed
  abbrev pub Doing : Role → Process → Act → Deed → Type 0
  Doing q P a d = (R : Process) × (step q (stores q) P a (given_by mails (decide q) a) ≡ Does d R)

  -- what the role does at P it does at Q, by the same deed
  abbrev pub Lifts : Role → Process → Process → Type 0
  Lifts q P Q = (a : Act) (d : Deed) → Doing q P a d → Doing q Q a d

  -- the role can do no auxiliary act at the process
  abbrev pub NoAux : Role → Process → Type 0
  NoAux q P = (a : Act) → is_aux_act a ≡ true → CanHere q P a → ⊥

  along : (q : Role) (P Q : Process) (a : Act) → P ≡ Q → CanHere q P a → CanHere q Q a
  along q P Q a h can = can_along mails (decide q) q (stores q) P Q a h can

  -- what can act has not ended
  idle : (q : Role) (P : Process) (a : Act) → CanHere q P a → ended P ≡ true → ⊥
  idle q P a can over = both_ways (ended P) (step_unended q (stores q) P a (given_by mails (decide q) a) can.2) over

  pub none_in : (q : Role) (P Q : Process) → Lifts q P Q → NoAux q Q → NoAux q P
  none_in q P Q lifts none a aux can = let up = lifts a can.0 (can.1, can.2) in none a aux (can.0, up.0, up.1)

  pub none_ended : (q : Role) (P : Process) → ended P ≡ true → NoAux q P
  none_ended q P over a aux can = idle q P a can over

  pub lift_same : (q : Role) (P Q : Process) → P ≡ Q → Lifts q P Q
  lift_same q P Q h = subst (λ X. Lifts q P X) h (λ a d doing. doing)

  pub lift_twice : (q : Role) (P Q R : Process) → Lifts q P Q → Lifts q Q R → Lifts q P R
  lift_twice q P Q R f g a d doing = g a d (f a d doing)

  pub lift_idle : (q : Role) (P Q : Process) → ended P ≡ true → Lifts q P Q
  lift_idle q P Q over a d doing = absurd (both_ways (ended P) (step_unended q (stores q) P a (given_by mails (decide q) a) doing.1) over)

  -- each part of a sequence, the second once the first has ended
  pub lift_first : (q : Role) (P Q : Process) → Lifts q P (process.Seq P Q)
  lift_first q P Q a d doing = (
    after doing.0 Q,
    cond-false (ended P) (step q (stores q) Q a (given_by mails (decide q) a)) (under (λ p. after p Q) (step q (stores q) P a (given_by mails (decide q) a)))
        (step_unended q (stores q) P a (given_by mails (decide q) a) doing.1)
        ∙ ap (under (λ p. after p Q)) doing.1,
  )

  pub lift_second : (q : Role) (P Q : Process) → ended P ≡ true → Lifts q Q (process.Seq P Q)
  lift_second q P Q over a d doing = (
    doing.0,
    cond-true (ended P) (step q (stores q) Q a (given_by mails (decide q) a)) (under (λ p. after p Q) (step q (stores q) P a (given_by mails (decide q) a))) over ∙ doing.1,
  )

  -- each part of a parallel, the right one where the left doesn't offer the act
  pub lift_left : (q : Role) (P Q : Process) → Lifts q P (process.Par P Q)
  lift_left q P Q a d doing = (
    process.Par doing.0 Q,
    cond-true (is_offered a (offers q P)) (under (λ p. process.Par p Q) (step q (stores q) P a (given_by mails (decide q) a))) (under (process.Par P) (step q (stores q) Q a (given_by mails (decide q) a)))
        (step_offered q (stores q) P a (given_by mails (decide q) a) doing.1)
        ∙ ap (under (λ p. process.Par p Q)) doing.1,
  )

  pub lift_right : (q : Role) (P Q : Process) → ((a : Act) → is_offered a (offers q Q) ≡ true → is_offered a (offers q P) ≡ false) → Lifts q Q (process.Par P Q)
  lift_right q P Q apart a d doing = (
    process.Par P doing.0,
    cond-false (is_offered a (offers q P)) (under (λ p. process.Par p Q) (step q (stores q) P a (given_by mails (decide q) a))) (under (process.Par P) (step q (stores q) Q a (given_by mails (decide q) a)))
        (apart a (step_offered q (stores q) Q a (given_by mails (decide q) a) doing.1))
        ∙ ap (under (process.Par P)) doing.1,
  )

  pub lift_other : (M N : Mark) → Fine cast (Both M N) → (q : Role) → Lifts q (place cast N q) (process.Par (place cast M q) (place cast N q))
  lift_other M N fine q = lift_right q (place cast M q) (place cast N q)
      (λ a h. distinct_apart (offers q (place cast M q)) (offers q (place cast N q)) a (few_offers cast (Both M N) fine q) h)

  -- the leader's first message of a construct
  tells_first : (k : Kind) (phases : Phases) (P : Process) (x : Role) (rest : List Role) → untold cast k phases ≡ x ∷ rest
      → CanHere (leader k) (leads cast k phases P) (act.Put (telling_key k x))
  tells_first (Branch i r g I J b) phases P x rest h =
      can_first mails (decide r) r (stores r) (tell r (untold cast (Branch i r g I J b) phases) i Choice (λ q. Flag b)) P (act.Put (key r x i Choice))
      (can_tell mails (decide r) r (stores r) r (untold cast (Branch i r g I J b) phases) i Choice (λ q. Flag b) x rest h)
  tells_first (Turning i r g I) phases P x rest h =
      can_first mails (decide r) r (stores r) (tell r (untold cast (Turning i r g I) phases) i Go (λ q. Flag true))
      (process.Seq P (process.Seq (gather r (ungone cast (Turning i r g I) phases) i Turn) (projected cast (term.While i r g I) r))) (act.Put (key r x i Go))
      (can_tell mails (decide r) r (stores r) r (untold cast (Turning i r g I) phases) i Go (λ q. Flag true) x rest h)
  tells_first (Stopping i r g I) phases P x rest h = can_tell mails (decide r) r (stores r) r (untold cast (Stopping i r g I) phases) i Go (λ q. Flag false) x rest h
  tells_first (Scoped i r I extra props level begin B) phases P x rest h =
      let k : Kind = Scoped i r I extra props level begin B in
      can_first mails (decide r) r (stores r) (tell r (untold cast k phases) i Begin begin)
      (process.Seq P (process.Seq (gather r (ungone cast k phases) i End) (tell r (others cast r (term.Scope i r I extra props level)) i Out (λ q. Done)))) (act.Put (key r x i Begin))
      (can_tell mails (decide r) r (stores r) r (untold cast k phases) i Begin begin x rest h)
  tells_first (Releasing i r I extra props level) phases P x rest h =
      can_tell mails (decide r) r (stores r) r (untold cast (Releasing i r I extra props level) phases) i Out (λ q. Done) x rest h

  -- a leader that has no auxiliary act left has told all
  pub all_told : (k : Kind) (phases : Phases) (M : Mark) → NoAux (leader k) (place cast (Held k phases M) (leader k)) → untold cast k phases ≡ []
  all_told k phases M none = ⊎_elim
      (λ first. absurd (none (act.Put (telling_key k first.0)) (tag_aux k)
      (along (leader k) (leads cast k phases (place cast M (leader k))) (place cast (Held k phases M) (leader k)) (act.Put (telling_key k first.0))
      (sym (place_leader cast k phases M (leader k) refl)) (tells_first k phases (place cast M (leader k)) first.0 first.1 first.2))))
      (λ all. all) (first_role (untold cast k phases))

  -- a role that ended its part of a construct's body does nothing in it, so it's as if the construct did it
  lift_leads : (k : Kind) (phases : Phases) (M : Mark) (q : Role) → origin M ≡ body k → untold cast k phases ≡ []
      → Lifts q (place cast M q) (leads cast k phases (place cast M q))
  lift_leads (Branch i r g I J b) phases M q is all =
      let k : Kind = Branch i r g I J b in
      lift_second q (tell r (untold cast k phases) i Choice (λ x. Flag b)) (place cast M q) (tell_done r (untold cast k phases) i Choice (λ x. Flag b) all)
  lift_leads (Turning i r g I) phases M q is all =
      let k : Kind = Turning i r g I in
      let rest : Process = process.Seq (gather r (ungone cast k phases) i Turn) (projected cast (term.While i r g I) r) in
      let T : Process = tell r (untold cast k phases) i Go (λ x. Flag true) in
      lift_twice q (place cast M q) (process.Seq (place cast M q) rest) (process.Seq T (process.Seq (place cast M q) rest)) (lift_first q (place cast M q) rest)
      (lift_second q T (process.Seq (place cast M q) rest) (tell_done r (untold cast k phases) i Go (λ x. Flag true) all))
  lift_leads (Stopping i r g I) phases M q is all = lift_idle q (place cast M q) (leads cast (Stopping i r g I) phases (place cast M q)) (still_skip cast M q is)
  lift_leads (Scoped i r I extra props level begin B) phases M q is all =
      let k : Kind = Scoped i r I extra props level begin B in
      let rest : Process = process.Seq (gather r (ungone cast k phases) i End) (tell r (others cast r (term.Scope i r I extra props level)) i Out (λ x. Done)) in
      let T : Process = tell r (untold cast k phases) i Begin begin in
      lift_twice q (place cast M q) (process.Seq (place cast M q) rest) (process.Seq T (process.Seq (place cast M q) rest)) (lift_first q (place cast M q) rest)
      (lift_second q T (process.Seq (place cast M q) rest) (tell_done r (untold cast k phases) i Begin begin all))
  lift_leads (Releasing i r I extra props level) phases M q is all =
      lift_idle q (place cast M q) (leads cast (Releasing i r I extra props level) phases (place cast M q)) (still_skip cast M q is)

  lift_inside : (k : Kind) (M : Mark) (q : Role) → origin M ≡ body k → Lifts q (place cast M q) (inside cast k q (place cast M q))
  lift_inside (Branch i r g I J b) M q is = lift_same q (place cast M q) (place cast M q) refl
  lift_inside (Turning i r g I) M q is =
      lift_first q (place cast M q) (process.Seq (send_one (key q r i Turn) Done) (projected cast (term.While i r g I) q))
  lift_inside (Stopping i r g I) M q is = lift_idle q (place cast M q) process.Skip (still_skip cast M q is)
  lift_inside (Scoped i r I extra props level begin B) M q is =
      lift_first q (place cast M q) (process.Seq (send_one (key q r i End) Done) (process.Gather (key r q i Out ∷ [])))
  lift_inside (Releasing i r I extra props level) M q is = lift_idle q (place cast M q) process.Skip (still_skip cast M q is)

  -- who is through with its part can tell so
  can_back : {k : Kind} {t : Tag} → Backs k t → (x : Role) (P : Process) → ended P ≡ true → CanHere x (inside cast k x P) (act.Put (backing_key k t x))
  can_back (turn_backs {i = i} {r = r} {g = g} {I = I}) x P over =
      let A : Act = act.Put (key x r i Turn) in
      let S : Process = send_one (key x r i Turn) Done in
      let W : Process = projected cast (term.While i r g I) x in
      can_second mails (decide x) x (stores x) P (process.Seq S W) A over
      (can_first mails (decide x) x (stores x) S W A (can_tell mails (decide x) x (stores x) x (r ∷ []) i Turn (λ y. Done) r [] refl))
  can_back (end_backs {i = i} {r = r}) x P over =
      let A : Act = act.Put (key x r i End) in
      let S : Process = send_one (key x r i End) Done in
      let O : Process = process.Gather (key r x i Out ∷ []) in
      can_second mails (decide x) x (stores x) P (process.Seq S O) A over
      (can_first mails (decide x) x (stores x) S O A (can_tell mails (decide x) x (stores x) x (r ∷ []) i End (λ y. Done) r [] refl))

  -- the leader can take that
  can_collect : {k : Kind} {t : Tag} → Backs k t → (phases : Phases) (P : Process) → untold cast k phases ≡ [] → ended P ≡ true → (x : Role) (rest : List Role)
      → ungone cast k phases ≡ x ∷ rest → mails (backing_key k t x) ≡ Some Done → CanHere (leader k) (leads cast k phases P) (act.Take (backing_key k t x))
  can_collect (turn_backs {i = i} {r = r} {g = g} {I = I}) phases P all over x rest first there =
      let k : Kind = Turning i r g I in
      let A : Act = act.Take (key x r i Turn) in
      let T : Process = tell r (untold cast k phases) i Go (λ y. Flag true) in
      let G : Process = gather r (ungone cast k phases) i Turn in
      let W : Process = projected cast (term.While i r g I) r in
      can_second mails (decide r) r (stores r) T (process.Seq P (process.Seq G W)) A (tell_done r (untold cast k phases) i Go (λ y. Flag true) all)
      (can_second mails (decide r) r (stores r) P (process.Seq G W) A over
      (can_first mails (decide r) r (stores r) G W A (can_gather mails (decide r) r (stores r) r (ungone cast k phases) i Turn x rest Done first there)))
  can_collect (end_backs {i = i} {r = r} {I = I} {extra = extra} {props = props} {level = level} {begin = begin} {B = B}) phases P all over x rest first there =
      let k : Kind = Scoped i r I extra props level begin B in
      let A : Act = act.Take (key x r i End) in
      let T : Process = tell r (untold cast k phases) i Begin begin in
      let G : Process = gather r (ungone cast k phases) i End in
      let O : Process = tell r (others cast r (term.Scope i r I extra props level)) i Out (λ y. Done) in
      can_second mails (decide r) r (stores r) T (process.Seq P (process.Seq G O)) A (tell_done r (untold cast k phases) i Begin begin all)
      (can_second mails (decide r) r (stores r) P (process.Seq G O) A over
      (can_first mails (decide r) r (stores r) G O A (can_gather mails (decide r) r (stores r) r (ungone cast k phases) i End x rest Done first there)))

  leads_ends : (k : Kind) (phases : Phases) (P : Process) → is_one_way k ≡ true → untold cast k phases ≡ [] → ended P ≡ true → ended (leads cast k phases P) ≡ true
  leads_ends (Branch i r g I J b) phases P way all over =
      let k : Kind = Branch i r g I J b in
      and_from (ended (tell r (untold cast k phases) i Choice (λ x. Flag b))) (ended P) (tell_done r (untold cast k phases) i Choice (λ x. Flag b) all) over
  leads_ends (Turning i r g I) phases P way all over = absurd (both_ways false refl way)
  leads_ends (Stopping i r g I) phases P way all over = tell_done r (untold cast (Stopping i r g I) phases) i Go (λ x. Flag false) all
  leads_ends (Scoped i r I extra props level begin B) phases P way all over = absurd (both_ways false refl way)
  leads_ends (Releasing i r I extra props level) phases P way all over = tell_done r (untold cast (Releasing i r I extra props level) phases) i Out (λ x. Done) all

  inside_ends : (k : Kind) (q : Role) (P : Process) → is_one_way k ≡ true → ended P ≡ true → ended (inside cast k q P) ≡ true
  inside_ends (Branch i r g I J b) q P way over = over
  inside_ends (Turning i r g I) q P way over = absurd (both_ways false refl way)
  inside_ends (Stopping i r g I) q P way over = refl
  inside_ends (Scoped i r I extra props level begin B) q P way over = absurd (both_ways false refl way)
  inside_ends (Releasing i r I extra props level) q P way over = refl

  late_ends : (k : Kind) (q : Role) (p : Phase) (P : Process) → is_one_way k ≡ true → is_late p ≡ true → ended (follows cast k q p P) ≡ true
  late_ends (Branch i r g I J b) q Sent P way late = refl
  late_ends (Branch i r g I J b) q Gone P way late = refl
  late_ends (Stopping i r g I) q Sent P way late = refl
  late_ends (Stopping i r g I) q Gone P way late = refl
  late_ends (Releasing i r I extra props level) q Sent P way late = refl
  late_ends (Releasing i r I extra props level) q Gone P way late = refl
  late_ends (Turning i r g I) q p P way late = absurd (both_ways false refl way)
  late_ends (Scoped i r I extra props level begin B) q p P way late = absurd (both_ways false refl way)
  late_ends k q p P way late = absurd (both_ways false refl late)

  module _ (k : Kind) (phases : Phases) (M : Mark) (fine : Fine cast (Held k phases M)) (agrees : Agrees mails (Held k phases M)) where
    -- a role of the construct, once all are told, is inside or through
    has_heard : untold cast k phases ≡ [] → (q : Role) → role_eq q (leader k) ≡ false → is_in q (whole k) ≡ true → NoAux q (place cast (Held k phases M) q)
        → (phases q ≡ Inside) ⊎ (is_late (phases q) ≡ true)
    has_heard all q other in_it none = begun_at (phases q) (untold_none cast k phases q fine.1.proper all other in_it)
        (false_from_ne_true (is_told (phases q)) (λ is. let at = told_at (phases q) is in
        none (act.Take (telling_key k q)) (tag_aux k)
        (along q (follows cast k q Told (place cast M q)) (place cast (Held k phases M) q) (act.Take (telling_key k q))
        (sym (place_follower cast k phases M q other ∙ ap (λ y. follows cast k q y (place cast M q)) at))
        (can_hear mails (decide q) q (stores q) cast k fine.1.begins other in_it
        (own_given mails k phases M fine.1.own agrees (telling_key k q) refl ∙ from_leader k phases q (tag k)
        ∙ ap (λ p. opened (letter k q p) (telling_key k q)) at ∙ told_opened k q)))))

    -- who isn't of the construct has nothing to do in it
    pub outsider_ends : (q : Role) → is_in q (whole k) ≡ false → ended (place cast (Held k phases M) q) ≡ true
    outsider_ends q out = ⊎_elim
        (λ is. absurd (both_ways (is_in q (whole k)) out (subst (λ y. is_in y (whole k) ≡ true) (sym is) (leader_in cast k))))
        (λ other. ap ended (place_follower cast k phases M q other) ∙ ap (λ p. ended (follows cast k q p (place cast M q))) (outsider_waits cast k phases M fine q out)
        ∙ before_out cast k q out)
        (role_cases q (leader k))

    -- once all are told, what a role without auxiliary acts does inside the construct does
    pub lift_held : untold cast k phases ≡ [] → (q : Role) → NoAux q (place cast (Held k phases M) q) → Lifts q (place cast M q) (place cast (Held k phases M) q)
    lift_held all q none = ⊎_elim
        (λ is. lift_twice q (place cast M q) (leads cast k phases (place cast M q)) (place cast (Held k phases M) q) (lift_leads k phases M q fine.1.is_body all)
        (lift_same q (leads cast k phases (place cast M q)) (place cast (Held k phases M) q) (sym (place_leader cast k phases M q is))))
        (λ other. ⊎_elim
        (λ in_it. ⊎_elim
        (λ at. lift_twice q (place cast M q) (inside cast k q (place cast M q)) (place cast (Held k phases M) q) (lift_inside k M q fine.1.is_body)
        (lift_same q (inside cast k q (place cast M q)) (place cast (Held k phases M) q)
        (sym (place_follower cast k phases M q other ∙ ap (λ p. follows cast k q p (place cast M q)) at))))
        (λ late. lift_idle q (place cast M q) (place cast (Held k phases M) q) (fine.1.through q late))
        (has_heard all q other in_it none))
        (λ out. lift_idle q (place cast M q) (place cast (Held k phases M) q) (outsider_body cast k phases M fine q other out))
        (cases_Bool (is_in q (whole k))))
        (role_cases q (leader k))

    -- who has ended its part of a construct without a way back has ended it
    pub held_ends : is_one_way k ≡ true → untold cast k phases ≡ [] → (q : Role) → NoAux q (place cast (Held k phases M) q) → ended (place cast M q) ≡ true
        → ended (place cast (Held k phases M) q) ≡ true
    held_ends way all q none over = ⊎_elim
        (λ is. ap ended (place_leader cast k phases M q is) ∙ leads_ends k phases (place cast M q) way all over)
        (λ other. ⊎_elim
        (λ in_it. ap ended (place_follower cast k phases M q other) ∙ ⊎_elim
        (λ at. ap (λ p. ended (follows cast k q p (place cast M q))) at ∙ inside_ends k q (place cast M q) way over)
        (λ late. late_ends k q (phases q) (place cast M q) way late)
        (has_heard all q other in_it none))
        (λ out. outsider_ends q out)
        (cases_Bool (is_in q (whole k))))
        (role_cases q (leader k))

    -- a turn or a scope whose body all have ended is over, where nobody has an auxiliary act left
    pub closes : {t : Tag} → Backs k t → ((q : Role) → NoAux q (place cast (Held k phases M) q)) → ((q : Role) → ended (place cast M q) ≡ true) → Closed cast k phases M
    closes {t} backs none over =
        let all : untold cast k phases ≡ [] = all_told k phases M (none (leader k)) in
        record {
          told = all;
          done = over (leader k);
          gathered = ⊎_elim
              (λ first.
              let x : Role = first.0 in
              let head = ungone_head cast k phases x first.1 first.2 in
              ⊎_elim
              (λ at. absurd (none x (act.Put (backing_key k t x)) (backs_aux backs)
              (along x (inside cast k x (place cast M x)) (place cast (Held k phases M) x) (act.Put (backing_key k t x))
              (sym (place_follower cast k phases M x head.1 ∙ ap (λ p. follows cast k x p (place cast M x)) at))
              (can_back backs x (place cast M x) (over x)))))
              (λ late. absurd (none (leader k) (act.Take (backing_key k t x)) (backs_aux backs)
              (along (leader k) (leads cast k phases (place cast M (leader k))) (place cast (Held k phases M) (leader k)) (act.Take (backing_key k t x))
              (sym (place_leader cast k phases M (leader k) refl))
              (can_collect backs phases (place cast M (leader k)) all (over (leader k)) x first.1 first.2
              (own_given mails k phases M fine.1.own agrees (backing_key k t x) refl ∙ to_leader k phases x t head.1
              ∙ ap (λ p. opened (letter k x p) (backing_key k t x)) (sent_at (phases x) late head.0) ∙ sent_opened backs x)))))
              (has_heard all x head.1 head.2 (none x)))
              (λ gathered. gathered) (first_role (ungone cast k phases));
        }

  -- a scope whose body all have ended is over for all, where nobody has an auxiliary act left
  pub scope_ends : (i : Index) (r : Role) (I : Term) (extra : List Role) (props : List (List ℕ × Value)) (level : ℕ) (begin : Role → Load) (B : Term)
      (phases : Phases) (M : Mark) → Fine cast (Held (Scoped i r I extra props level begin B) phases M)
      → Agrees mails (Held (Scoped i r I extra props level begin B) phases M)
      → ((q : Role) → NoAux q (place cast (Held (Scoped i r I extra props level begin B) phases M) q)) → ((q : Role) → ended (place cast M q) ≡ true)
      → (q : Role) → ended (place cast (Held (Scoped i r I extra props level begin B) phases M) q) ≡ true
  scope_ends i r I extra props level begin B phases M fine agrees none over q =
      let k : Kind = Scoped i r I extra props level begin B in
      let closed = closes k phases M fine agrees end_backs none over in
      let P : Process = place cast M r in
      let T : Process = tell r (untold cast k phases) i Begin begin in
      let G : Process = gather r (ungone cast k phases) i End in
      let qs : List Role = others cast r (term.Scope i r I extra props level) in
      let O : Process = tell r qs i Out (λ x. Done) in
      ⊎_elim
      (λ first. let A : Act = act.Put (key r first.0 i Out) in
      absurd (none r A refl (along r (process.Seq T (process.Seq P (process.Seq G O))) (place cast (Held k phases M) r) A (sym (place_leader cast k phases M r refl))
      (can_second mails (decide r) r (stores r) T (process.Seq P (process.Seq G O)) A (tell_done r (untold cast k phases) i Begin begin closed.told)
      (can_second mails (decide r) r (stores r) P (process.Seq G O) A (over r)
      (can_second mails (decide r) r (stores r) G O A (gather_done r (ungone cast k phases) i End closed.gathered)
      (can_tell mails (decide r) r (stores r) r qs i Out (λ x. Done) first.0 first.1 first.2)))))))
      (λ alone. ⊎_elim
      (λ is. ap ended (place_leader cast k phases M q is)
      ∙ and_from (ended T) (ended (place cast M q) && (ended G && ended O)) (tell_done r (untold cast k phases) i Begin begin closed.told)
      (and_from (ended (place cast M q)) (ended G && ended O) (over q)
      (and_from (ended G) (ended O) (gather_done r (ungone cast k phases) i End closed.gathered) (tell_done r qs i Out (λ x. Done) alone))))
      (λ other. ⊎_elim
      (λ in_it. absurd (both_ways false refl (subst (λ l. member q l ≡ true) alone (is_follower cast k q fine.1.proper other in_it))))
      (λ out. outsider_ends k phases M fine agrees q out)
      (cases_Bool (is_in q (whole k))))
      (role_cases q r))
      (first_role qs)
