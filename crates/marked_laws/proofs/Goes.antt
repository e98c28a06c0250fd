-- Progress: where not each role has ended, a role of the cast can do an act.
use Rattle.std.proofs.Common.{◌≡◌, ◌⊎◌, ℕ, List, [], ◌∷◌, Bool, true, false, ◌&&◌, ◌||◌, filter, Option, Some, None, refl, sym, ap, ◌∙◌, subst, inl, inr, ⊎_elim}
use Rattle.std.proofs.lemmas.Bool.{and_from, or_left, or_right, cases_Bool, cond-true, cond-false, both_ways}
use Rattle.dioc_terms.specs.declared.names.Role.{Role}
use Rattle.dioc_terms.specs.declared.names.Index.{Index}
use Rattle.dioc_terms.specs.declared.values.Value.{Value}
use Rattle.dioc_terms.specs.declared.processes.Key.{Key}
use Rattle.dioc_terms.specs.declared.processes.Tag.{Tag}
use Rattle.dioc_terms.specs.declared.processes.Tag.TheVariants.{Op, Choice, Go, Turn, Begin, End, Out}
use Rattle.dioc_terms.specs.declared.processes.ScopeHead.{ScopeHead}
use Rattle.dioc_terms.specs.declared.entries.Act.{Act}
use Rattle.dioc_terms.specs.declared.entries.Act.TheVariants as act
use Rattle.dioc_terms.specs.Equality.{role_eq, key_eq, member}
use Rattle.dioc_terms.specs.Expressions.{Expression}
use Rattle.dioc_terms.specs.Attempts.{Does}
use Rattle.dioc_terms.specs.Processes as process
use Rattle.dioc_terms.specs.Processes.{Process, Load, Val, Flag, Done}
use Rattle.dioc_terms.specs.Stores.{Store}
use Rattle.dioc_terms.specs.Terms as term
use Rattle.dioc_terms.specs.Terms.{Term, is_in, others, head_of}
use Rattle.projection.specs.Projection.{projected}
use Rattle.process_steps.specs.Steps.{Deed, Decision, ended, key, tell, gather, send_one, offers, is_offered, step}
use Rattle.marked_laws.proofs.Tells.{tell_done, gather_done}
use Rattle.marked_laws.proofs.Acts.{step_offered, step_unended}
use Rattle.marked_laws.proofs.Agreeing.{agrees_first, agrees_second, agrees_both, agrees_inside, own_given}
use Rattle.marked_laws.proofs.CanStep.{Can, can_along, can_send, can_receive, can_assign, can_read, can_pick_branch, can_pick_turn, can_choose, can_first, can_second, can_left, can_right, can_tell, can_gather, can_hear}
use Rattle.marked_laws.proofs.Constructs.{Phase, Phases, Kind, Branch, Turning, Stopping, Scoped, Releasing, Waits, Told, Inside, Sent, Gone, waits, gone, is_late, leader, index, tag, told, whole, telling_key, backing_key, letter, opened, Backs, turn_backs, end_backs, leads, inside, outside, follows, followers, untold, ungone}
use Rattle.marked_laws.proofs.Ends.{place_leader, place_follower, held_inside}
use Rattle.marked_laws.proofs.Equality.{role_itself, key_itself}
use Rattle.marked_laws.proofs.FoundHeld.{from_leader, to_leader}
use Rattle.marked_laws.proofs.Gates.{is_follower, follower, before_out, outsider_waits, outsider_body, leader_in, untold_none, ungone_head}
use Rattle.marked_laws.proofs.Mark.{Mark, Still, Flying, Over, First, Second, Both, Held, Spent, place, Fine}
use Rattle.marked_laws.proofs.MarkSteps.{given_by, Agrees}
use Rattle.marked_laws.proofs.Proper.{Proper, proper_seq, proper_par}
use Rattle.marked_laws.proofs.RoleLists.{filter_head, filter_none}
use Rattle.marked_laws.proofs.Roles.{role_cases, role_swap}

-- a list has a first role, or none
first_role : (xs : List Role) → ((x : Role) × (rest : List Role) × (xs ≡ x ∷ rest)) ⊎ (xs ≡ [])
first_role [] = inr refl
first_role (x ∷ rest) = inl (x, rest, refl)

-- a role of the list passes the test, or none does
find_role : (p : Role → Bool) (xs : List Role) → ((x : Role) × (p x ≡ true) × (member x xs ≡ true)) ⊎ ((x : Role) → member x xs ≡ true → p x ≡ false)
find_role p xs = ⊎_elim
    (λ k. let head = filter_head p xs k.0 k.1 k.2 in inl (k.0, head.0, head.1))
    (λ none. inr (λ x in_it. filter_none p xs x none in_it))
    (first_role (filter p xs))

abbrev is_told : Phase → Bool
is_told Told = true
is_told p = false

abbrev is_inside : Phase → Bool
is_inside Inside = true
is_inside p = false

told_at : (p : Phase) → is_told p ≡ true → p ≡ Told
told_at Told h = refl
told_at p h = cc

inside_at : (p : Phase) → is_inside p ≡ true → p ≡ Inside
inside_at Inside h = refl
inside_at p h = cc

-- who took the leader's message is inside, or through
begun_at : (p : Phase) → waits p ≡ false → is_told p ≡ false → (p ≡ Inside) ⊎ (is_late p ≡ true)
begun_at Waits h k = absurd (both_ways false refl (sym h))
begun_at Told h k = absurd (both_ways false refl (sym k))
begun_at Inside h k = inl refl
begun_at Sent h k = inr refl
begun_at Gone h k = inr refl

sent_at : (p : Phase) → is_late p ≡ true → gone p ≡ false → p ≡ Sent
sent_at Sent h k = refl
sent_at p h k = cc

inside_no_other : (p : Phase) → is_inside p ≡ false → p ≡ Inside → ⊥
inside_no_other p h is = both_ways (is_inside p) h (ap is_inside is)

-- what a role has sent back is opened by its key
sent_opened : {k : Kind} {t : Tag} → Backs k t → (x : Role) → opened (letter k x Sent) (backing_key k t x) ≡ Some Done
sent_opened (turn_backs {i = i} {r = r}) x = let j : Key = key x r i Turn in cond-true (key_eq j j) (Some Done) None (key_itself j)
sent_opened (end_backs {i = i} {r = r}) x = let j : Key = key x r i End in cond-true (key_eq j j) (Some Done) None (key_itself j)

told_opened : (k : Kind) (x : Role) → opened (letter k x Told) (telling_key k x) ≡ Some (told k x)
told_opened k x = cond-true (key_eq (telling_key k x) (telling_key k x)) (Some (told k x)) None (key_itself (telling_key k x))

module _ (cast : List Role) (stores : Role → Store) (mails : Key → Option Load) (decide : Role → ScopeHead → Decision) where
  abbrev CanHere : Role → Process → Act → Type 0
  CanHere q P a = Can mails (decide q) q (stores q) P a

  -- a role of the cast can do an act
  abbrev GoesOn : Mark → Type 0
  GoesOn M = (q : Role) × (a : Act) × (member q cast ≡ true) × CanHere q (place cast M q) a

  abbrev NextNetwork : Mark → Type 0
  NextNetwork M = ((q : Role) → ended (place cast M q) ≡ true) ⊎ GoesOn M

  along : (q : Role) (P Q : Process) (a : Act) → P ≡ Q → CanHere q P a → CanHere q Q a
  along q P Q a h can = can_along mails (decide q) q (stores q) P Q a h can

  -- what can act has not ended
  idle : (q : Role) (P : Process) (a : Act) → CanHere q P a → ended P ≡ true → ⊥
  idle q P a can over = both_ways (ended P) (step_unended q (stores q) P a (given_by mails (decide q) a) can.2) over

  goes_seq : (M N L : Mark) → ((q : Role) → place cast L q ≡ process.Seq (place cast M q) (place cast N q)) → NextNetwork M → NextNetwork N → NextNetwork L
  goes_seq M N L form first second = ⊎_elim
      (λ over. ⊎_elim
      (λ over'. inl (λ q. ap ended (form q) ∙ and_from (ended (place cast M q)) (ended (place cast N q)) (over q) (over' q)))
      (λ go. inr (
        go.0,
        go.1,
        go.2,
        along go.0 (process.Seq (place cast M go.0) (place cast N go.0)) (place cast L go.0) go.1 (sym (form go.0))
            (can_second mails (decide go.0) go.0 (stores go.0) (place cast M go.0) (place cast N go.0) go.1 (over go.0) go.3),
      ))
      second)
      (λ go. inr (
        go.0,
        go.1,
        go.2,
        along go.0 (process.Seq (place cast M go.0) (place cast N go.0)) (place cast L go.0) go.1 (sym (form go.0))
            (can_first mails (decide go.0) go.0 (stores go.0) (place cast M go.0) (place cast N go.0) go.1 go.3),
      ))
      first

  goes_par : (M N L : Mark) → ((q : Role) → place cast L q ≡ process.Par (place cast M q) (place cast N q)) → NextNetwork M → NextNetwork N → NextNetwork L
  goes_par M N L form first second = ⊎_elim
      (λ over. ⊎_elim
      (λ over'. inl (λ q. ap ended (form q) ∙ and_from (ended (place cast M q)) (ended (place cast N q)) (over q) (over' q)))
      (λ go. inr (
        go.0,
        go.1,
        go.2,
        along go.0 (process.Par (place cast M go.0) (place cast N go.0)) (place cast L go.0) go.1 (sym (form go.0))
            (can_right mails (decide go.0) go.0 (stores go.0) (place cast M go.0) (place cast N go.0) go.1 (over go.0) go.3),
      ))
      second)
      (λ go. inr (
        go.0,
        go.1,
        go.2,
        along go.0 (process.Par (place cast M go.0) (place cast N go.0)) (place cast L go.0) go.1 (sym (form go.0))
            (can_left mails (decide go.0) go.0 (stores go.0) (place cast M go.0) (place cast N go.0) go.1 go.3),
      ))
      first

  -- the leader of a loop picks
  picks_turn : (i : Index) (r : Role) (g : Expression) (I : Term) → CanHere r (projected cast (term.While i r g I) r) (act.Pick i)
  picks_turn i r g I =
      let P : Process = process.WhileLead i g (others cast r (term.While i r g I)) (projected cast I r) in
      along r P (projected cast (term.While i r g I) r) (act.Pick i) (sym (cond-true (role_eq r r) P _ (role_itself r)))
      (can_pick_turn mails (decide r) r (stores r) i g (others cast r (term.While i r g I)) (projected cast I r))

  -- a term that nobody has begun: its first role can begin it
  goes_still : (I : Term) → Proper cast I → NextNetwork (Still I)
  goes_still term.Skip proper = inl (λ q. refl)
  goes_still (term.Com i o a e b x) proper = inr (
    a,
    act.Put (key a b i (Op o)),
    proper.in_cast a (or_left (role_eq a a) (role_eq a b) (role_itself a)),
    along a (process.Send i o b e) (projected cast (term.Com i o a e b x) a) (act.Put (key a b i (Op o))) (sym (cond-true (role_eq a a) (process.Send i o b e) _ (role_itself a)))
        (can_send mails (decide a) a (stores a) i o b e),
  )
  goes_still (term.Set i x r e) proper = inr (
    r,
    act.Set i,
    proper.in_cast r (role_itself r),
    along r (process.Assign i x e) (projected cast (term.Set i x r e) r) (act.Set i) (sym (cond-true (role_eq r r) (process.Assign i x e) process.Skip (role_itself r)))
        (can_assign mails (decide r) r (stores r) i x e),
  )
  goes_still (term.Input i x r) proper = inr (
    r,
    act.Input i,
    proper.in_cast r (role_itself r),
    along r (process.Read i x) (projected cast (term.Input i x r) r) (act.Input i) (sym (cond-true (role_eq r r) (process.Read i x) process.Skip (role_itself r)))
        (can_read mails (decide r) r (stores r) i x),
  )
  goes_still (term.Seq I J) proper = let parts = proper_seq cast I J proper in
      goes_seq (Still I) (Still J) (Still (term.Seq I J)) (λ q. refl) (goes_still I parts.0) (goes_still J parts.1)
  goes_still (term.Par I J) proper = let parts = proper_par cast I J proper in
      goes_par (Still I) (Still J) (Still (term.Par I J)) (λ q. refl) (goes_still I parts.0) (goes_still J parts.1)
  goes_still (term.If i r g I J) proper =
      let P : Process = process.IfLead i g (others cast r (term.If i r g I J)) (projected cast I r) (projected cast J r) in
      inr (
        r,
        act.Pick i,
        proper.in_cast r (or_left (role_eq r r || is_in r I) (is_in r J) (or_left (role_eq r r) (is_in r I) (role_itself r))),
        along r P (projected cast (term.If i r g I J) r) (act.Pick i) (sym (cond-true (role_eq r r) P _ (role_itself r)))
            (can_pick_branch mails (decide r) r (stores r) i g (others cast r (term.If i r g I J)) (projected cast I r) (projected cast J r)),
      )
  goes_still (term.While i r g I) proper = inr (r, act.Pick i, proper.in_cast r (or_left (role_eq r r) (is_in r I) (role_itself r)), picks_turn i r g I)
  goes_still (term.Scope i r I extra props level) proper =
      let head : ScopeHead = head_of cast i r I extra props level in
      let P : Process = process.ScopeLead head (others cast r (term.Scope i r I extra props level)) (projected cast I r) in
      inr (
        r,
        act.Scope i,
        proper.in_cast r (or_left (role_eq r r || is_in r I) (member r extra) (or_left (role_eq r r) (is_in r I) (role_itself r))),
        along r P (projected cast (term.Scope i r I extra props level) r) (act.Scope i) (sym (cond-true (role_eq r r) P _ (role_itself r)))
            (can_choose mails (decide r) r (stores r) head (others cast r (term.Scope i r I extra props level)) (projected cast I r)),
      )

  -- the leader's first message of a construct
  tells_first : (k : Kind) (phases : Phases) (P : Process) (x : Role) (rest : List Role) → untold cast k phases ≡ x ∷ rest
      → CanHere (leader k) (leads cast k phases P) (act.Put (telling_key k x))
  tells_first (Branch i r g I J b) phases P x rest h =
      can_first mails (decide r) r (stores r) (tell r (untold cast (Branch i r g I J b) phases) i Choice (λ q. Flag b)) P (act.Put (key r x i Choice))
      (can_tell mails (decide r) r (stores r) r (untold cast (Branch i r g I J b) phases) i Choice (λ q. Flag b) x rest h)
  tells_first (Turning i r g I) phases P x rest h =
      can_first mails (decide r) r (stores r) (tell r (untold cast (Turning i r g I) phases) i Go (λ q. Flag true))
      (process.Seq P (process.Seq (gather r (ungone cast (Turning i r g I) phases) i Turn) (projected cast (term.While i r g I) r))) (act.Put (key r x i Go))
      (can_tell mails (decide r) r (stores r) r (untold cast (Turning i r g I) phases) i Go (λ q. Flag true) x rest h)
  tells_first (Stopping i r g I) phases P x rest h = can_tell mails (decide r) r (stores r) r (untold cast (Stopping i r g I) phases) i Go (λ q. Flag false) x rest h
  tells_first (Scoped i r I extra props level begin B) phases P x rest h =
      let k : Kind = Scoped i r I extra props level begin B in
      can_first mails (decide r) r (stores r) (tell r (untold cast k phases) i Begin begin)
      (process.Seq P (process.Seq (gather r (ungone cast k phases) i End) (tell r (others cast r (term.Scope i r I extra props level)) i Out (λ q. Done)))) (act.Put (key r x i Begin))
      (can_tell mails (decide r) r (stores r) r (untold cast k phases) i Begin begin x rest h)
  tells_first (Releasing i r I extra props level) phases P x rest h =
      can_tell mails (decide r) r (stores r) r (untold cast (Releasing i r I extra props level) phases) i Out (λ q. Done) x rest h

  -- the leader's own part, once all are told
  leader_runs : (k : Kind) (phases : Phases) (M : Mark) → Fine cast (Held k phases M) → untold cast k phases ≡ [] → (a : Act)
      → CanHere (leader k) (place cast M (leader k)) a → CanHere (leader k) (leads cast k phases (place cast M (leader k))) a
  leader_runs (Branch i r g I J b) phases M fine told_all a can =
      can_second mails (decide r) r (stores r) (tell r (untold cast (Branch i r g I J b) phases) i Choice (λ q. Flag b)) (place cast M r) a
      (tell_done r (untold cast (Branch i r g I J b) phases) i Choice (λ q. Flag b) told_all) can
  leader_runs (Turning i r g I) phases M fine told_all a can =
      let rest : Process = process.Seq (gather r (ungone cast (Turning i r g I) phases) i Turn) (projected cast (term.While i r g I) r) in
      can_second mails (decide r) r (stores r) (tell r (untold cast (Turning i r g I) phases) i Go (λ q. Flag true)) (process.Seq (place cast M r) rest) a
      (tell_done r (untold cast (Turning i r g I) phases) i Go (λ q. Flag true) told_all) (can_first mails (decide r) r (stores r) (place cast M r) rest a can)
  leader_runs (Stopping i r g I) phases M fine told_all a can =
      absurd (idle r (place cast M r) a can (held_inside cast (Stopping i r g I) phases M r fine
      (ap ended (place_leader cast (Stopping i r g I) phases M r refl) ∙ tell_done r (untold cast (Stopping i r g I) phases) i Go (λ q. Flag false) told_all)))
  leader_runs (Scoped i r I extra props level begin B) phases M fine told_all a can =
      let k : Kind = Scoped i r I extra props level begin B in
      let rest : Process = process.Seq (gather r (ungone cast k phases) i End) (tell r (others cast r (term.Scope i r I extra props level)) i Out (λ q. Done)) in
      can_second mails (decide r) r (stores r) (tell r (untold cast k phases) i Begin begin) (process.Seq (place cast M r) rest) a
      (tell_done r (untold cast k phases) i Begin begin told_all) (can_first mails (decide r) r (stores r) (place cast M r) rest a can)
  leader_runs (Releasing i r I extra props level) phases M fine told_all a can =
      let k : Kind = Releasing i r I extra props level in
      absurd (idle r (place cast M r) a can (held_inside cast k phases M r fine
      (ap ended (place_leader cast k phases M r refl) ∙ tell_done r (untold cast k phases) i Out (λ q. Done) told_all)))

  -- the part of a role that is inside
  inside_runs : (k : Kind) (phases : Phases) (M : Mark) → Fine cast (Held k phases M) → (q : Role) → role_eq q (leader k) ≡ false → phases q ≡ Inside → (a : Act)
      → CanHere q (place cast M q) a → CanHere q (inside cast k q (place cast M q)) a
  inside_runs (Branch i r g I J b) phases M fine q other at a can = can
  inside_runs (Turning i r g I) phases M fine q other at a can =
      can_first mails (decide q) q (stores q) (place cast M q) (process.Seq (send_one (key q r i Turn) Done) (projected cast (term.While i r g I) q)) a can
  inside_runs (Stopping i r g I) phases M fine q other at a can =
      absurd (idle q (place cast M q) a can (held_inside cast (Stopping i r g I) phases M q fine
      (ap ended (place_follower cast (Stopping i r g I) phases M q other ∙ ap (λ p. follows cast (Stopping i r g I) q p (place cast M q)) at))))
  inside_runs (Scoped i r I extra props level begin B) phases M fine q other at a can =
      can_first mails (decide q) q (stores q) (place cast M q) (process.Seq (send_one (key q r i End) Done) (process.Gather (key r q i Out ∷ []))) a can
  inside_runs (Releasing i r I extra props level) phases M fine q other at a can =
      let k : Kind = Releasing i r I extra props level in
      absurd (idle q (place cast M q) a can (held_inside cast k phases M q fine
      (ap ended (place_follower cast k phases M q other ∙ ap (λ p. follows cast k q p (place cast M q)) at))))

  -- a role that is through goes on outside
  late_follows : (k : Kind) (q : Role) (p : Phase) (P : Process) → is_late p ≡ true → follows cast k q p P ≡ outside cast k q
  late_follows k q Sent P h = refl
  late_follows k q Gone P h = refl
  late_follows k q p P h = absurd (both_ways false refl h)

  module _ (k : Kind) (phases : Phases) (M : Mark) (fine : Fine cast (Held k phases M)) (agrees : Agrees mails (Held k phases M)) where
    goes_leader : (a : Act) → CanHere (leader k) (leads cast k phases (place cast M (leader k))) a → GoesOn (Held k phases M)
    goes_leader a can = (
      leader k,
      a,
      fine.1.proper.in_cast (leader k) (leader_in cast k),
      along (leader k) (leads cast k phases (place cast M (leader k))) (place cast (Held k phases M) (leader k)) a (sym (place_leader cast k phases M (leader k) refl)) can,
    )

    goes_follower : (x : Role) → role_eq x (leader k) ≡ false → is_in x (whole k) ≡ true → (p : Phase) → phases x ≡ p → (a : Act)
        → CanHere x (follows cast k x p (place cast M x)) a → GoesOn (Held k phases M)
    goes_follower x other in_it p at a can = (
      x,
      a,
      fine.1.proper.in_cast x in_it,
      along x (follows cast k x p (place cast M x)) (place cast (Held k phases M) x) a
          (sym (place_follower cast k phases M x other ∙ ap (λ y. follows cast k x y (place cast M x)) at)) can,
    )

    -- a role that was told takes the message
    goes_told : (x : Role) → phases x ≡ Told → GoesOn (Held k phases M)
    goes_told x at =
        let who = fine.1.known x (ap waits at) in
        goes_follower x who.0 who.1 Told at (act.Take (telling_key k x))
        (can_hear mails (decide x) x (stores x) cast k fine.1.begins who.0 who.1
        (own_given mails k phases M fine.1.own agrees (telling_key k x) refl ∙ from_leader k phases x (tag k)
        ∙ ap (λ p. opened (letter k x p) (telling_key k x)) at ∙ told_opened k x))

    -- where all have ended who are of the construct
    held_over : ended (leads cast k phases (place cast M (leader k))) ≡ true
        → ((q : Role) → role_eq q (leader k) ≡ false → is_in q (whole k) ≡ true → ended (follows cast k q (phases q) (place cast M q)) ≡ true)
        → (q : Role) → ended (place cast (Held k phases M) q) ≡ true
    held_over lead follow q = ⊎_elim
        (λ is. ap ended (place_leader cast k phases M q is) ∙ subst (λ r. ended (leads cast k phases (place cast M r)) ≡ true) (sym is) lead)
        (λ other. ap ended (place_follower cast k phases M q other) ∙ ⊎_elim (λ in_it. follow q other in_it)
        (λ out. ap (λ p. ended (follows cast k q p (place cast M q))) (outsider_waits cast k phases M fine q out) ∙ before_out cast k q out)
        (cases_Bool (is_in q (whole k))))
        (role_cases q (leader k))

    -- all are told, and no message of the leader is pending
    module _ (told_all : untold cast k phases ≡ []) (quiet : (x : Role) → member x (followers cast k) ≡ true → is_told (phases x) ≡ false) where
      begun : (q : Role) → role_eq q (leader k) ≡ false → is_in q (whole k) ≡ true → (phases q ≡ Inside) ⊎ (is_late (phases q) ≡ true)
      begun q other in_it = begun_at (phases q) (untold_none cast k phases q fine.1.proper told_all other in_it)
          (quiet q (is_follower cast k q fine.1.proper other in_it))

      -- a step inside
      goes_inside : GoesOn M → GoesOn (Held k phases M)
      goes_inside go =
          let q : Role = go.0 in
          let a : Act = go.1 in
          ⊎_elim
          (λ is. goes_leader a (leader_runs k phases M fine told_all a (subst (λ r. CanHere r (place cast M r) a) is go.3)))
          (λ other. ⊎_elim
          (λ in_it. ⊎_elim
          (λ at. goes_follower q other in_it Inside at a (inside_runs k phases M fine q other at a go.3))
          (λ late. absurd (idle q (place cast M q) a go.3 (fine.1.through q late)))
          (begun q other in_it))
          (λ out. absurd (idle q (place cast M q) a go.3 (outsider_body cast k phases M fine q other out)))
          (cases_Bool (is_in q (whole k))))
          (role_cases q (leader k))

      -- each role has ended its part of a turn or of a scope: one tells so, or the leader takes that, or else the leader goes on
      goes_backed : (t : Tag) → Backs k t → (tail : Process)
          → ((P : Process) → leads cast k phases P ≡ process.Seq (tell (leader k) (untold cast k phases) (index k) (tag k) (told k)) (process.Seq P (process.Seq (gather (leader k) (ungone cast k phases) (index k) t) tail)))
          → ((q : Role) (P : Process) → inside cast k q P ≡ process.Seq P (process.Seq (send_one (backing_key k t q) Done) (outside cast k q)))
          → ((q : Role) → ended (place cast M q) ≡ true)
          → (ungone cast k phases ≡ [] → ((q : Role) → role_eq q (leader k) ≡ false → is_in q (whole k) ≡ true → is_late (phases q) ≡ true) → NextNetwork (Held k phases M))
          → NextNetwork (Held k phases M)
      goes_backed t backs tail form form_inside over goes_tail =
          let r : Role = leader k in
          let P : Process = place cast M r in
          let T : Process = tell r (untold cast k phases) (index k) (tag k) (told k) in
          let G : Process = gather r (ungone cast k phases) (index k) t in
          ⊎_elim
          (λ found.
          let x : Role = found.0 in
          let who = follower cast k x found.2 in
          let A : Act = act.Put (backing_key k t x) in
          let S : Process = send_one (backing_key k t x) Done in
          inr (goes_follower x who.0 who.1 Inside (inside_at (phases x) found.1) A
          (along x (process.Seq (place cast M x) (process.Seq S (outside cast k x))) (inside cast k x (place cast M x)) A (sym (form_inside x (place cast M x)))
          (can_second mails (decide x) x (stores x) (place cast M x) (process.Seq S (outside cast k x)) A (over x)
          (can_first mails (decide x) x (stores x) S (outside cast k x) A
          (can_tell mails (decide x) x (stores x) x (r ∷ []) (index k) t (λ y. Done) r [] refl))))))
          (λ none.
          let late : (q : Role) → role_eq q r ≡ false → is_in q (whole k) ≡ true → is_late (phases q) ≡ true =
          λ q other in_it. ⊎_elim
          (λ at. absurd (inside_no_other (phases q) (none q (is_follower cast k q fine.1.proper other in_it)) at))
          (λ l. l) (begun q other in_it) in
          ⊎_elim
          (λ first.
          let x : Role = first.0 in
          let head = ungone_head cast k phases x first.1 first.2 in
          let A : Act = act.Take (backing_key k t x) in
          let at : phases x ≡ Sent = sent_at (phases x) (late x head.1 head.2) head.0 in
          inr (goes_leader A
          (along r (process.Seq T (process.Seq P (process.Seq G tail))) (leads cast k phases P) A (sym (form P))
          (can_second mails (decide r) r (stores r) T (process.Seq P (process.Seq G tail)) A (tell_done r (untold cast k phases) (index k) (tag k) (told k) told_all)
          (can_second mails (decide r) r (stores r) P (process.Seq G tail) A (over r)
          (can_first mails (decide r) r (stores r) G tail A
          (can_gather mails (decide r) r (stores r) r (ungone cast k phases) (index k) t x first.1 Done first.2
          (own_given mails k phases M fine.1.own agrees (backing_key k t x) refl ∙ to_leader k phases x t head.1
          ∙ ap (λ p. opened (letter k x p) (backing_key k t x)) at ∙ sent_opened backs x))))))))
          (λ gathered. goes_tail gathered late)
          (first_role (ungone cast k phases)))
          (find_role (λ x. is_inside (phases x)) (followers cast k))

  -- the body has ended for each role, all are told, and none has still to take that
  goes_over : (k : Kind) (phases : Phases) (M : Mark) → Fine cast (Held k phases M) → Agrees mails (Held k phases M) → untold cast k phases ≡ []
      → ((x : Role) → member x (followers cast k) ≡ true → is_told (phases x) ≡ false) → ((q : Role) → ended (place cast M q) ≡ true) → NextNetwork (Held k phases M)
  goes_over (Branch i r g I J b) phases M fine agrees told_all quiet over =
      let k : Kind = Branch i r g I J b in
      inl (held_over k phases M fine agrees
      (and_from _ (ended (place cast M r)) (tell_done r (untold cast k phases) i Choice (λ q. Flag b) told_all) (over r))
      (λ q other in_it. ⊎_elim
      (λ at. ap (λ p. ended (follows cast k q p (place cast M q))) at ∙ over q)
      (λ late. ap ended (late_follows k q (phases q) (place cast M q) late))
      (begun k phases M fine agrees told_all quiet q other in_it)))
  goes_over (Turning i r g I) phases M fine agrees told_all quiet over =
      let k : Kind = Turning i r g I in
      let P : Process = place cast M r in
      let T : Process = tell r (untold cast k phases) i Go (λ q. Flag true) in
      let G : Process = gather r (ungone cast k phases) i Turn in
      let W : Process = projected cast (term.While i r g I) r in
      goes_backed k phases M fine agrees told_all quiet Turn turn_backs W (λ Q. refl) (λ q Q. refl) over
      (λ gathered late. inr (goes_leader k phases M fine agrees (act.Pick i)
      (can_second mails (decide r) r (stores r) T (process.Seq P (process.Seq G W)) (act.Pick i) (tell_done r (untold cast k phases) i Go (λ q. Flag true) told_all)
      (can_second mails (decide r) r (stores r) P (process.Seq G W) (act.Pick i) (over r)
      (can_second mails (decide r) r (stores r) G W (act.Pick i) (gather_done r (ungone cast k phases) i Turn gathered) (picks_turn i r g I))))))
  goes_over (Stopping i r g I) phases M fine agrees told_all quiet over =
      let k : Kind = Stopping i r g I in
      inl (held_over k phases M fine agrees (tell_done r (untold cast k phases) i Go (λ q. Flag false) told_all)
      (λ q other in_it. ⊎_elim
      (λ at. ap (λ p. ended (follows cast k q p (place cast M q))) at)
      (λ late. ap ended (late_follows k q (phases q) (place cast M q) late))
      (begun k phases M fine agrees told_all quiet q other in_it)))
  goes_over (Scoped i r I extra props level begin B) phases M fine agrees told_all quiet over =
      let k : Kind = Scoped i r I extra props level begin B in
      let P : Process = place cast M r in
      let T : Process = tell r (untold cast k phases) i Begin begin in
      let G : Process = gather r (ungone cast k phases) i End in
      let qs : List Role = others cast r (term.Scope i r I extra props level) in
      let O : Process = tell r qs i Out (λ q. Done) in
      goes_backed k phases M fine agrees told_all quiet End end_backs O (λ Q. refl) (λ q Q. refl) over
      (λ gathered late. ⊎_elim
      (λ first. let A : Act = act.Put (key r first.0 i Out) in
      inr (goes_leader k phases M fine agrees A
      (can_second mails (decide r) r (stores r) T (process.Seq P (process.Seq G O)) A (tell_done r (untold cast k phases) i Begin begin told_all)
      (can_second mails (decide r) r (stores r) P (process.Seq G O) A (over r)
      (can_second mails (decide r) r (stores r) G O A (gather_done r (ungone cast k phases) i End gathered)
      (can_tell mails (decide r) r (stores r) r qs i Out (λ q. Done) first.0 first.1 first.2))))))
      (λ alone. inl (held_over k phases M fine agrees
      (and_from (ended T) (ended P && (ended G && ended O)) (tell_done r (untold cast k phases) i Begin begin told_all)
      (and_from (ended P) (ended G && ended O) (over r)
      (and_from (ended G) (ended O) (gather_done r (ungone cast k phases) i End gathered) (tell_done r qs i Out (λ q. Done) alone))))
      (λ q other in_it. absurd (both_ways false refl (subst (λ l. member q l ≡ true) alone (is_follower cast k q fine.1.proper other in_it))))))
      (first_role qs))
  goes_over (Releasing i r I extra props level) phases M fine agrees told_all quiet over =
      let k : Kind = Releasing i r I extra props level in
      inl (held_over k phases M fine agrees (tell_done r (untold cast k phases) i Out (λ q. Done) told_all)
      (λ q other in_it. ⊎_elim
      (λ at. ap (λ p. ended (follows cast k q p (place cast M q))) at)
      (λ late. ap ended (late_follows k q (phases q) (place cast M q) late))
      (begun k phases M fine agrees told_all quiet q other in_it)))

  goes_held : (k : Kind) (phases : Phases) (M : Mark) → Fine cast (Held k phases M) → Agrees mails (Held k phases M) → NextNetwork M → NextNetwork (Held k phases M)
  goes_held k phases M fine agrees inner = ⊎_elim
      (λ first. inr (goes_leader k phases M fine agrees (act.Put (telling_key k first.0)) (tells_first k phases (place cast M (leader k)) first.0 first.1 first.2)))
      (λ told_all. ⊎_elim
      (λ found. inr (goes_told k phases M fine agrees found.0 (told_at (phases found.0) found.1)))
      (λ quiet. ⊎_elim
      (λ over. goes_over k phases M fine agrees told_all quiet over)
      (λ go. inr (goes_inside k phases M fine agrees told_all quiet go))
      inner)
      (find_role (λ x. is_told (phases x)) (followers cast k)))
      (first_role (untold cast k phases))

  goes_flying : (i : Index) (o : List ℕ) (a : Role) (e : Expression) (b : Role) (x : List ℕ) (v : Value) → Fine cast (Flying i o a e b x v)
      → Agrees mails (Flying i o a e b x v) → NextNetwork (Flying i o a e b x v)
  goes_flying i o a e b x v fine agrees =
      let j : Key = key a b i (Op o) in
      inr (
        b,
        act.Take j,
        fine.in_cast b (or_right (role_eq b a) (role_eq b b) (role_itself b)),
        along b (process.Recv i o a x) (place cast (Flying i o a e b x v) b) (act.Take j)
            (sym (cond-false (role_eq b a) process.Skip _ (role_swap a b fine.no_self) ∙ cond-true (role_eq b b) (process.Recv i o a x) process.Skip (role_itself b)))
            (can_receive mails (decide b) b (stores b) i o a x v (agrees j refl ∙ cond-true (key_eq j j) (Some (Val v)) None (key_itself j))),
      )

  goes_mark : (M : Mark) → Fine cast M → Agrees mails M → NextNetwork M
  goes_mark (Still I) fine agrees = goes_still I fine
  goes_mark (Flying i o a e b x v) fine agrees = goes_flying i o a e b x v fine agrees
  goes_mark (Over I) fine agrees = inl (λ q. refl)
  goes_mark (First M J) fine agrees = goes_seq M (Still J) (First M J) (λ q. refl) (goes_mark M fine.0 (agrees_first mails M J agrees)) (goes_still J fine.1)
  goes_mark (Second M N) fine agrees = let parts = agrees_second mails M N fine.2 agrees in
      goes_seq M N (Second M N) (λ q. refl) (goes_mark M fine.0 parts.0) (goes_mark N fine.1 parts.1)
  goes_mark (Both M N) fine agrees = let parts = agrees_both mails M N fine.2 agrees in
      goes_par M N (Both M N) (λ q. refl) (goes_mark M fine.0 parts.0) (goes_mark N fine.1 parts.1)
  goes_mark (Held k phases M) fine agrees = goes_held k phases M fine agrees (goes_mark M fine.0 (agrees_inside mails k phases M fine.1.own agrees))
  goes_mark (Spent G) fine agrees = inl (λ q. refl)

-- each role has ended, or a role of the cast offers an act that it can do
module _ (cast : List Role) (stores : Role → Store) where
  pub goes : (M : Mark) → Fine cast M → (mails : Key → Option Load) (decide : Role → ScopeHead → Decision) → Agrees mails M
      → ((q : Role) → ended (place cast M q) ≡ true)
      ⊎ ((q : Role) × (a : Act) × (d : Deed) × (P : Process) × (member q cast ≡ true) × (is_offered a (offers q (place cast M q)) ≡ true)
      × (step q (stores q) (place cast M q) a (given_by mails (decide q) a) ≡ Does d P))
  goes M fine mails decide agrees = ⊎_elim
      (λ over. inl over)
      (λ go. inr (
        go.0,
        go.1,
        go.3.0,
        go.3.1,
        go.2,
        step_offered go.0 (stores go.0) (place cast M go.0) go.1 (given_by mails (decide go.0) go.1) go.3.2,
        go.3.2,
      ))
      (goes_mark cast stores mails decide M fine agrees)
