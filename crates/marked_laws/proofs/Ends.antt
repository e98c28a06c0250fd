-- Where a role has ended a mark, and where all have: what is left of the running term and of the mail then.
use Rattle.std.proofs.Common.{◌≡◌, ℕ, List, true, false, None, refl, sym, ap, ap₂, ◌∙◌, subst, ⊎_elim}
use Rattle.std.proofs.lemmas.Bool.{and_parts, and_from, both_ways, cases_Bool, cond-true, cond-false}
use Rattle.dioc_terms.specs.declared.names.Role.{Role}
use Rattle.dioc_terms.specs.declared.names.Index.{Index}
use Rattle.dioc_terms.specs.declared.values.Value.{Value}
use Rattle.dioc_terms.specs.declared.processes.Key.{Key}
use Rattle.dioc_terms.specs.Equality.{role_eq}
use Rattle.dioc_terms.specs.Expressions.{Expression}
use Rattle.dioc_terms.specs.Terms as term
use Rattle.dioc_terms.specs.Terms.{Term, is_in, others}
use Rattle.dioc_terms.specs.Processes as process
use Rattle.dioc_terms.specs.Processes.{Process, Load, Val}
use Rattle.projection.specs.Projection.{projected}
use Rattle.process_steps.specs.Steps.{ended}
use Rattle.global_steps.specs.Running as running
use Rattle.global_steps.specs.Running.{Running, started}
use Rattle.marked_laws.proofs.Constructs.{Phase, Phases, Kind, Branch, Turning, Stopping, Scoped, Releasing, Waits, Told, Inside, Sent, Gone, waits, is_late, leader, whole, body, whole_not_skip, letter, peer, opened, leads, inside, outside, follows}
use Rattle.marked_laws.proofs.Equality.{role_itself}
use Rattle.marked_laws.proofs.Gates.{before_busy, outsider_body}
use Rattle.marked_laws.proofs.Mark.{Mark, Still, Flying, Over, First, Second, Both, Held, Spent, origin, run, mail, first_of_two, place, Fine}
use Rattle.marked_laws.proofs.Roles.{role_cases, role_swap}

module _ (cast : List Role) where
  -- the leader's process of a construct, and a follower's
  pub place_leader : (k : Kind) (phases : Phases) (M : Mark) (q : Role) → q ≡ leader k
      → place cast (Held k phases M) q ≡ leads cast k phases (place cast M q)
  place_leader k phases M q is = cond-true (role_eq q (leader k)) _ _ (subst (λ r. role_eq q r ≡ true) is (role_itself q))

  pub place_follower : (k : Kind) (phases : Phases) (M : Mark) (q : Role) → role_eq q (leader k) ≡ false
      → place cast (Held k phases M) q ≡ follows cast k q (phases q) (place cast M q)
  place_follower k phases M q other = cond-false (role_eq q (leader k)) _ _ other

  -- a mark of an empty program has ended for everybody
  pub still_skip : (M : Mark) (q : Role) → origin M ≡ term.Skip → ended (place cast M q) ≡ true
  still_skip (Still term.Skip) q h = refl
  still_skip (Over I) q h = refl
  still_skip (Spent G) q h = refl
  still_skip (Held k phases M) q h = absurd (whole_not_skip k h)
  still_skip M q h = cc

  leads_inside : (k : Kind) (phases : Phases) (M : Mark) (q : Role) → origin M ≡ body k → ended (leads cast k phases (place cast M q)) ≡ true
      → ended (place cast M q) ≡ true
  leads_inside (Branch i r g I J b) phases M q is h = (and_parts _ (ended (place cast M q)) h).1
  leads_inside (Turning i r g I) phases M q is h = (and_parts (ended (place cast M q)) _ (and_parts _ _ h).1).0
  leads_inside (Stopping i r g I) phases M q is h = still_skip M q is
  leads_inside (Scoped i r I extra props level begin B) phases M q is h = (and_parts (ended (place cast M q)) _ (and_parts _ _ h).1).0
  leads_inside (Releasing i r I extra props level) phases M q is h = still_skip M q is

  follows_inside : (k : Kind) (phases : Phases) (M : Mark) (q : Role) → Fine cast (Held k phases M) → role_eq q (leader k) ≡ false
      → (p : Phase) → phases q ≡ p → ended (follows cast k q p (place cast M q)) ≡ true → ended (place cast M q) ≡ true
  follows_inside k phases M q fine other Waits at h = ⊎_elim
      (λ in_it. absurd (both_ways _ (before_busy cast k q other in_it) h)) (λ out. outsider_body cast k phases M fine q other out) (cases_Bool (is_in q (whole k)))
  follows_inside k phases M q fine other Told at h = ⊎_elim
      (λ in_it. absurd (both_ways _ (before_busy cast k q other in_it) h)) (λ out. outsider_body cast k phases M fine q other out) (cases_Bool (is_in q (whole k)))
  follows_inside k phases M q fine other Inside at h = inside_inside k fine.1.is_body h
    where
      inside_inside : (k : Kind) → origin M ≡ body k → ended (inside cast k q (place cast M q)) ≡ true → ended (place cast M q) ≡ true
      inside_inside (Branch i r g I J b) is h = h
      inside_inside (Turning i r g I) is h = (and_parts (ended (place cast M q)) _ h).0
      inside_inside (Stopping i r g I) is h = still_skip M q is
      inside_inside (Scoped i r I extra props level begin B) is h = (and_parts (ended (place cast M q)) _ h).0
      inside_inside (Releasing i r I extra props level) is h = still_skip M q is
  follows_inside k phases M q fine other Sent at h = fine.1.through q (ap is_late at)
  follows_inside k phases M q fine other Gone at h = fine.1.through q (ap is_late at)

  -- who has ended a construct has ended its body
  pub held_inside : (k : Kind) (phases : Phases) (M : Mark) (q : Role) → Fine cast (Held k phases M) → ended (place cast (Held k phases M) q) ≡ true
      → ended (place cast M q) ≡ true
  held_inside k phases M q fine h = ⊎_elim
      (λ is. leads_inside k phases M q fine.1.is_body (sym (ap ended (place_leader k phases M q is)) ∙ h))
      (λ other. follows_inside k phases M q fine other (phases q) refl (sym (ap ended (place_follower k phases M q other)) ∙ h))
      (role_cases q (leader k))

  -- the leader of a turn has still to pick again
  pub turn_goes_on : (i : Index) (r : Role) (g : Expression) (I : Term) (phases : Phases) (M : Mark) → ended (place cast (Held (Turning i r g I) phases M) r) ≡ true → ⊥
  turn_goes_on i r g I phases M h =
      let led = sym (ap ended (place_leader (Turning i r g I) phases M r refl)) ∙ h in
      both_ways _ (ap ended (cond-true (role_eq r r) _ _ (role_itself r))) (and_parts _ (ended (projected cast (term.While i r g I) r)) (and_parts (ended (place cast M r)) _ (and_parts _ _ led).1).1).1

  -- a program that is ended for all its roles is empty
  still_over : (I : Term) → ((q : Role) → ended (projected cast I q) ≡ true) → running.ended (started I) ≡ true
  still_over term.Skip h = refl
  still_over (term.Com i o a e b x) h = absurd (both_ways _ (ap ended (cond-true (role_eq a a) _ _ (role_itself a))) (h a))
  still_over (term.Set i x r e) h = absurd (both_ways _ (ap ended (cond-true (role_eq r r) (process.Assign i x e) process.Skip (role_itself r))) (h r))
  still_over (term.Input i x r) h = absurd (both_ways _ (ap ended (cond-true (role_eq r r) (process.Read i x) process.Skip (role_itself r))) (h r))
  still_over (term.Seq I J) h = and_from _ _ (still_over I (λ q. (and_parts _ _ (h q)).0)) (still_over J (λ q. (and_parts _ _ (h q)).1))
  still_over (term.Par I J) h = and_from _ _ (still_over I (λ q. (and_parts _ _ (h q)).0)) (still_over J (λ q. (and_parts _ _ (h q)).1))
  still_over (term.If i r g I J) h = absurd (both_ways _ (ap ended (cond-true (role_eq r r) _ _ (role_itself r))) (h r))
  still_over (term.While i r g I) h = absurd (both_ways _ (ap ended (cond-true (role_eq r r) _ _ (role_itself r))) (h r))
  still_over (term.Scope i r I extra props level) h = absurd (both_ways _ (ap ended (cond-true (role_eq r r) _ _ (role_itself r))) (h r))

  flying_waits : (i : Index) (o : List ℕ) (a : Role) (e : Expression) (b : Role) (x : List ℕ) (v : Value) → role_eq a b ≡ false
      → ended (place cast (Flying i o a e b x v) b) ≡ true → ⊥
  flying_waits i o a e b x v differ h =
      both_ways _ (ap ended (cond-false (role_eq b a) process.Skip _ (role_swap a b differ) ∙ cond-true (role_eq b b) (process.Recv i o a x) process.Skip (role_itself b))) h

  -- where each role has ended, the running term has ended
  pub all_over : (M : Mark) → Fine cast M → ((q : Role) → ended (place cast M q) ≡ true) → running.ended (run M) ≡ true
  all_over (Still I) fine h = still_over I h
  all_over (Flying i o a e b x v) fine h = absurd (flying_waits i o a e b x v fine.no_self (h b))
  all_over (Over I) fine h = refl
  all_over (First M J) fine h = and_from _ _ (all_over M fine.0 (λ q. (and_parts _ _ (h q)).0)) (still_over J (λ q. (and_parts _ _ (h q)).1))
  all_over (Second M N) fine h = and_from _ _ (all_over M fine.0 (λ q. (and_parts _ _ (h q)).0)) (all_over N fine.1 (λ q. (and_parts _ _ (h q)).1))
  all_over (Both M N) fine h = and_from _ _ (all_over M fine.0 (λ q. (and_parts _ _ (h q)).0)) (all_over N fine.1 (λ q. (and_parts _ _ (h q)).1))
  all_over (Held (Branch i r g I J b) phases M) fine h = all_over M fine.0 (λ q. held_inside (Branch i r g I J b) phases M q fine (h q))
  all_over (Held (Turning i r g I) phases M) fine h = absurd (turn_goes_on i r g I phases M (h r))
  all_over (Held (Stopping i r g I) phases M) fine h = refl
  all_over (Held (Scoped i r I extra props level begin B) phases M) fine h =
      all_over M fine.0 (λ q. held_inside (Scoped i r I extra props level begin B) phases M q fine (h q))
  all_over (Held (Releasing i r I extra props level) phases M) fine h =
      all_over M fine.0 (λ q. held_inside (Releasing i r I extra props level) phases M q fine (h q))
  all_over (Spent G) fine h = fine

  -- a role that has ended a construct has no message of it pending
  letter_none : (k : Kind) (phases : Phases) (M : Mark) → Fine cast (Held k phases M) → (q : Role) (p : Phase) → phases q ≡ p
      → ended (place cast (Held k phases M) q) ≡ true → letter k q p ≡ None
  letter_none k phases M fine q Waits at h = refl
  letter_none k phases M fine q Told at h =
      let who = fine.1.known q (ap waits at) in
      absurd (both_ways _ (before_busy cast k q who.0 who.1)
      (sym (ap (λ p. ended (follows cast k q p (place cast M q))) at) ∙ sym (ap ended (place_follower k phases M q who.0)) ∙ h))
  letter_none k phases M fine q Inside at h = refl
  letter_none k phases M fine q Sent at h =
      let who = fine.1.known q (ap waits at) in
      sent k who.0 who.1 (sym (ap (λ p. ended (follows cast k q p (place cast M q))) at) ∙ sym (ap ended (place_follower k phases M q who.0)) ∙ h)
    where
      sent : (k : Kind) → role_eq q (leader k) ≡ false → is_in q (whole k) ≡ true → ended (outside cast k q) ≡ true → letter k q Sent ≡ None
      sent (Branch i r g I J b) other in_it e = refl
      sent (Turning i r g I) other in_it e = absurd (both_ways _ (before_busy cast (Turning i r g I) q other in_it) e)
      sent (Stopping i r g I) other in_it e = refl
      sent (Scoped i r I extra props level begin B) other in_it e = absurd (both_ways false refl e)
      sent (Releasing i r I extra props level) other in_it e = refl
  letter_none k phases M fine q Gone at h = refl

  -- where each role has ended, no message is pending
  pub no_mail : (M : Mark) → Fine cast M → ((q : Role) → ended (place cast M q) ≡ true) → (j : Key) → mail M j ≡ None
  no_mail (Still I) fine h j = refl
  no_mail (Flying i o a e b x v) fine h j = absurd (flying_waits i o a e b x v fine.no_self (h b))
  no_mail (Over I) fine h j = refl
  no_mail (First M J) fine h j = no_mail M fine.0 (λ q. (and_parts _ _ (h q)).0) j
  no_mail (Second M N) fine h j =
      ap₂ first_of_two (no_mail M fine.0 (λ q. (and_parts _ _ (h q)).0) j) (no_mail N fine.1 (λ q. (and_parts _ _ (h q)).1) j)
  no_mail (Both M N) fine h j =
      ap₂ first_of_two (no_mail M fine.0 (λ q. (and_parts _ _ (h q)).0) j) (no_mail N fine.1 (λ q. (and_parts _ _ (h q)).1) j)
  no_mail (Held k phases M) fine h j =
      let q : Role = peer k j in
      ap₂ first_of_two (ap (λ m. opened m j) (letter_none k phases M fine q (phases q) refl (h q)))
      (no_mail M fine.0 (λ r. held_inside k phases M r fine (h r)) j)
  no_mail (Spent G) fine h j = refl
