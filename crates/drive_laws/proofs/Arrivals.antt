-- Where no auxiliary act is left and the running term is light or has ended, the roles have ended too: nothing but auxiliary messages
-- kept them.
use Rattle.std.proofs.Common.{◌≡◌, List, [], true, false, ◌||◌, Option, refl, sym, ap, ◌∙◌, subst, ⊎_elim}
use Rattle.std.proofs.lemmas.Bool.{and_parts, and_from, or_parts, or_left, or_right, cases_Bool, cond-true, cond-false, both_ways}
use Rattle.dioc_terms.specs.declared.names.Role.{Role}
use Rattle.dioc_terms.specs.declared.processes.Key.{Key}
use Rattle.dioc_terms.specs.declared.processes.ScopeHead.{ScopeHead}
use Rattle.dioc_terms.specs.Equality.{role_eq, member}
use Rattle.dioc_terms.specs.Processes as process
use Rattle.dioc_terms.specs.Processes.{Process, Load}
use Rattle.dioc_terms.specs.Stores.{Store}
use Rattle.dioc_terms.specs.Terms as term
use Rattle.dioc_terms.specs.Terms.{Term, is_in}
use Rattle.projection.specs.Projection.{projected}
use Rattle.process_steps.specs.Steps.{Decision, ended}
use Rattle.global_steps.specs.Running as running
use Rattle.global_steps.specs.Running.{Running, started, light, is_due}
use Rattle.marked_laws.proofs.Agreeing.{agrees_first, agrees_second, agrees_both, agrees_inside}
use Rattle.marked_laws.proofs.Constructs.{Phase, Phases, Kind, Branch, Turning, Stopping, Scoped, Releasing, leader, whole, untold}
use Rattle.marked_laws.proofs.Ends.{still_skip}
use Rattle.marked_laws.proofs.Equality.{role_itself}
use Rattle.marked_laws.proofs.Mark.{Mark, Still, Flying, Over, First, Second, Both, Held, Spent, run, has_passed, acted, place, Fine, Order}
use Rattle.marked_laws.proofs.MarkSteps.{Agrees}
use Rattle.marked_laws.proofs.Roles.{role_cases}
use Rattle.drive_laws.proofs.Quiet.{NoAux, none_in, none_ended, lift_first, lift_second, lift_left, lift_other, all_told, outsider_ends, lift_held, held_ends, scope_ends}

-- a term that has ended from its start is nothing for anybody
pub started_over : (cast : List Role) (I : Term) → running.ended (started I) ≡ true → (q : Role) → ended (projected cast I q) ≡ true
started_over cast term.Skip h q = refl
started_over cast (term.Com i o a e b x) h q = absurd (both_ways false refl h)
started_over cast (term.Set i x r e) h q = absurd (both_ways false refl h)
started_over cast (term.Input i x r) h q = absurd (both_ways false refl h)
started_over cast (term.Seq I J) h q = let parts = and_parts (running.ended (started I)) (running.ended (started J)) h in
    and_from (ended (projected cast I q)) (ended (projected cast J q)) (started_over cast I parts.0 q) (started_over cast J parts.1 q)
started_over cast (term.Par I J) h q = let parts = and_parts (running.ended (started I)) (running.ended (started J)) h in
    and_from (ended (projected cast I q)) (ended (projected cast J q)) (started_over cast I parts.0 q) (started_over cast J parts.1 q)
started_over cast (term.If i r g I J) h q = absurd (both_ways false refl h)
started_over cast (term.While i r g I) h q = absurd (both_ways false refl h)
started_over cast (term.Scope i r I extra props level) h q = absurd (both_ways false refl h)

-- nothing flies in a term that nobody has begun, so it is light only where it has ended
pub started_light : (I : Term) → light (started I) ≡ true → running.ended (started I) ≡ true
started_light term.Skip h = refl
started_light (term.Seq I J) h = let parts = and_parts (light (started I)) (light (started J)) h in
    and_from (running.ended (started I)) (running.ended (started J)) (started_light I parts.0) (started_light J parts.1)
started_light (term.Par I J) h = let parts = and_parts (light (started I)) (light (started J)) h in
    and_from (running.ended (started I)) (running.ended (started J)) (started_light I parts.0) (started_light J parts.1)
started_light I h = cc

-- a construct's leader has begun it
leader_passed : (k : Kind) (p : Phase) → has_passed (leader k) k p ≡ true
leader_passed (Branch i r g I J b) p = or_left (role_eq r r) _ (role_itself r)
leader_passed (Turning i r g I) p = or_left (role_eq r r) _ (role_itself r)
leader_passed (Stopping i r g I) p = or_left (role_eq r r) _ (role_itself r)
leader_passed (Scoped i r I extra props level begin B) p = or_left (role_eq r r) _ (role_itself r)
leader_passed (Releasing i r I extra props level) p = or_left (role_eq r r || is_in r I) (member r extra) (or_left (role_eq r r) (is_in r I) (role_itself r))

module _ (cast : List Role) (stores : Role → Store) (mails : Key → Option Load) (decide : Role → ScopeHead → Decision) where
  abbrev pub Free : Role → Process → Type 0
  Free q P = NoAux cast stores mails decide q P

  -- of a part that comes first, and of one that comes second once the first has ended
  pub free_first : (q : Role) (P Q : Process) → Free q (process.Seq P Q) → Free q P
  free_first q P Q none = none_in cast stores mails decide q P (process.Seq P Q) (lift_first cast stores mails decide q P Q) none

  pub free_second : (q : Role) (P Q : Process) → ended P ≡ true → Free q (process.Seq P Q) → Free q Q
  free_second q P Q over none = none_in cast stores mails decide q Q (process.Seq P Q) (lift_second cast stores mails decide q P Q over) none

  pub free_left : (q : Role) (P Q : Process) → Free q (process.Par P Q) → Free q P
  free_left q P Q none = none_in cast stores mails decide q P (process.Par P Q) (lift_left cast stores mails decide q P Q) none

  pub free_right : (M N : Mark) → Fine cast (Both M N) → (q : Role) → Free q (place cast (Both M N) q) → Free q (place cast N q)
  free_right M N fine q none = none_in cast stores mails decide q (place cast N q) (process.Par (place cast M q) (place cast N q)) (lift_other cast stores mails decide M N fine q) none

  pub free_held : (k : Kind) (phases : Phases) (M : Mark) → Fine cast (Held k phases M) → Agrees mails (Held k phases M) → untold cast k phases ≡ []
      → (q : Role) → Free q (place cast (Held k phases M) q) → Free q (place cast M q)
  free_held k phases M fine agrees all q none = none_in cast stores mails decide q (place cast M q) (place cast (Held k phases M) q)
      (lift_held cast stores mails decide k phases M fine agrees all q none) none

  -- where no role has an auxiliary act left and the running term has ended, all roles have ended
  pub all_arrive : (M : Mark) → Fine cast M → Agrees mails M → ((q : Role) → Free q (place cast M q)) → running.ended (run M) ≡ true
      → (q : Role) → ended (place cast M q) ≡ true
  all_arrive (Still I) fine agrees none over q = started_over cast I over q
  all_arrive (Flying i o a e b x v) fine agrees none over q = absurd (both_ways false refl over)
  all_arrive (Over I) fine agrees none over q = refl
  all_arrive (First M J) fine agrees none over q =
      let parts = and_parts (running.ended (run M)) (running.ended (started J)) over in
      and_from (ended (place cast M q)) (ended (projected cast J q))
      (all_arrive M fine.0 (agrees_first mails M J agrees) (λ s. free_first s (place cast M s) (projected cast J s) (none s)) parts.0 q)
      (started_over cast J parts.1 q)
  all_arrive (Second M N) fine agrees none over q =
      let parts = and_parts (running.ended (run M)) (running.ended (run N)) over in
      let agree = agrees_second mails M N fine.2 agrees in
      let first : (s : Role) → ended (place cast M s) ≡ true =
      all_arrive M fine.0 agree.0 (λ s. free_first s (place cast M s) (place cast N s) (none s)) parts.0 in
      and_from (ended (place cast M q)) (ended (place cast N q)) (first q)
      (all_arrive N fine.1 agree.1 (λ s. free_second s (place cast M s) (place cast N s) (first s) (none s)) parts.1 q)
  all_arrive (Both M N) fine agrees none over q =
      let parts = and_parts (running.ended (run M)) (running.ended (run N)) over in
      let agree = agrees_both mails M N fine.2 agrees in
      and_from (ended (place cast M q)) (ended (place cast N q))
      (all_arrive M fine.0 agree.0 (λ s. free_left s (place cast M s) (place cast N s) (none s)) parts.0 q)
      (all_arrive N fine.1 agree.1 (λ s. free_right M N fine s (none s)) parts.1 q)
  all_arrive (Held (Branch i r g I J b) phases M) fine agrees none over q =
      let k : Kind = Branch i r g I J b in
      let all : untold cast k phases ≡ [] = all_told cast stores mails decide k phases M (none r) in
      held_ends cast stores mails decide k phases M fine agrees refl all q (none q)
      (all_arrive M fine.0 (agrees_inside mails k phases M fine.1.own agrees) (λ s. free_held k phases M fine agrees all s (none s)) over q)
  all_arrive (Held (Turning i r g I) phases M) fine agrees none over q = absurd (both_ways false refl over)
  all_arrive (Held (Stopping i r g I) phases M) fine agrees none over q =
      let k : Kind = Stopping i r g I in
      held_ends cast stores mails decide k phases M fine agrees refl (all_told cast stores mails decide k phases M (none r)) q (none q)
      (still_skip cast M q fine.1.is_body)
  all_arrive (Held (Scoped i r I extra props level begin B) phases M) fine agrees none over q =
      let k : Kind = Scoped i r I extra props level begin B in
      let all : untold cast k phases ≡ [] = all_told cast stores mails decide k phases M (none r) in
      scope_ends cast stores mails decide i r I extra props level begin B phases M fine agrees none
      (all_arrive M fine.0 (agrees_inside mails k phases M fine.1.own agrees) (λ s. free_held k phases M fine agrees all s (none s)) over) q
  all_arrive (Held (Releasing i r I extra props level) phases M) fine agrees none over q =
      let k : Kind = Releasing i r I extra props level in
      held_ends cast stores mails decide k phases M fine agrees refl (all_told cast stores mails decide k phases M (none r)) q (none q)
      (still_skip cast M q fine.1.is_body)
  all_arrive (Spent G) fine agrees none over q = refl

  -- who has begun the mark has no auxiliary act left in it
  abbrev pub Begun : Mark → Type 0
  Begun M = (s : Role) → acted s M ≡ true → Free s (place cast M s)

  pub begun_first : (M : Mark) (J : Term) → Begun (First M J) → Begun M
  begun_first M J begun s h = free_first s (place cast M s) (projected cast J s) (begun s h)

  pub begun_before : (M N : Mark) → Begun (Second M N) → Begun M
  begun_before M N begun s h = free_first s (place cast M s) (place cast N s) (begun s (or_left (acted s M) (acted s N) h))

  pub begun_after : (M N : Mark) → Order cast (Second M N) → Begun (Second M N) → Begun N
  begun_after M N order begun s h = free_second s (place cast M s) (place cast N s) (order.2 s h) (begun s (or_right (acted s M) (acted s N) h))

  pub begun_left : (M N : Mark) → Begun (Both M N) → Begun M
  begun_left M N begun s h = free_left s (place cast M s) (place cast N s) (begun s (or_left (acted s M) (acted s N) h))

  pub begun_right : (M N : Mark) → Fine cast (Both M N) → Begun (Both M N) → Begun N
  begun_right M N fine begun s h = free_right M N fine s (begun s (or_right (acted s M) (acted s N) h))

  pub begun_told : (k : Kind) (phases : Phases) (M : Mark) → Begun (Held k phases M) → untold cast k phases ≡ []
  begun_told k phases M begun = all_told cast stores mails decide k phases M
      (begun (leader k) (or_left (has_passed (leader k) k (phases (leader k))) (acted (leader k) M) (leader_passed k (phases (leader k)))))

  pub begun_held : (k : Kind) (phases : Phases) (M : Mark) → Fine cast (Held k phases M) → Agrees mails (Held k phases M) → Begun (Held k phases M) → Begun M
  begun_held k phases M fine agrees begun s h = free_held k phases M fine agrees (begun_told k phases M begun) s
      (begun s (or_right (has_passed s k (phases s)) (acted s M) h))

  -- at each chosen scope at the end of the mark that has the role: no other role of it has an auxiliary act left
  abbrev pub Loose : Mark → Role → Type 0
  Loose (First M J) q = Loose M q
  Loose (Second M N) q = Loose M q × Loose N q
  Loose (Both M N) q = Loose M q × Loose N q
  Loose (Held (Branch i r g I J b) phases M) q = Loose M q
  Loose (Held (Scoped i r I extra props level begin B) phases M) q =
      is_in q (term.Scope i r I extra props level) ≡ true → (s : Role) → is_in s (term.Scope i r I extra props level) ≡ true → role_eq s q ≡ false
      → Free s (place cast (Held (Scoped i r I extra props level begin B) phases M) s)
  Loose _ q = Unit {0}

  -- where nothing is left but messages in flight, none of them for the role, the role has ended
  pub arrives : (M : Mark) → Fine cast M → Order cast M → Agrees mails M → Begun M → (q : Role) → Free q (place cast M q) → Loose M q
      → light (run M) ≡ true → is_due q (run M) ≡ false → ended (place cast M q) ≡ true
  arrives (Still I) fine order agrees begun q none loose is_light due = started_over cast I (started_light I is_light) q
  arrives (Flying i o a e b x v) fine order agrees begun q none loose is_light due =
      ⊎_elim (λ is. ap ended (cond-true (role_eq q a) process.Skip _ is))
      (λ other. ap ended (cond-false (role_eq q a) process.Skip _ other ∙ cond-false (role_eq q b) (process.Recv i o a x) process.Skip due))
      (cases_Bool (role_eq q a))
  arrives (Over I) fine order agrees begun q none loose is_light due = refl
  arrives (First M J) fine order agrees begun q none loose is_light due =
      let parts = and_parts (light (run M)) (light (started J)) is_light in
      and_from (ended (place cast M q)) (ended (projected cast J q))
      (arrives M fine.0 order (agrees_first mails M J agrees) (begun_first M J begun) q (free_first q (place cast M q) (projected cast J q) none) loose parts.0
      (or_parts (is_due q (run M)) (is_due q (started J)) due).0)
      (started_over cast J (started_light J parts.1) q)
  arrives (Second M N) fine order agrees begun q none loose is_light due =
      let parts = and_parts (light (run M)) (light (run N)) is_light in
      let dues = or_parts (is_due q (run M)) (is_due q (run N)) due in
      let agree = agrees_second mails M N fine.2 agrees in
      let first : ended (place cast M q) ≡ true = arrives M fine.0 order.0 agree.0 (begun_before M N begun) q (free_first q (place cast M q) (place cast N q) none) loose.0 parts.0 dues.0 in
      and_from (ended (place cast M q)) (ended (place cast N q)) first
      (arrives N fine.1 order.1 agree.1 (begun_after M N order begun) q (free_second q (place cast M q) (place cast N q) first none) loose.1 parts.1 dues.1)
  arrives (Both M N) fine order agrees begun q none loose is_light due =
      let parts = and_parts (light (run M)) (light (run N)) is_light in
      let dues = or_parts (is_due q (run M)) (is_due q (run N)) due in
      let agree = agrees_both mails M N fine.2 agrees in
      and_from (ended (place cast M q)) (ended (place cast N q))
      (arrives M fine.0 order.0 agree.0 (begun_left M N begun) q (free_left q (place cast M q) (place cast N q) none) loose.0 parts.0 dues.0)
      (arrives N fine.1 order.1 agree.1 (begun_right M N fine begun) q (free_right M N fine q none) loose.1 parts.1 dues.1)
  arrives (Held (Branch i r g I J b) phases M) fine order agrees begun q none loose is_light due =
      let k : Kind = Branch i r g I J b in
      let all : untold cast k phases ≡ [] = begun_told k phases M begun in
      held_ends cast stores mails decide k phases M fine agrees refl all q none
      (arrives M fine.0 order (agrees_inside mails k phases M fine.1.own agrees) (begun_held k phases M fine agrees begun) q
      (free_held k phases M fine agrees all q none) loose is_light due)
  arrives (Held (Turning i r g I) phases M) fine order agrees begun q none loose is_light due = absurd (both_ways false refl is_light)
  arrives (Held (Stopping i r g I) phases M) fine order agrees begun q none loose is_light due =
      let k : Kind = Stopping i r g I in
      held_ends cast stores mails decide k phases M fine agrees refl (begun_told k phases M begun) q none (still_skip cast M q fine.1.is_body)
  arrives (Held (Scoped i r I extra props level begin B) phases M) fine order agrees begun q none loose is_light due =
      let k : Kind = Scoped i r I extra props level begin B in
      let all : untold cast k phases ≡ [] = begun_told k phases M begun in
      ⊎_elim
      (λ in_it.
      let each : (s : Role) → Free s (place cast (Held k phases M) s) = λ s. ⊎_elim
      (λ is. subst (λ y. Free y (place cast (Held k phases M) y)) (sym is) none)
      (λ other. ⊎_elim (λ in_s. loose in_it s in_s other)
      (λ out. none_ended cast stores mails decide s (place cast (Held k phases M) s) (outsider_ends cast stores mails decide k phases M fine agrees s out))
      (cases_Bool (is_in s (whole k))))
      (role_cases s q) in
      scope_ends cast stores mails decide i r I extra props level begin B phases M fine agrees each
      (all_arrive M fine.0 (agrees_inside mails k phases M fine.1.own agrees) (λ s. free_held k phases M fine agrees all s (each s)) is_light) q)
      (λ out. outsider_ends cast stores mails decide k phases M fine agrees q out)
      (cases_Bool (is_in q (whole k)))
  arrives (Held (Releasing i r I extra props level) phases M) fine order agrees begun q none loose is_light due =
      let k : Kind = Releasing i r I extra props level in
      held_ends cast stores mails decide k phases M fine agrees refl (begun_told k phases M begun) q none (still_skip cast M q fine.1.is_body)
  arrives (Spent G) fine order agrees begun q none loose is_light due = refl
