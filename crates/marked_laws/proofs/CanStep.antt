-- When a process can do an act.
use Rattle.std.proofs.Common.{◌≡◌, ℕ, List, [], ◌∷◌, map, true, false, if◌then◌else◌, Option, Some, refl, sym, ap, ◌∙◌, subst, ⊎_elim}
use Rattle.std.proofs.lemmas.Bool.{cond-true, cond-false}
use Rattle.dioc_terms.specs.declared.names.Role.{Role}
use Rattle.dioc_terms.specs.declared.names.Index.{Index}
use Rattle.dioc_terms.specs.declared.values.Value.{Value}
use Rattle.dioc_terms.specs.declared.processes.Key.{Key}
use Rattle.dioc_terms.specs.declared.processes.Tag.{Tag}
use Rattle.dioc_terms.specs.declared.processes.Tag.TheVariants.{Op, Choice, Go, Begin, Out}
use Rattle.dioc_terms.specs.declared.processes.ScopeHead.{ScopeHead}
use Rattle.dioc_terms.specs.declared.entries.Act.{Act}
use Rattle.dioc_terms.specs.declared.entries.Act.TheVariants as act
use Rattle.dioc_terms.specs.Equality.{role_eq, act_eq}
use Rattle.dioc_terms.specs.Expressions.{Expression}
use Rattle.dioc_terms.specs.Attempts.{Attempt, Does, under, when}
use Rattle.dioc_terms.specs.Processes as process
use Rattle.dioc_terms.specs.Processes.{Process, Load, Val, Flag, Keep, Part}
use Rattle.dioc_terms.specs.Stores.{Store}
use Rattle.dioc_terms.specs.Terms as term
use Rattle.dioc_terms.specs.Terms.{Term, is_in}
use Rattle.projection.specs.Projection.{projected}
use Rattle.process_steps.specs.Steps.{Deed, Got, Decision, Keeps, Replaces, ended, after, key, tell, gather, gathering, take_value, take_flag, take_any, take_begin, begin_scope, while_follows, offers, is_offered, step}
use Rattle.marked_laws.proofs.Acts.{step_offered, step_unended, ended_offers}
use Rattle.marked_laws.proofs.Constructs.{Kind, Branch, Turning, Stopping, Scoped, Releasing, leader, whole, telling_key, told, Begins, before}
use Rattle.marked_laws.proofs.Equality.{act_itself}
use Rattle.marked_laws.proofs.MarkSteps.{given_by}
use Rattle.marked_laws.proofs.Moves.{when_true}

-- a pending message is given to its take
pub given_pending : (mails : Key → Option Load) (decide : ScopeHead → Decision) (j : Key) (l : Load) → mails j ≡ Some l → given_by mails decide (act.Take j) ≡ Got l
given_pending mails decide j l h = ap (λ m. given_by (λ k. m) decide (act.Take j)) h

module _ (mails : Key → Option Load) (decide : ScopeHead → Decision) (q : Role) (s : Store) where
  -- the process steps by the act
  abbrev pub Can : Process → Act → Type 0
  Can P a = (d : Deed) × (R : Process) × (step q s P a (given_by mails decide a) ≡ Does d R)

  pub can_along : (P Q : Process) (a : Act) → P ≡ Q → Can P a → Can Q a
  can_along P Q a h can = subst (λ p. Can p a) h can

  -- a process that offers one act, and does it
  passes : (a : Act) (m : Attempt Deed Process) (d : Deed) (R : Process) → m ≡ Does d R → when (act_eq a a) m ≡ Does d R
  passes a m d R h = when_true (act_eq a a) m (act_itself a) ∙ h

  pub can_send : (i : Index) (o : List ℕ) (b : Role) (e : Expression) → Can (process.Send i o b e) (act.Put (key q b i (Op o)))
  can_send i o b e = (_, _, passes (act.Put (key q b i (Op o))) _ _ _ refl)

  pub can_receive : (i : Index) (o : List ℕ) (r : Role) (x : List ℕ) (v : Value) → mails (key r q i (Op o)) ≡ Some (Val v)
      → Can (process.Recv i o r x) (act.Take (key r q i (Op o)))
  can_receive i o r x v h =
      let j : Key = key r q i (Op o) in
      (_, _, passes (act.Take j) (take_value j x (given_by mails decide (act.Take j))) _ _ (ap (take_value j x) (given_pending mails decide j (Val v) h)))

  pub can_assign : (i : Index) (x : List ℕ) (e : Expression) → Can (process.Assign i x e) (act.Set i)
  can_assign i x e = (_, _, passes (act.Set i) _ _ _ refl)

  pub can_read : (i : Index) (x : List ℕ) → Can (process.Read i x) (act.Input i)
  can_read i x = (_, _, passes (act.Input i) _ _ _ refl)

  pub can_pick_branch : (i : Index) (g : Expression) (qs : List Role) (P Q : Process) → Can (process.IfLead i g qs P Q) (act.Pick i)
  can_pick_branch i g qs P Q = (_, _, passes (act.Pick i) _ _ _ refl)

  pub can_pick_turn : (i : Index) (g : Expression) (qs : List Role) (P : Process) → Can (process.WhileLead i g qs P) (act.Pick i)
  can_pick_turn i g qs P = (_, _, passes (act.Pick i) _ _ _ refl)

  pub can_choose : (head : ScopeHead) (qs : List Role) (P : Process) → Can (process.ScopeLead head qs P) (act.Scope head.index)
  can_choose head qs P = by_decision (decide head)
    where
      by_decision : (decision : Decision) → (d : Deed) × (R : Process) × (when (act_eq (act.Scope head.index) (act.Scope head.index)) (begin_scope q head.index qs P decision) ≡ Does d R)
      by_decision Keeps = (_, _, passes (act.Scope head.index) _ _ _ refl)
      by_decision (Replaces name n part) = (_, _, passes (act.Scope head.index) _ _ _ refl)

  -- the first part of a sequence goes on, and so does the second once the first has ended
  pub can_first : (P Q : Process) (a : Act) → Can P a → Can (process.Seq P Q) a
  can_first P Q a can = (
    can.0,
    after can.1 Q,
    cond-false (ended P) (step q s Q a (given_by mails decide a)) (under (λ p. after p Q) (step q s P a (given_by mails decide a)))
        (step_unended q s P a (given_by mails decide a) can.2)
        ∙ ap (under (λ p. after p Q)) can.2,
  )

  pub can_second : (P Q : Process) (a : Act) → ended P ≡ true → Can Q a → Can (process.Seq P Q) a
  can_second P Q a over can = (
    can.0,
    can.1,
    cond-true (ended P) (step q s Q a (given_by mails decide a)) (under (λ p. after p Q) (step q s P a (given_by mails decide a))) over ∙ can.2,
  )

  -- either part of a parallel goes on, the right one where the left has ended
  pub can_left : (P Q : Process) (a : Act) → Can P a → Can (process.Par P Q) a
  can_left P Q a can = (
    can.0,
    process.Par can.1 Q,
    cond-true (is_offered a (offers q P)) (under (λ p. process.Par p Q) (step q s P a (given_by mails decide a))) (under (process.Par P) (step q s Q a (given_by mails decide a)))
        (step_offered q s P a (given_by mails decide a) can.2)
        ∙ ap (under (λ p. process.Par p Q)) can.2,
  )

  pub can_right : (P Q : Process) (a : Act) → ended P ≡ true → Can Q a → Can (process.Par P Q) a
  can_right P Q a over can = (
    can.0,
    process.Par P can.1,
    cond-false (is_offered a (offers q P)) (under (λ p. process.Par p Q) (step q s P a (given_by mails decide a))) (under (process.Par P) (step q s Q a (given_by mails decide a)))
        (ap (is_offered a) (ended_offers q P over))
        ∙ ap (under (process.Par P)) can.2,
  )

  pub can_tell : (from : Role) (qs : List Role) (i : Index) (t : Tag) (carries : Role → Load) (x : Role) (rest : List Role) → qs ≡ x ∷ rest
      → Can (tell from qs i t carries) (act.Put (key from x i t))
  can_tell from qs i t carries x rest h = subst (λ l. Can (tell from l i t carries) (act.Put (key from x i t))) (sym h)
      (_, _, passes (act.Put (key from x i t)) _ _ _ refl)

  pub can_gather : (to : Role) (qs : List Role) (i : Index) (t : Tag) (x : Role) (rest : List Role) (l : Load) → qs ≡ x ∷ rest → mails (key x to i t) ≡ Some l
      → Can (gather to qs i t) (act.Take (key x to i t))
  can_gather to qs i t x rest l h pending =
      let j : Key = key x to i t in
      let left : Process = gathering (map (λ y. key y to i t) rest) in
      subst (λ ys. Can (gather to ys i t) (act.Take j)) (sym h)
      (_, _, passes (act.Take j) (take_any j left (given_by mails decide (act.Take j))) _ _ (ap (take_any j left) (given_pending mails decide j l pending)))

  -- a role of a construct takes what its leader has told it
  pub can_hear : (cast : List Role) (k : Kind) → Begins cast k → role_eq q (leader k) ≡ false → is_in q (whole k) ≡ true → mails (telling_key k q) ≡ Some (told k q)
      → Can (before cast k q) (act.Take (telling_key k q))
  can_hear cast (Branch i r g I J b) begins other in_it pending =
      let j : Key = key r q i Choice in
      let P : Process = projected cast I q in
      let Q : Process = projected cast J q in
      can_along (process.IfFollow i r P Q) (projected cast (term.If i r g I J) q) (act.Take j)
      (sym (cond-false (role_eq q r) _ _ other ∙ cond-true (is_in q (term.If i r g I J)) _ process.Skip in_it))
      (_, _, passes (act.Take j) (take_flag j P Q (given_by mails decide (act.Take j))) _ _ (ap (take_flag j P Q) (given_pending mails decide j (Flag b) pending)))
  can_hear cast (Turning i r g I) begins other in_it pending =
      let j : Key = key r q i Go in
      let P : Process = projected cast I q in
      let W : Process = while_follows r q i P (process.WhileFollow i r P) in
      can_along (process.WhileFollow i r P) (projected cast (term.While i r g I) q) (act.Take j)
      (sym (cond-false (role_eq q r) _ _ other ∙ cond-true (is_in q (term.While i r g I)) _ process.Skip in_it))
      (_, _, passes (act.Take j) (take_flag j W process.Skip (given_by mails decide (act.Take j))) _ _ (ap (take_flag j W process.Skip) (given_pending mails decide j (Flag true) pending)))
  can_hear cast (Stopping i r g I) begins other in_it pending =
      let j : Key = key r q i Go in
      let P : Process = projected cast I q in
      let W : Process = while_follows r q i P (process.WhileFollow i r P) in
      can_along (process.WhileFollow i r P) (projected cast (term.While i r g I) q) (act.Take j)
      (sym (cond-false (role_eq q r) _ _ other ∙ cond-true (is_in q (term.While i r g I)) _ process.Skip in_it))
      (_, _, passes (act.Take j) (take_flag j W process.Skip (given_by mails decide (act.Take j))) _ _ (ap (take_flag j W process.Skip) (given_pending mails decide j (Flag false) pending)))
  can_hear cast (Scoped i r I extra props level begin B) begins other in_it pending =
      let j : Key = key r q i Begin in
      let P : Process = if is_in q I then projected cast I q else process.Skip in
      can_along (process.ScopeFollow i r P) (projected cast (term.Scope i r I extra props level) q) (act.Take j)
      (sym (cond-false (role_eq q r) _ _ other ∙ cond-true (is_in q (term.Scope i r I extra props level)) (process.ScopeFollow i r P) process.Skip in_it))
      (⊎_elim
      (λ kept. (
        _,
        _,
        passes (act.Take j) (take_begin r q i P (given_by mails decide (act.Take j))) _ _
            (ap (take_begin r q i P) (given_pending mails decide j Keep (pending ∙ ap Some (kept.1 q)))),
      ))
      (λ parts. (
        _,
        _,
        passes (act.Take j) (take_begin r q i P (given_by mails decide (act.Take j))) _ _
            (ap (take_begin r q i P) (given_pending mails decide j (Part parts.0 (projected cast B q)) (pending ∙ ap Some (parts.1 q)))),
      ))
      begins)
  can_hear cast (Releasing i r I extra props level) begins other in_it pending =
      let j : Key = key r q i Out in
      can_along (process.Gather (j ∷ [])) (before cast (Releasing i r I extra props level) q) (act.Take j)
      (sym (cond-true (is_in q (term.Scope i r I extra props level)) _ process.Skip in_it)) (
        _,
        _,
        passes (act.Take j) (take_any j process.Skip (given_by mails decide (act.Take j))) _ _
            (ap (take_any j process.Skip) (given_pending mails decide j process.Done pending)),
      )
