-- Each step of a role's process is a step of the mark.
use Rattle.std.proofs.Common.{◌≡◌, ℕ, List, true, if◌then◌else◌, Option, Some, None, refl, sym, ap, ◌∙◌, subst, ⊎_elim}
use Rattle.std.proofs.lemmas.Bool.{cond-true}
use Rattle.dioc_terms.specs.declared.names.Role.{Role}
use Rattle.dioc_terms.specs.declared.names.Index.{Index}
use Rattle.dioc_terms.specs.declared.values.Value.{Value}
use Rattle.dioc_terms.specs.declared.processes.Key.{Key}
use Rattle.dioc_terms.specs.declared.processes.Tag.TheVariants.{Op}
use Rattle.dioc_terms.specs.declared.processes.ScopeHead.{ScopeHead}
use Rattle.dioc_terms.specs.declared.entries.Act.{Act}
use Rattle.dioc_terms.specs.declared.entries.Act.TheVariants as act
use Rattle.dioc_terms.specs.Equality.{role_eq, key_eq}
use Rattle.dioc_terms.specs.Expressions.{Expression}
use Rattle.dioc_terms.specs.Attempts.{Does}
use Rattle.dioc_terms.specs.Processes as process
use Rattle.dioc_terms.specs.Processes.{Process, Load, Val}
use Rattle.dioc_terms.specs.Stores.{Store}
use Rattle.dioc_terms.specs.Terms as term
use Rattle.dioc_terms.specs.Terms.{distinct_roles}
use Rattle.process_steps.specs.Steps.{Deed, Takes, Given, Got, Decision, ended, key, take_value, step}
use Rattle.global_steps.specs.Follow.{BookChoice}
use Rattle.network_steps.specs.Network.{decision}
use Rattle.marked_laws.proofs.Agreeing.{agrees_first, agrees_next, agrees_second, agrees_both, agrees_inside}
use Rattle.marked_laws.proofs.Equality.{role_same, key_itself}
use Rattle.marked_laws.proofs.FoundHeld.{finds_held}
use Rattle.marked_laws.proofs.FoundParts.{taken_by, when_act, seq_does}
use Rattle.marked_laws.proofs.FoundStill.{Finds, finds_either, finds_skip, finds_first, finds_both, finds_still}
use Rattle.marked_laws.proofs.Mark.{Mark, Still, Flying, Over, First, Second, Both, Held, Spent, place, Fine}
use Rattle.marked_laws.proofs.MarkSteps.{Steps, lands, seq_lags, seq_goes, doer_of, given_by, Agrees}
use Rattle.marked_laws.proofs.Moves.{does_same, stuck_does}
use Rattle.marked_laws.proofs.Norm.{norm, seq_norm, norm-after, norm_of_ended}

value_does : (j : Key) (x : List ℕ) (given : Given) {d : Deed} {R : Process} → take_value j x given ≡ Does d R
    → (v : Value) × (given ≡ Got (Val v)) × (d ≡ Takes j (Some x) (Val v)) × (R ≡ process.Skip)
value_does j x (Got (Val v)) h = let same = does_same h in (v, refl, sym same.0, sym same.1)
value_does j x given h = absurd (stuck_does h)

value_same : {v w : Value} → Some (Val v) ≡ Some (Val w) → v ≡ w
value_same h = cc

module _ (cast : List Role) (stores : Role → Store) (choices : ScopeHead → BookChoice) (updates : ℕ) (unique : distinct_roles cast ≡ true)
    (mails : Key → Option Load) (decide : ScopeHead → Decision) (q : Role) (a : Act)
    (decides : (head : ScopeHead) → head.leader ≡ q → decide head ≡ decision cast updates head (choices head)) where
  abbrev FindsHere : Process → Mark → Type 0
  FindsHere P M = Finds cast stores choices updates mails decide q a P M

  -- a sequence whose second part was begun
  finds_second : (M N : Mark) → FindsHere (place cast M q) M → FindsHere (place cast N q) N → FindsHere (process.Seq (place cast M q) (place cast N q)) (Second M N)
  finds_second M N first second d R h = ⊎_elim
      (λ k. let found = second d R k.1 in (
        Second M found.0,
        seq_goes (subst (λ r. ended (place cast M r) ≡ true) (sym found.3) k.0) found.1,
        found.2 ∙ sym (ap (λ p. seq_norm p (norm (place cast found.0 q))) (norm_of_ended (place cast M q) k.0)),
        found.3,
      ))
      (λ k. let found = first d k.1 k.2 in (
        Second found.0 N,
        seq_lags found.1,
        ap norm (sym k.3) ∙ norm-after k.1 (place cast N q) ∙ ap (λ p. seq_norm p (norm (place cast N q))) found.2,
        found.3,
      ))
      (seq_does q (stores q) a (given_by mails decide a) (place cast M q) (place cast N q) h)

  -- the receiver of a message in flight takes it
  finds_flying : (i : Index) (o : List ℕ) (r : Role) (e : Expression) (x : List ℕ) (v : Value) → Agrees mails (Flying i o r e q x v)
      → FindsHere (process.Recv i o r x) (Flying i o r e q x v)
  finds_flying i o r e x v agrees d R h =
      let j : Key = key r q i (Op o) in
      let done = when_act a (act.Take j) (take_value j x (given_by mails decide a)) h in
      let took = value_does j x (given_by mails decide a) done.1 in
      let here : Some (Val v) ≡ Some (Val took.0) =
      sym (agrees j refl ∙ cond-true (key_eq j j) (Some (Val v)) None (key_itself j)) ∙ taken_by mails decide a j (Val took.0) done.0 took.1 in (
        Over (term.Com i o r e q x),
        subst (λ y. Steps cast stores choices updates (Flying i o r e q x v) y (Over (term.Com i o r e q x))) (sym (took.2 ∙ ap (λ w. Takes j (Some x) (Val w)) (sym (value_same here)))) lands,
        ap norm took.3,
        ap doer_of took.2,
      )

  finds : (M : Mark) → Fine cast M → Agrees mails M → FindsHere (place cast M q) M
  finds (Still I) fine agrees d R h = finds_still cast stores choices updates mails decide q a decides I agrees d R h
  finds (Flying i o r e b x v) fine agrees d R h =
      finds_either cast stores choices updates mails decide q a (role_eq q r) process.Skip (if role_eq q b then process.Recv i o r x else process.Skip) (Flying i o r e b x v)
      (λ is. finds_skip cast stores choices updates mails decide q a (Flying i o r e b x v))
      (λ other. finds_either cast stores choices updates mails decide q a (role_eq q b) (process.Recv i o r x) process.Skip (Flying i o r e b x v)
      (λ is. subst (λ y. Agrees mails (Flying i o r e y x v) → FindsHere (process.Recv i o r x) (Flying i o r e y x v)) (role_same q b is) (finds_flying i o r e x v) agrees)
      (λ out. finds_skip cast stores choices updates mails decide q a (Flying i o r e b x v)))
      d R h
  finds (Over I) fine agrees d R h = absurd (stuck_does h)
  finds (First M J) fine agrees d R h =
      finds_first cast stores choices updates mails decide q a M J (λ d R h. finds M fine.0 (agrees_first mails M J agrees) d R h)
      (finds_still cast stores choices updates mails decide q a decides J (agrees_next mails M J fine.2 agrees)) d R h
  finds (Second M N) fine agrees d R h =
      let parts = agrees_second mails M N fine.2 agrees in
      finds_second M N (λ d R h. finds M fine.0 parts.0 d R h) (λ d R h. finds N fine.1 parts.1 d R h) d R h
  finds (Both M N) fine agrees d R h =
      let parts = agrees_both mails M N fine.2 agrees in
      finds_both cast stores choices updates mails decide q a M N (λ d R h. finds M fine.0 parts.0 d R h) (λ d R h. finds N fine.1 parts.1 d R h) d R h
  finds (Held k phases M) fine agrees d R h =
      finds_held cast stores choices updates unique mails decide q a k phases M fine agrees
      (λ d R h. finds M fine.0 (agrees_inside mails k phases M fine.1.own agrees) d R h) d R h
  finds (Spent G) fine agrees d R h = absurd (stuck_does h)

-- each step of a role's place is a step of the mark, to the same place up to ended parts
module _ (cast : List Role) (stores : Role → Store) (choices : ScopeHead → BookChoice) (updates : ℕ) where
  pub found : distinct_roles cast ≡ true → (M : Mark) → Fine cast M → (mails : Key → Option Load) (decide : ScopeHead → Decision) (q : Role) → Agrees mails M
      → ((head : ScopeHead) → head.leader ≡ q → decide head ≡ decision cast updates head (choices head))
      → (a : Act) {d : Deed} {P : Process} → step q (stores q) (place cast M q) a (given_by mails decide a) ≡ Does d P
      → (N : Mark) × Steps cast stores choices updates M d N × (norm P ≡ norm (place cast N q)) × (doer_of d ≡ q)
  found unique M fine mails decide q agrees decides a {d = d} {P = P} h =
      finds cast stores choices updates unique mails decide q a decides M fine agrees d P h
