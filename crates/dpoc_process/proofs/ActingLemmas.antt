-- The part that does an act does what the process does.
use Rattle.std.proofs.Common.{◌≡◌, Bool, true, false, ◌||◌, if◌then◌else◌, Option, Some, None, refl, sym, ap, ap₂, ◌∙◌, subst, ⊎_elim, ◌⊎◌, inl, inr}
use Rattle.std.proofs.lemmas.Bool.{cases_Bool, cond-true, cond-false}
use Rattle.std.proofs.lemmas.List.Folds.{list_any-append}
use Rattle.std.specs.Option.{option_or, is_some}
use Rattle.dioc_terms.specs.declared.names.Role.{Role}
use Rattle.dioc_terms.specs.declared.entries.Act.{Act}
use Rattle.dioc_terms.specs.Equality.{act_eq}
use Rattle.dioc_terms.specs.Attempts.{Attempt, Stuck, Does, under}
use Rattle.dioc_terms.specs.Processes.{Process, Seq, Par}
use Rattle.dioc_terms.specs.Stores.{Store}
use Rattle.dpoc_process.specs.Acting.{acting, is_single}
use Rattle.dpoc_process.specs.Changes.{Change, changed, replaced}
use Rattle.process_steps.specs.Steps.{Deed, Given, ended, after, offers, is_offered, step}

-- a value that is there under a test
some_when : {A : Type 0} (t : Bool) (x : A) → is_some (if t then Some x else None) ≡ t
some_when true x = refl
some_when false x = refl

under_test : {A : Type 0} (t : Bool) {x y : A} → (if t then Some x else None) ≡ Some y → (t ≡ true)
    × (x ≡ y)
under_test true h = (refl, cc)
under_test false h = cc

either_there : {A : Type 0} (o p : Option A) → is_some (option_or o p) ≡ (is_some o || is_some p)
either_there None p = refl
either_there (Some x) p = refl

-- of two, the first that is there
first_there : {A : Type 0} (o p : Option A) {x : A} → option_or o p ≡ Some x
    → ((is_some o ≡ true) × (o ≡ Some x)) ⊎ ((is_some o ≡ false) × (p ≡ Some x))
first_there None p h = inr (refl, h)
first_there (Some y) p h = inl (refl, h)

module _ (me : Role) (a : Act) where
  -- a part does the act exactly where the process offers it
  pub acting-offered : (P : Process) → is_some (acting me a P) ≡ is_offered a (offers me P)
  acting-offered (Seq P Q) = ⊎_elim
      (λ yes. ap is_some (cond-true (ended P) _ (acting me a P) yes) ∙ acting-offered Q
      ∙ sym (ap (is_offered a) (cond-true (ended P) (offers me Q) (offers me P) yes)))
      (λ no. ap is_some (cond-false (ended P) (acting me a Q) _ no) ∙ acting-offered P
      ∙ sym (ap (is_offered a) (cond-false (ended P) (offers me Q) (offers me P) no)))
      (cases_Bool (ended P))
  acting-offered (Par P Q) =
      either_there (acting me a P) (acting me a Q) ∙ ap₂ (λ x y. x || y) (acting-offered P)
      (acting-offered Q)
      ∙ sym (list_any-append (act_eq a) (offers me P) (offers me Q))
  acting-offered P = some_when (is_offered a (offers me P)) P

  -- it is neither a sequence nor a parallel, and offers the act
  pub acting-single : (P : Process) {R : Process} → acting me a P ≡ Some R → (is_single R ≡ true)
      × (is_offered a (offers me R) ≡ true)
  acting-single (Seq P Q) h = ⊎_elim
      (λ yes. acting-single Q (sym (cond-true (ended P) _ (acting me a P) yes) ∙ h))
      (λ no. acting-single P (sym (cond-false (ended P) (acting me a Q) _ no) ∙ h))
      (cases_Bool (ended P))
  acting-single (Par P Q) h = ⊎_elim
      (λ left. acting-single P left.1)
      (λ right. acting-single Q right.1)
      (first_there (acting me a P) (acting me a Q) h)
  acting-single P {R} h = single P refl h
    where
      single : (P : Process) → is_single P ≡ true → {R : Process}
          → (if is_offered a (offers me P) then Some P else None) ≡ Some R
          → (is_single R ≡ true) × (is_offered a (offers me R) ≡ true)
      single P one h = let parts = under_test (is_offered a (offers me P)) h in (
        subst (λ X. is_single X ≡ true) parts.1 one,
        subst
            (λ X. is_offered a (offers me X) ≡ true) parts.1 parts.0,
      )

-- what a part does inside of the whole
under_does : {D A B : Type 0} (f : A → B) (m : Attempt D A) {d : D} {y : B} → under f m ≡ Does d y
    → (x : A) × (m ≡ Does d x)
under_does f Stuck h = cc
under_does f (Does e x) h = (x, ap (λ d. Does d x) (deed_same h))
  where
    deed_same : {D B : Type 0} {d e : D} {x y : B} → Does d x ≡ Does e y → d ≡ e
    deed_same h = cc

-- the test for the left part of a parallel
offered_as : (me : Role) (a : Act) (P : Process) {b : Bool} → is_some (acting me a P) ≡ b
    → is_offered a (offers me P) ≡ b
offered_as me a P h = sym (acting-offered me a P) ∙ h

module _ (me : Role) (s : Store) (a : Act) (given : Given) where
  -- the process does what its part does
  pub replaced-steps : (P : Process) (c : Change) {R : Process} {d : Deed} → acting me a P ≡ Some R
      → step me s R a given ≡ Does d (changed c R)
      → step me s P a given ≡ Does d (replaced me a P c)
  replaced-steps (Seq P Q) c {R} {d} h does = ⊎_elim
      (λ yes. cond-true (ended P) _ (under (λ p. after p Q) (step me s P a given)) yes
      ∙ replaced-steps Q c (sym (cond-true (ended P) _ (acting me a P) yes) ∙ h) does
      ∙ ap (λ x. Does d x) (sym (cond-true (ended P) _ (after (replaced me a P c) Q) yes)))
      (λ no. cond-false (ended P) (step me s Q a given) _ no
      ∙ ap (under (λ p. after p Q)) (replaced-steps P c
      (sym (cond-false (ended P) (acting me a Q) _ no) ∙ h) does)
      ∙ ap (λ x. Does d x) (sym (cond-false (ended P) (replaced me a Q c) _ no)))
      (cases_Bool (ended P))
  replaced-steps (Par P Q) c {R} {d} h does = ⊎_elim
      (λ left. cond-true (is_offered a (offers me P)) _ (under (Par P) (step me s Q a given))
      (offered_as me a P left.0)
      ∙ ap (under (λ p. Par p Q)) (replaced-steps P c left.1 does)
      ∙ ap (λ x. Does d x) (sym (cond-true (is_some (acting me a P)) _
      (Par P (replaced me a Q c)) left.0)))
      (λ right. cond-false (is_offered a (offers me P))
      (under (λ p. Par p Q) (step me s P a given)) _ (offered_as me a P right.0)
      ∙ ap (under (Par P)) (replaced-steps Q c right.1 does)
      ∙ ap (λ x. Does d x) (sym (cond-false (is_some (acting me a P))
      (Par (replaced me a P c) Q) _ right.0)))
      (first_there (acting me a P) (acting me a Q) h)
  replaced-steps P c {R} {d} h does = single P refl c refl h does
    where
      single : (P : Process) → acting me a P ≡ (if is_offered a (offers me P) then Some P else None)
          → (c : Change) → replaced me a P c ≡ changed c P
          → {R : Process} {d : Deed} → (if is_offered a (offers me P) then Some P else None)
          ≡ Some R → step me s R a given ≡ Does d (changed c R)
          → step me s P a given ≡ Does d (replaced me a P c)
      single P at c is {R} {d} h does =
          let same = (under_test (is_offered a (offers me P)) h).1 in
          subst (λ X. step me s X a given ≡ Does d (changed c X)) (sym same) does
          ∙ ap (λ x. Does d x) (sym is)

  -- where the process does the act, its part does
  pub step-acting : (P : Process) {R : Process} {d : Deed} {Q : Process} → acting me a P ≡ Some R
      → step me s P a given ≡ Does d Q
      → (x : Process) × (step me s R a given ≡ Does d x)
  step-acting (Seq P Q) h does = ⊎_elim
      (λ yes. step-acting Q (sym (cond-true (ended P) _ (acting me a P) yes) ∙ h)
      (sym (cond-true (ended P) _ (under (λ p. after p Q) (step me s P a given)) yes) ∙ does))
      (λ no. let part = under_does (λ p. after p Q) (step me s P a given)
      (sym (cond-false (ended P) (step me s Q a given) _ no) ∙ does) in
      step-acting P (sym (cond-false (ended P) (acting me a Q) _ no) ∙ h) part.1)
      (cases_Bool (ended P))
  step-acting (Par P Q) h does = ⊎_elim
      (λ left. let part = under_does (λ p. Par p Q) (step me s P a given)
      (sym (cond-true (is_offered a (offers me P)) _ (under (Par P) (step me s Q a given))
      (offered_as me a P left.0)) ∙ does) in
      step-acting P left.1 part.1)
      (λ right. let part = under_does (Par P) (step me s Q a given)
      (sym (cond-false (is_offered a (offers me P)) (under (λ p. Par p Q) (step me s P a given)) _
      (offered_as me a P right.0)) ∙ does) in
      step-acting Q right.1 part.1)
      (first_there (acting me a P) (acting me a Q) h)
  step-acting P {R} {d} {Q} h does = single P h does
    where
      single : (P : Process) {R : Process} {d : Deed} {Q : Process}
          → (if is_offered a (offers me P) then Some P else None) ≡ Some R
          → step me s P a given ≡ Does d Q → (x : Process) × (step me s R a given ≡ Does d x)
      single P {R} {d} {Q} h does =
          let same = (under_test (is_offered a (offers me P)) h).1 in
          (Q, subst (λ X. step me s X a given ≡ Does d Q) same does)
