-- Processes that differ only in ended first parts: their norms are equal, and they take the same steps.
use Rattle.std.proofs.Common.{◌≡◌, [], ◌++◌, Bool, true, false, ◌&&◌, if◌then◌else◌, refl, sym, ap, ap₂, ◌∙◌}
use Rattle.std.proofs.lemmas.Bool.{and_parts, cond-true, cond-false}
use Rattle.dioc_terms.specs.declared.names.Role.{Role}
use Rattle.dioc_terms.specs.declared.entries.Act.{Act}
use Rattle.dioc_terms.specs.Attempts.{Attempt, Does, under}
use Rattle.dioc_terms.specs.Processes.{Process, Skip, Seq, Par, Tell, Gather, Nothing}
use Rattle.dioc_terms.specs.Stores.{Store}
use Rattle.process_steps.specs.Steps.{Deed, Given, ended, after, offers, is_offered, step}
use Rattle.marked_laws.proofs.Moves.{under_does, under_twice, under_same}

abbrev pub seq_norm : Process → Process → Process
seq_norm Skip Q = Q
seq_norm P Q = Seq P Q

abbrev pub par_norm : Process → Process → Process
par_norm Skip Skip = Skip
par_norm P Q = Par P Q

-- without ended parts outside of constructs
abbrev pub norm : Process → Process
norm (Seq P Q) = seq_norm (norm P) (norm Q)
norm (Par P Q) = par_norm (norm P) (norm Q)
norm (Tell Nothing) = Skip
norm (Gather []) = Skip
norm P = P

seq_norm-ended : (P Q : Process) → ended (seq_norm P Q) ≡ (ended P && ended Q)
seq_norm-ended Skip Q = refl
seq_norm-ended P Q = refl

par_norm-ended : (P Q : Process) → ended (par_norm P Q) ≡ (ended P && ended Q)
par_norm-ended Skip Skip = refl
par_norm-ended P Q = refl

pub norm-ended : (P : Process) → ended (norm P) ≡ ended P
norm-ended (Seq P Q) = seq_norm-ended (norm P) (norm Q) ∙ ap₂ (λ a b. a && b) (norm-ended P) (norm-ended Q)
norm-ended (Par P Q) = par_norm-ended (norm P) (norm Q) ∙ ap₂ (λ a b. a && b) (norm-ended P) (norm-ended Q)
norm-ended (Tell Nothing) = refl
norm-ended (Gather []) = refl
norm-ended P = refl

-- an ended process is Skip
pub norm_of_ended : (P : Process) → ended P ≡ true → norm P ≡ Skip
norm_of_ended Skip h = refl
norm_of_ended (Seq P Q) h =
    let parts = and_parts (ended P) (ended Q) h in
    ap₂ seq_norm (norm_of_ended P parts.0) (norm_of_ended Q parts.1)
norm_of_ended (Par P Q) h =
    let parts = and_parts (ended P) (ended Q) h in
    ap₂ par_norm (norm_of_ended P parts.0) (norm_of_ended Q parts.1)
norm_of_ended (Tell Nothing) h = refl
norm_of_ended (Gather []) h = refl
norm_of_ended P h = cc

-- equal norms: both have ended, or neither
pub ended_alike : (P Q : Process) → norm P ≡ norm Q → ended P ≡ ended Q
ended_alike P Q h = sym (norm-ended P) ∙ ap ended h ∙ norm-ended Q

pub norm-after : (P Q : Process) → norm (after P Q) ≡ seq_norm (norm P) (norm Q)
norm-after P Q = by_end (ended P) refl
  where
    by_end : (b : Bool) → ended P ≡ b → norm (after P Q) ≡ seq_norm (norm P) (norm Q)
    by_end true e = ap norm (cond-true (ended P) Q (Seq P Q) e) ∙ ap (λ p. seq_norm p (norm Q)) (sym (norm_of_ended P e))
    by_end false e = ap norm (cond-false (ended P) Q (Seq P Q) e)

abbrev pub normed : Attempt Deed Process → Attempt Deed Process
normed m = under norm m

seq_norm-norm : (P Q : Process) → norm (seq_norm P Q) ≡ seq_norm (norm P) (norm Q)
seq_norm-norm Skip Q = refl
seq_norm-norm P Q = refl

par_norm-norm : (P Q : Process) → norm (par_norm P Q) ≡ par_norm (norm P) (norm Q)
par_norm-norm Skip Skip = refl
par_norm-norm P Q = refl

pub norm_twice : (P : Process) → norm (norm P) ≡ norm P
norm_twice (Seq P Q) = seq_norm-norm (norm P) (norm Q) ∙ ap₂ seq_norm (norm_twice P) (norm_twice Q)
norm_twice (Par P Q) = par_norm-norm (norm P) (norm Q) ∙ ap₂ par_norm (norm_twice P) (norm_twice Q)
norm_twice (Tell Nothing) = refl
norm_twice (Gather []) = refl
norm_twice P = refl

module _ (me : Role) where
  seq_norm-offers : (P Q : Process) → offers me (seq_norm P Q) ≡ offers me (Seq P Q)
  seq_norm-offers Skip Q = refl
  seq_norm-offers P Q = refl

  par_norm-offers : (P Q : Process) → offers me (par_norm P Q) ≡ offers me (Par P Q)
  par_norm-offers Skip Skip = refl
  par_norm-offers P Q = refl

  -- a norm offers the same acts in the same order
  pub norm-offers : (P : Process) → offers me (norm P) ≡ offers me P
  norm-offers (Seq P Q) =
      seq_norm-offers (norm P) (norm Q) ∙ ap (λ b. if b then offers me (norm Q) else offers me (norm P)) (norm-ended P)
      ∙ ap₂ (λ p q. if ended P then q else p) (norm-offers P) (norm-offers Q)
  norm-offers (Par P Q) = par_norm-offers (norm P) (norm Q) ∙ ap₂ (λ p q. p ++ q) (norm-offers P) (norm-offers Q)
  norm-offers (Tell Nothing) = refl
  norm-offers (Gather []) = refl
  norm-offers P = refl

  pub offers_alike : (P Q : Process) → norm P ≡ norm Q → offers me P ≡ offers me Q
  offers_alike P Q h = sym (norm-offers P) ∙ ap (offers me) h ∙ norm-offers Q

  module _ (s : Store) (a : Act) (given : Given) where
    seq_norm-step : (P Q : Process) → step me s (seq_norm P Q) a given ≡ step me s (Seq P Q) a given
    seq_norm-step Skip Q = refl
    seq_norm-step P Q = refl

    par_norm-step : (P Q : Process) → step me s (par_norm P Q) a given ≡ step me s (Par P Q) a given
    par_norm-step Skip Skip = refl
    par_norm-step P Q = refl

    -- what a step of the first part leaves, before the second part
    seq_leaves : (P P' Q Q' : Process) → norm Q' ≡ norm Q → normed (step me s P' a given) ≡ normed (step me s P a given)
        → normed (under (λ p. after p Q') (step me s P' a given)) ≡ normed (under (λ p. after p Q) (step me s P a given))
    seq_leaves P P' Q Q' hq hp =
        under_twice (λ p. after p Q') norm (step me s P' a given)
        ∙ under_same (λ p. norm (after p Q')) (λ p. seq_norm (norm p) (norm Q)) (step me s P' a given) (λ p. norm-after p Q' ∙ ap (seq_norm (norm p)) hq)
        ∙ sym (under_twice norm (λ p. seq_norm p (norm Q)) (step me s P' a given))
        ∙ ap (under (λ p. seq_norm p (norm Q))) hp
        ∙ under_twice norm (λ p. seq_norm p (norm Q)) (step me s P a given)
        ∙ under_same (λ p. seq_norm (norm p) (norm Q)) (λ p. norm (after p Q)) (step me s P a given) (λ p. sym (norm-after p Q))
        ∙ sym (under_twice (λ p. after p Q) norm (step me s P a given))

    left_leaves : (P P' Q Q' : Process) → norm Q' ≡ norm Q → normed (step me s P' a given) ≡ normed (step me s P a given)
        → normed (under (λ p. Par p Q') (step me s P' a given)) ≡ normed (under (λ p. Par p Q) (step me s P a given))
    left_leaves P P' Q Q' hq hp =
        under_twice (λ p. Par p Q') norm (step me s P' a given)
        ∙ under_same (λ p. norm (Par p Q')) (λ p. par_norm (norm p) (norm Q)) (step me s P' a given) (λ p. ap (par_norm (norm p)) hq)
        ∙ sym (under_twice norm (λ p. par_norm p (norm Q)) (step me s P' a given))
        ∙ ap (under (λ p. par_norm p (norm Q))) hp
        ∙ under_twice norm (λ p. par_norm p (norm Q)) (step me s P a given)
        ∙ sym (under_twice (λ p. Par p Q) norm (step me s P a given))

    right_leaves : (P P' Q Q' : Process) → norm P' ≡ norm P → normed (step me s Q' a given) ≡ normed (step me s Q a given)
        → normed (under (Par P') (step me s Q' a given)) ≡ normed (under (Par P) (step me s Q a given))
    right_leaves P P' Q Q' hp hq =
        under_twice (Par P') norm (step me s Q' a given)
        ∙ under_same (λ q. norm (Par P' q)) (λ q. par_norm (norm P) (norm q)) (step me s Q' a given) (λ q. ap (λ p. par_norm p (norm q)) hp)
        ∙ sym (under_twice norm (par_norm (norm P)) (step me s Q' a given))
        ∙ ap (under (par_norm (norm P))) hq
        ∙ under_twice norm (par_norm (norm P)) (step me s Q a given)
        ∙ sym (under_twice (Par P) norm (step me s Q a given))

    -- of two tests that agree, and of parts that agree
    either_way : (b : Bool) (m n m' n' : Attempt Deed Process) → normed m ≡ normed m' → normed n ≡ normed n'
        → normed (if b then m else n) ≡ normed (if b then m' else n')
    either_way true m n m' n' h k = h
    either_way false m n m' n' h k = k

    -- a norm takes the same steps, to equal norms
    pub norm-step : (P : Process) → normed (step me s (norm P) a given) ≡ normed (step me s P a given)
    norm-step (Seq P Q) =
        ap normed (seq_norm-step (norm P) (norm Q))
        ∙ ap (λ b. normed (if b then step me s (norm Q) a given else under (λ p. after p (norm Q)) (step me s (norm P) a given))) (norm-ended P)
        ∙ either_way (ended P) (step me s (norm Q) a given) (under (λ p. after p (norm Q)) (step me s (norm P) a given)) (step me s Q a given)
        (under (λ p. after p Q) (step me s P a given)) (norm-step Q) (seq_leaves P (norm P) Q (norm Q) (norm_twice Q) (norm-step P))
    norm-step (Par P Q) =
        ap normed (par_norm-step (norm P) (norm Q))
        ∙ ap (λ acts. normed (if is_offered a acts then under (λ p. Par p (norm Q)) (step me s (norm P) a given) else under (Par (norm P)) (step me s (norm Q) a given)))
        (norm-offers P)
        ∙ either_way (is_offered a (offers me P)) (under (λ p. Par p (norm Q)) (step me s (norm P) a given)) (under (Par (norm P)) (step me s (norm Q) a given))
        (under (λ p. Par p Q) (step me s P a given)) (under (Par P) (step me s Q a given))
        (left_leaves P (norm P) Q (norm Q) (norm_twice Q) (norm-step P)) (right_leaves P (norm P) Q (norm Q) (norm_twice P) (norm-step Q))
    norm-step (Tell Nothing) = refl
    norm-step (Gather []) = refl
    norm-step P = refl

    -- Processes of equal norms: where one steps the other does so by the same deed, to an equal norm.
    pub alike_step : (P Q : Process) → norm P ≡ norm Q → {d : Deed} {P' : Process} → step me s P a given ≡ Does d P'
        → (Q' : Process) × (step me s Q a given ≡ Does d Q') × (norm P' ≡ norm Q')
    alike_step P Q h {d = d} {P' = P'} steps =
        let same : normed (step me s Q a given) ≡ Does d (norm P') = sym (norm-step Q) ∙ ap (λ p. normed (step me s p a given)) (sym h) ∙ norm-step P ∙ ap normed steps in
        let found = under_does norm (step me s Q a given) same in
        (found.0, found.1, sym found.2)
