-- A process that steps offers the act by which it does so, and has not ended.
use Rattle.std.proofs.Common.{◌≡◌, [], ◌∷◌, true, false, refl, ap, ◌∙◌, ⊎_elim}
use Rattle.std.proofs.lemmas.Bool.{and_left, and_right, or_left, or_right, cond-true, cond-false}
use Rattle.std.proofs.lemmas.List.Folds.{list_any-append}
use Rattle.dioc_terms.specs.declared.names.Role.{Role}
use Rattle.dioc_terms.specs.declared.processes.Tag.TheVariants.{Op, Choice, Go, Begin}
use Rattle.dioc_terms.specs.declared.entries.Act.{Act}
use Rattle.dioc_terms.specs.declared.entries.Act.TheVariants as act
use Rattle.dioc_terms.specs.Equality.{act_eq}
use Rattle.dioc_terms.specs.Attempts.{Attempt, Does, when}
use Rattle.dioc_terms.specs.Processes.{Process, Skip, Send, Recv, Assign, Read, Seq, Par, IfLead, IfFollow, WhileLead, WhileFollow, ScopeLead, ScopeFollow, Tell, Gather, Nothing, More, Val}
use Rattle.dioc_terms.specs.Stores.{Store, next_input}
use Rattle.dioc_terms.specs.Values.{eval, is_true}
use Rattle.process_steps.specs.Steps.{Deed, Puts, Sets, Inputs, Picks, Given, ended, key, telling, gathering, take_value, take_flag, take_any, take_begin, choose_scope, if_leads, while_leads, while_follows, offers, is_offered, step}
use Rattle.marked_laws.proofs.FoundParts.{seq_does, par_does}
use Rattle.marked_laws.proofs.Moves.{stuck_does, when_does}
use Rattle.marked_laws.proofs.Norm.{norm_of_ended, offers_alike}

module _ (q : Role) (s : Store) where
  -- a step's act is the one that is offered
  offered_one : (a b : Act) (m : Attempt Deed Process) {d : Deed} {R : Process} → when (act_eq a b) m ≡ Does d R → is_offered a (b ∷ []) ≡ true
  offered_one a b m h = or_left (act_eq a b) false (when_does (act_eq a b) m h).0

  -- a process offers each act by which it steps
  pub step_offered : (P : Process) (a : Act) (given : Given) {d : Deed} {R : Process} → step q s P a given ≡ Does d R → is_offered a (offers q P) ≡ true
  step_offered Skip a given h = absurd (stuck_does h)
  step_offered (Send i o b e) a given h = offered_one a (act.Put (key q b i (Op o))) (Does (Puts (key q b i (Op o)) (Val (eval e s))) Skip) h
  step_offered (Recv i o r x) a given h = offered_one a (act.Take (key r q i (Op o))) (take_value (key r q i (Op o)) x given) h
  step_offered (Assign i x e) a given h = offered_one a (act.Set i) (Does (Sets i q x (eval e s)) Skip) h
  step_offered (Read i x) a given h = offered_one a (act.Input i) (Does (Inputs i q x (next_input s)) Skip) h
  step_offered (Seq P Q) a given h = ⊎_elim
      (λ k. ap (is_offered a) (cond-true (ended P) (offers q Q) (offers q P) k.0) ∙ step_offered Q a given k.1)
      (λ k. ap (is_offered a) (cond-false (ended P) (offers q Q) (offers q P) k.0) ∙ step_offered P a given k.2)
      (seq_does q s a given P Q h)
  step_offered (Par P Q) a given h = list_any-append (act_eq a) (offers q P) (offers q Q) ∙ ⊎_elim
      (λ k. or_left (is_offered a (offers q P)) (is_offered a (offers q Q)) (step_offered P a given k.1))
      (λ k. or_right (is_offered a (offers q P)) (is_offered a (offers q Q)) (step_offered Q a given k.1))
      (par_does q s a given P Q h)
  step_offered (IfLead i g qs P Q) a given h =
      offered_one a (act.Pick i) (Does (Picks i q (is_true (eval g s))) (if_leads q i qs (is_true (eval g s)) P Q)) h
  step_offered (IfFollow i r P Q) a given h = offered_one a (act.Take (key r q i Choice)) (take_flag (key r q i Choice) P Q given) h
  step_offered (WhileLead i g qs P) a given h =
      offered_one a (act.Pick i) (Does (Picks i q (is_true (eval g s))) (while_leads q i qs (is_true (eval g s)) P (WhileLead i g qs P))) h
  step_offered (WhileFollow i r P) a given h =
      offered_one a (act.Take (key r q i Go)) (take_flag (key r q i Go) (while_follows r q i P (WhileFollow i r P)) Skip given) h
  step_offered (ScopeLead head qs P) a given h = offered_one a (act.Scope head.index) (choose_scope q head qs P given) h
  step_offered (ScopeFollow i r P) a given h = offered_one a (act.Take (key r q i Begin)) (take_begin r q i P given) h
  step_offered (Tell Nothing) a given h = absurd (stuck_does h)
  step_offered (Tell (More k l ms)) a given h = offered_one a (act.Put k) (Does (Puts k l) (telling ms)) h
  step_offered (Gather []) a given h = absurd (stuck_does h)
  step_offered (Gather (k ∷ ks)) a given h = offered_one a (act.Take k) (take_any k (gathering ks) given) h

  -- a process that steps hasn't ended
  pub step_unended : (P : Process) (a : Act) (given : Given) {d : Deed} {R : Process} → step q s P a given ≡ Does d R → ended P ≡ false
  step_unended Skip a given h = absurd (stuck_does h)
  step_unended (Seq P Q) a given h = ⊎_elim
      (λ k. and_right (ended P) (ended Q) (step_unended Q a given k.1)) (λ k. and_left (ended P) (ended Q) k.0) (seq_does q s a given P Q h)
  step_unended (Par P Q) a given h = ⊎_elim
      (λ k. and_left (ended P) (ended Q) (step_unended P a given k.1)) (λ k. and_right (ended P) (ended Q) (step_unended Q a given k.1)) (par_does q s a given P Q h)
  step_unended (Tell Nothing) a given h = absurd (stuck_does h)
  step_unended (Gather []) a given h = absurd (stuck_does h)
  step_unended P a given h = refl

-- an ended process offers nothing
pub ended_offers : (q : Role) (P : Process) → ended P ≡ true → offers q P ≡ []
ended_offers q P h = offers_alike q P Skip (norm_of_ended P h)
