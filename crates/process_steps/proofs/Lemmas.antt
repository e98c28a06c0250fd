-- What a process offers is what it can do.
use Rattle.std.proofs.Common.{◌≡◌, ℕ, List, [], ◌∷◌, Bool, true, false, ◌||◌, if◌then◌else◌, Some, refl, sym, ap, ap₂, ◌∙◌, subst, ⊎_elim}
use Rattle.std.proofs.lemmas.Bool.{and_parts, both_ways, false_from_ne_true, cases_Bool, cond-true, cond-false, or_left, or_right}
use Rattle.std.proofs.lemmas.List.Folds.{list_any-append}
use Rattle.dioc_terms.specs.declared.names.Role.{Role}
use Rattle.dioc_terms.specs.declared.names.Index.{Index}
use Rattle.dioc_terms.specs.declared.processes.Key.{Key}
use Rattle.dioc_terms.specs.declared.processes.Tag.TheVariants.{Op, Choice, Go, Begin}
use Rattle.dioc_terms.specs.declared.processes.ScopeHead.{ScopeHead}
use Rattle.dioc_terms.specs.declared.entries.Act.{Act}
use Rattle.dioc_terms.specs.declared.entries.Act.TheVariants as act
use Rattle.dioc_terms.specs.Equality.{act_eq}
use Rattle.dioc_terms.specs.EqualityLemmas.{equality-decides}
use Rattle.dioc_terms.specs.Messages.{act_of}
use Rattle.dioc_terms.specs.Attempts.{Attempt, Stuck, Does, under, when}
use Rattle.dioc_terms.specs.Processes.{Process, Skip, Send, Recv, Assign, Read, Seq, Par, IfLead, IfFollow, WhileLead, WhileFollow, ScopeLead, ScopeFollow, Tell, Gather, Nothing, More, Val, Flag, Keep, Part}
use Rattle.dioc_terms.specs.Stores.{Store}
use Rattle.process_steps.specs.Laws.{given_fits, is_done, OffersAreSteps, StepsShowTheirActs}
use Rattle.process_steps.specs.Steps.{Deed, Given, Got, FromBook, Decision, Keeps, Replaces, entry_of, key, ended, after, offers, is_offered, take_value, take_flag, take_any, take_begin, begin_scope, choose_scope, while_follows, gathering, step}

done_under : {D A B : Type 0} (f : A → B) (m : Attempt D A) → is_done (under f m) ≡ is_done m
done_under f Stuck = refl
done_under f (Does d a) = refl

done_if : {D A : Type 0} (t : Bool) (m n : Attempt D A) → is_done (if t then m else n) ≡ (if t then is_done m else is_done n)
done_if true m n = refl
done_if false m n = refl

act_same : (a b : Act) → act_eq a b ≡ true → a ≡ b
act_same a b h = (equality-decides.act a b).0 h

or_none : (b : Bool) → b ≡ (b || false)
or_none true = refl
or_none false = refl

-- an act that needs nothing from outside
free : {D A : Type 0} (t : Bool) (d : D) (x : A) → is_done (when t (Does d x)) ≡ (t || false)
free true d x = refl
free false d x = refl

-- an act that takes, with what fits it
taken : {D A : Type 0} (t : Bool) (m : Attempt D A) → (t ≡ true → is_done m ≡ true) → is_done (when t m) ≡ (t || false)
taken true m h = h refl
taken false m h = refl

module _ (from me : Role) (i : Index) where
  value_done : (o x : List ℕ) (given : Given) → given_fits (act.Take (key from me i (Op o))) given ≡ true
      → is_done (take_value (key from me i (Op o)) x given) ≡ true
  value_done o x (Got (Val v)) h = refl
  value_done o x given h = cc

  choice_done : (P Q : Process) (given : Given) → given_fits (act.Take (key from me i Choice)) given ≡ true
      → is_done (take_flag (key from me i Choice) P Q given) ≡ true
  choice_done P Q (Got (Flag b)) h = refl
  choice_done P Q given h = cc

  go_done : (P Q : Process) (given : Given) → given_fits (act.Take (key from me i Go)) given ≡ true
      → is_done (take_flag (key from me i Go) P Q given) ≡ true
  go_done P Q (Got (Flag b)) h = refl
  go_done P Q given h = cc

  begin_done : (P : Process) (given : Given) → given_fits (act.Take (key from me i Begin)) given ≡ true → is_done (take_begin from me i P given) ≡ true
  begin_done P (Got Keep) h = refl
  begin_done P (Got (Part n R)) h = refl
  begin_done P given h = cc

any_done : (k : Key) (P : Process) (given : Given) → given_fits (act.Take k) given ≡ true → is_done (take_any k P given) ≡ true
any_done k P (Got l) h = refl
any_done k P given h = cc

scope_done : (me : Role) (head : ScopeHead) (others : List Role) (P : Process) (given : Given) → given_fits (act.Scope head.index) given ≡ true
    → is_done (choose_scope me head others P given) ≡ true
scope_done me head others P (FromBook decide) h = begun (decide head)
  where
    begun : (decision : Decision) → is_done (begin_scope me head.index others P decision) ≡ true
    begun Keeps = refl
    begun (Replaces name n part) = refl
scope_done me head others P given h = cc

-- the parts of a move under a test
when_done : {D A : Type 0} (t : Bool) (m : Attempt D A) → is_done (when t m) ≡ true → (t || false) ≡ true
when_done true m h = refl
when_done false m h = h

when_parts : {D A : Type 0} (t : Bool) (m : Attempt D A) {d : D} {x : A} → when t m ≡ Does d x → (t ≡ true) × (m ≡ Does d x)
when_parts true m h = (refl, h)
when_parts false m h = cc

under_parts : {D A B : Type 0} (f : A → B) (m : Attempt D A) {d : D} {y : B} → under f m ≡ Does d y → (x : A) × (m ≡ Does d x)
under_parts f Stuck h = cc
under_parts f (Does e x) h = (x, ap (λ d. Does d x) (deed_same h))
  where
    deed_same : {D B : Type 0} {d e : D} {x y : B} → Does d x ≡ Does e y → d ≡ e
    deed_same h = cc

module _ (me : Role) (s : Store) (a : Act) (given : Given) where
  -- what fits the act fits the one that is offered
  as_offered : (b : Act) → given_fits a given ≡ true → act_eq a b ≡ true → given_fits b given ≡ true
  as_offered b fits same = subst (λ c. given_fits c given ≡ true) (act_same a b same) fits

  exactly : given_fits a given ≡ true → (P : Process) → is_done (step me s P a given) ≡ is_offered a (offers me P)
  exactly fits Skip = refl
  exactly fits (Send i o b e) = free _ _ _
  exactly fits (Recv i o from x) =
      taken _ _ (λ same. value_done from me i o x given (as_offered (act.Take (key from me i (Op o))) fits same))
  exactly fits (Assign i x e) = free _ _ _
  exactly fits (Read i x) = free _ _ _
  exactly fits (Seq P Q) = ⊎_elim
      (λ yes. ap is_done (cond-true (ended P) _ (under (λ p. after p Q) (step me s P a given)) yes) ∙ exactly fits Q
      ∙ sym (ap (is_offered a) (cond-true (ended P) (offers me Q) (offers me P) yes)))
      (λ no. ap is_done (cond-false (ended P) (step me s Q a given) _ no) ∙ done_under (λ p. after p Q) (step me s P a given) ∙ exactly fits P
      ∙ sym (ap (is_offered a) (cond-false (ended P) (offers me Q) (offers me P) no)))
      (cases_Bool (ended P))
  exactly fits (Par P Q) =
      done_if (is_offered a (offers me P)) (under (λ p. Par p Q) (step me s P a given)) (under (Par P) (step me s Q a given))
      ∙ ap₂ (λ x y. if is_offered a (offers me P) then x else y)
      (done_under (λ p. Par p Q) (step me s P a given) ∙ exactly fits P) (done_under (Par P) (step me s Q a given) ∙ exactly fits Q)
      ∙ either (is_offered a (offers me P)) (is_offered a (offers me Q)) ∙ sym (list_any-append (act_eq a) (offers me P) (offers me Q))
    where
      either : (x y : Bool) → (if x then x else y) ≡ (x || y)
      either true y = refl
      either false y = refl
  exactly fits (IfLead i g others P Q) = free _ _ _
  exactly fits (IfFollow i leader P Q) = taken _ _ (λ same. choice_done leader me i P Q given (as_offered (act.Take (key leader me i Choice)) fits same))
  exactly fits (WhileLead i g others P) = free _ _ _
  exactly fits (WhileFollow i leader P) =
      taken _ _ (λ same. go_done leader me i (while_follows leader me i P (WhileFollow i leader P)) Skip given (as_offered (act.Take (key leader me i Go)) fits same))
  exactly fits (ScopeLead head others P) = taken _ _ (λ same. scope_done me head others P given (as_offered (act.Scope head.index) fits same))
  exactly fits (ScopeFollow i leader P) = taken _ _ (λ same. begin_done leader me i P given (as_offered (act.Take (key leader me i Begin)) fits same))
  exactly fits (Tell Nothing) = refl
  exactly fits (Tell (More k l ms)) = free _ _ _
  exactly fits (Gather []) = refl
  exactly fits (Gather (k ∷ ks)) = taken _ _ (λ same. any_done k (gathering ks) given (as_offered (act.Take k) fits same))

  only : (P : Process) → is_done (step me s P a given) ≡ true → is_offered a (offers me P) ≡ true
  only Skip h = h
  only (Send i o b e) h = when_done _ _ h
  only (Recv i o from x) h = when_done _ _ h
  only (Assign i x e) h = when_done _ _ h
  only (Read i x) h = when_done _ _ h
  only (Seq P Q) h = ⊎_elim
      (λ yes. ap (is_offered a) (cond-true (ended P) (offers me Q) (offers me P) yes)
      ∙ only Q (sym (ap is_done (cond-true (ended P) _ (under (λ p. after p Q) (step me s P a given)) yes)) ∙ h))
      (λ no. ap (is_offered a) (cond-false (ended P) (offers me Q) (offers me P) no)
      ∙ only P (sym (ap is_done (cond-false (ended P) (step me s Q a given) _ no) ∙ done_under (λ p. after p Q) (step me s P a given)) ∙ h))
      (cases_Bool (ended P))
  only (Par P Q) h = list_any-append (act_eq a) (offers me P) (offers me Q) ∙ ⊎_elim
      (λ yes. or_left _ (is_offered a (offers me Q)) yes)
      (λ no. or_right (is_offered a (offers me P)) _ (only Q
      (sym (ap is_done (cond-false (is_offered a (offers me P)) (under (λ p. Par p Q) (step me s P a given)) _ no) ∙ done_under (Par P) (step me s Q a given)) ∙ h)))
      (cases_Bool (is_offered a (offers me P)))
  only (IfLead i g others P Q) h = when_done _ _ h
  only (IfFollow i leader P Q) h = when_done _ _ h
  only (WhileLead i g others P) h = when_done _ _ h
  only (WhileFollow i leader P) h = when_done _ _ h
  only (ScopeLead head others P) h = when_done _ _ h
  only (ScopeFollow i leader P) h = when_done _ _ h
  only (Tell Nothing) h = h
  only (Tell (More k l ms)) h = when_done _ _ h
  only (Gather []) h = h
  only (Gather (k ∷ ks)) h = when_done _ _ h

  ended_offers : (P : Process) → ended P ≡ true → is_offered a (offers me P) ≡ false
  ended_offers (Seq P Q) h =
      let parts = and_parts (ended P) (ended Q) h in
      ap (is_offered a) (cond-true (ended P) (offers me Q) (offers me P) parts.0) ∙ ended_offers Q parts.1
  ended_offers (Par P Q) h =
      let parts = and_parts (ended P) (ended Q) h in
      list_any-append (act_eq a) (offers me P) (offers me Q) ∙ ap₂ (λ x y. x || y) (ended_offers P parts.0) (ended_offers Q parts.1)
  ended_offers Skip h = refl
  ended_offers (Tell Nothing) h = refl
  ended_offers (Gather []) h = refl
  ended_offers P h = cc

  ended_stuck : (P : Process) → ended P ≡ true → is_done (step me s P a given) ≡ false
  ended_stuck P h = false_from_ne_true _ (λ done. both_ways _ (ended_offers P h) (only P done))

same_deed : {d e : Deed} {x y : Process} → Does d x ≡ Does e y → d ≡ e
same_deed k = cc

-- what is done is the act
shown : (a b : Act) (m : Attempt Deed Process) {d : Deed} {P : Process} → when (act_eq a b) m ≡ Does d P
    → (m ≡ Does d P → act_of (entry_of d) ≡ Some b) → act_of (entry_of d) ≡ Some a
shown a b m h k = let parts = when_parts (act_eq a b) m h in k parts.1 ∙ ap Some (sym (act_same a b parts.0))

shown_free : (a b : Act) (e : Deed) (x : Process) → act_of (entry_of e) ≡ Some b → {d : Deed} {P : Process} → when (act_eq a b) (Does e x) ≡ Does d P
    → act_of (entry_of d) ≡ Some a
shown_free a b e x is h = shown a b (Does e x) h (λ k. ap (λ c. act_of (entry_of c)) (sym (same_deed k)) ∙ is)

module _ (k : Key) where
  value_shows : (x : List ℕ) (given : Given) (d : Deed) (P' : Process) → take_value k x given ≡ Does d P' → act_of (entry_of d) ≡ Some (act.Take k)
  value_shows x (Got (Val v)) d P' h = ap (λ c. act_of (entry_of c)) (sym (same_deed h))
  value_shows x given d P' h = cc

  flag_shows : (P Q : Process) (given : Given) (d : Deed) (P' : Process) → take_flag k P Q given ≡ Does d P' → act_of (entry_of d) ≡ Some (act.Take k)
  flag_shows P Q (Got (Flag b)) d P' h = ap (λ c. act_of (entry_of c)) (sym (same_deed h))
  flag_shows P Q given d P' h = cc

  any_shows : (P : Process) (given : Given) (d : Deed) (P' : Process) → take_any k P given ≡ Does d P' → act_of (entry_of d) ≡ Some (act.Take k)
  any_shows P (Got l) d P' h = ap (λ c. act_of (entry_of c)) (sym (same_deed h))
  any_shows P given d P' h = cc

begin_shows : (leader me : Role) (i : Index) (P : Process) (given : Given) (d : Deed) (P' : Process) → take_begin leader me i P given ≡ Does d P'
    → act_of (entry_of d) ≡ Some (act.Take (key leader me i Begin))
begin_shows leader me i P (Got Keep) d P' h = ap (λ c. act_of (entry_of c)) (sym (same_deed h))
begin_shows leader me i P (Got (Part n R)) d P' h = ap (λ c. act_of (entry_of c)) (sym (same_deed h))
begin_shows leader me i P given d P' h = cc

scope_shows : (me : Role) (head : ScopeHead) (others : List Role) (P : Process) (given : Given) (d : Deed) (P' : Process)
    → choose_scope me head others P given ≡ Does d P' → act_of (entry_of d) ≡ Some (act.Scope head.index)
scope_shows me head others P (FromBook decide) d P' h = begun (decide head) h
  where
    begun : (decision : Decision) → begin_scope me head.index others P decision ≡ Does d P' → act_of (entry_of d) ≡ Some (act.Scope head.index)
    begun Keeps k = ap (λ c. act_of (entry_of c)) (sym (same_deed k))
    begun (Replaces name n part) k = ap (λ c. act_of (entry_of c)) (sym (same_deed k))
scope_shows me head others P given d P' h = cc

pub steps-show_their_acts : StepsShowTheirActs
steps-show_their_acts me s Skip a given d P' h = cc
steps-show_their_acts me s (Send i o b e) a given d P' h = shown_free a _ _ _ refl h
steps-show_their_acts me s (Recv i o from x) a given d P' h = shown a _ _ h (value_shows (key from me i (Op o)) x given d P')
steps-show_their_acts me s (Assign i x e) a given d P' h = shown_free a _ _ _ refl h
steps-show_their_acts me s (Read i x) a given d P' h = shown_free a _ _ _ refl h
steps-show_their_acts me s (Seq P Q) a given d P' h = ⊎_elim
    (λ yes. steps-show_their_acts me s Q a given d P' (sym (cond-true (ended P) _ (under (λ p. after p Q) (step me s P a given)) yes) ∙ h))
    (λ no.
    let first = under_parts (λ p. after p Q) (step me s P a given) (sym (cond-false (ended P) (step me s Q a given) _ no) ∙ h) in
    steps-show_their_acts me s P a given d first.0 first.1)
    (cases_Bool (ended P))
steps-show_their_acts me s (Par P Q) a given d P' h = ⊎_elim
    (λ yes.
    let left = under_parts (λ p. Par p Q) (step me s P a given)
    (sym (cond-true (is_offered a (offers me P)) _ (under (Par P) (step me s Q a given)) yes) ∙ h) in
    steps-show_their_acts me s P a given d left.0 left.1)
    (λ no.
    let right = under_parts (Par P) (step me s Q a given)
    (sym (cond-false (is_offered a (offers me P)) (under (λ p. Par p Q) (step me s P a given)) _ no) ∙ h) in
    steps-show_their_acts me s Q a given d right.0 right.1)
    (cases_Bool (is_offered a (offers me P)))
steps-show_their_acts me s (IfLead i g others P Q) a given d P' h = shown_free a _ _ _ refl h
steps-show_their_acts me s (IfFollow i leader P Q) a given d P' h = shown a _ _ h (flag_shows (key leader me i Choice) P Q given d P')
steps-show_their_acts me s (WhileLead i g others P) a given d P' h = shown_free a _ _ _ refl h
steps-show_their_acts me s (WhileFollow i leader P) a given d P' h =
    shown a _ _ h (flag_shows (key leader me i Go) (while_follows leader me i P (WhileFollow i leader P)) Skip given d P')
steps-show_their_acts me s (ScopeLead head others P) a given d P' h = shown a _ _ h (scope_shows me head others P given d P')
steps-show_their_acts me s (ScopeFollow i leader P) a given d P' h = shown a _ _ h (begin_shows leader me i P given d P')
steps-show_their_acts me s (Tell Nothing) a given d P' h = cc
steps-show_their_acts me s (Tell (More k l ms)) a given d P' h = shown_free a _ _ _ refl h
steps-show_their_acts me s (Gather []) a given d P' h = cc
steps-show_their_acts me s (Gather (k ∷ ks)) a given d P' h = shown a _ _ h (any_shows k (gathering ks) given d P')

pub offers-are_steps : OffersAreSteps
offers-are_steps = record {
  exactly = λ me s P a given fits. exactly me s a given fits P;
  only = λ me s P a given h. only me s a given P h;
  ended = λ me s P a given h. ended_stuck me s a given P h;
}
