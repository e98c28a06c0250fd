-- A step keeps a process good, where what comes to it is genuine; and a deed that chooses a rule begins the scope for which the book
-- decides so.
use Rattle.std.proofs.Common.{◌≡◌, ◌⊎◌, ℕ, List, [], ◌∷◌, true, false, Option, Some, None, refl, sym, ap, ◌∙◌, subst, inl, inr, ⊎_elim}
use Rattle.std.specs.Option.{option_or, is_some}
use Rattle.std.proofs.lemmas.Bool.{cond-true, cond-false, or_left}
use Rattle.dioc_terms.specs.declared.names.Role.{Role}
use Rattle.dioc_terms.specs.declared.names.Index.{Index}
use Rattle.dioc_terms.specs.declared.processes.Key.{Key}
use Rattle.dioc_terms.specs.declared.processes.Tag.TheVariants.{Op, Choice, Go, Begin}
use Rattle.dioc_terms.specs.declared.processes.ScopeHead.{ScopeHead}
use Rattle.dioc_terms.specs.declared.entries.Act.{Act}
use Rattle.dioc_terms.specs.declared.entries.Act.TheVariants as act
use Rattle.dioc_terms.specs.declared.entries.Chosen.TheVariants as chosen
use Rattle.dioc_terms.specs.Attempts.{Does, under}
use Rattle.dioc_terms.specs.Equality.{act_eq}
use Rattle.dioc_terms.specs.Plain.{Setting}
use Rattle.dioc_terms.specs.Processes.{Process, Skip, Send, Recv, Assign, Read, Seq, Par, IfLead, IfFollow, WhileLead, WhileFollow, ScopeLead, ScopeFollow, Tell, Gather, Nothing, More, Load, Val, Flag, Keep, Part}
use Rattle.dioc_terms.specs.Stores.{Store, next_input}
use Rattle.dioc_terms.specs.Values.{eval, is_true}
use Rattle.dpoc_process.specs.Acting.{acting}
use Rattle.dpoc_process.proofs.ActingLemmas.{acting-offered}
use Rattle.marked_laws.proofs.FoundParts.{when_act, either_does}
use Rattle.marked_laws.proofs.Equality.{act_itself}
use Rattle.marked_laws.proofs.Moves.{does_same, stuck_does, under_does}
use Rattle.process_steps.specs.Steps.{Deed, Puts, Sets, Inputs, Picks, Chooses, Given, Alone, Got, FromBook, Decision, Keeps, Replaces, ended, after, key, telling, gathering, if_leads, while_leads, while_follows, take_value, take_flag, take_any, take_begin, begin_scope, choose_scope, offers, is_offered, step}
use Rattle.role_monitor.specs.Monitoring.{update_part}
use Rattle.role_monitor.specs.declared.updates.Update.{Update}
use Rattle.role_monitor.proofs.Goods.{Genuine, Good, GoodDeed, part_good, after_good, telling_good, gathering_good, branch_good, if_leads_good, while_leads_good, while_follows_good, scope_leads_good, scope_follows_good}

nothing_there : {A : Type 0} (o : Option A) → is_some o ≡ false → o ≡ None
nothing_there None h = refl
nothing_there (Some x) h = cc

-- a part that offers nothing of an act doesn't act by it
unoffered : (me : Role) (a : Act) (P : Process) → is_offered a (offers me P) ≡ false → acting me a P ≡ None
unoffered me a P h = nothing_there (acting me a P) (acting-offered me a P ∙ h)

-- the scope that acts is the whole
whole_acts : (me : Role) (a : Act) (head : ScopeHead) (qs : List Role) (B : Process) → a ≡ act.Scope head.index → acting me a (ScopeLead head qs B) ≡ Some (ScopeLead head qs B)
whole_acts me a head qs B is =
    cond-true (is_offered a (act.Scope head.index ∷ [])) (Some (ScopeLead head qs B)) None
    (or_left (act_eq a (act.Scope head.index)) false (subst (λ x. act_eq a x ≡ true) is (act_itself a)))

module _ (me : Role) (s : Store) (a : Act) (given : Given) where
  -- which part of a parallel acted, and that the right one acts where it did
  par_acts : (P Q : Process) {d : Deed} {R : Process} → step me s (Par P Q) a given ≡ Does d R
      → ((P' : Process) × (step me s P a given ≡ Does d P') × (Par P' Q ≡ R))
      ⊎ ((Q' : Process) × (step me s Q a given ≡ Does d Q') × (Par P Q' ≡ R) × (acting me a (Par P Q) ≡ acting me a Q))
  par_acts P Q h = ⊎_elim
      (λ k. inl (under_does (λ p. Par p Q) (step me s P a given) k.1))
      (λ k. let part = under_does (Par P) (step me s Q a given) k.1 in
      inr (part.0, part.1, part.2, ap (λ o. option_or o (acting me a Q)) (unoffered me a P k.0)))
      (either_does (is_offered a (offers me P)) (under (λ p. Par p Q) (step me s P a given)) (under (Par P) (step me s Q a given)) h)

  -- which part of a sequence acted
  seq_acts : (P Q : Process) {d : Deed} {R : Process} → step me s (Seq P Q) a given ≡ Does d R
      → ((P' : Process) × (step me s P a given ≡ Does d P') × (after P' Q ≡ R) × (acting me a (Seq P Q) ≡ acting me a P))
      ⊎ ((step me s Q a given ≡ Does d R) × (acting me a (Seq P Q) ≡ acting me a Q))
  seq_acts P Q h = ⊎_elim
      (λ k. inr (k.1, cond-true (ended P) (acting me a Q) (acting me a P) k.0))
      (λ k. let part = under_does (λ p. after p Q) (step me s P a given) k.1 in
      inl (part.0, part.1, part.2, cond-false (ended P) (acting me a Q) (acting me a P) k.0))
      (either_does (ended P) (step me s Q a given) (under (λ p. after p Q) (step me s P a given)) h)

  left_acts : (P Q : Process) {R : Process} → acting me a P ≡ Some R → acting me a (Par P Q) ≡ Some R
  left_acts P Q h = ap (λ o. option_or o (acting me a Q)) h

  -- a scope that was begun, and replaced by the update of number n of the rule of that name
  pub record Begun (P : Process) (i : Index) (name : List ℕ) (n : ℕ) : Type 0 where
    pub head : ScopeHead
    pub others : List Role
    pub body : Process
    pub decide : ScopeHead → Decision
    pub part : Role → Process
    pub acts : acting me a P ≡ Some (ScopeLead head others body)
    pub index : i ≡ head.index
    pub given_is : given ≡ FromBook decide
    pub replaces : decide head ≡ Replaces name n part

  lift : (P Q : Process) {i : Index} {name : List ℕ} {n : ℕ} → ((R : Process) → acting me a P ≡ Some R → acting me a Q ≡ Some R) → Begun P i name n → Begun Q i name n
  lift P Q along g = record {
    head = g.head;
    others = g.others;
    body = g.body;
    decide = g.decide;
    part = g.part;
    acts = along (ScopeLead g.head g.others g.body) g.acts;
    index = g.index;
    given_is = g.given_is;
    replaces = g.replaces;
  }

  module _ (i : Index) (r : Role) (name : List ℕ) (n : ℕ) where
    abbrev chose : Deed
    chose = Chooses i r (chosen.Rule name n)

    takes_value_not : (k : Key) (x : List ℕ) (g : Given) {R : Process} → take_value k x g ≡ Does chose R → ⊥
    takes_value_not k x (Got (Val v)) h = cc
    takes_value_not k x _ h = cc

    takes_flag_not : (k : Key) (P Q : Process) (g : Given) {R : Process} → take_flag k P Q g ≡ Does chose R → ⊥
    takes_flag_not k P Q (Got (Flag t)) h = cc
    takes_flag_not k P Q _ h = cc

    takes_any_not : (k : Key) (P : Process) (g : Given) {R : Process} → take_any k P g ≡ Does chose R → ⊥
    takes_any_not k P (Got l) h = cc
    takes_any_not k P _ h = cc

    takes_begin_not : (leader : Role) (j : Index) (P : Process) (g : Given) {R : Process} → take_begin leader me j P g ≡ Does chose R → ⊥
    takes_begin_not leader j P (Got Keep) h = cc
    takes_begin_not leader j P (Got (Part m Q)) h = cc
    takes_begin_not leader j P _ h = cc

    does_not : {P R : Process} (d : Deed) → (d ≡ chose → ⊥) → Does d P ≡ Does chose R → ⊥
    does_not d other h = other (does_same h).0

    begun_scope : (head : ScopeHead) (qs : List Role) (P : Process) (decide : ScopeHead → Decision) (what : Decision) {R : Process} → a ≡ act.Scope head.index → given ≡ FromBook decide
        → decide head ≡ what → begin_scope me head.index qs P what ≡ Does chose R → Begun (ScopeLead head qs P) i name n
    begun_scope head qs P decide Keeps is got decides h = cc
    begun_scope head qs P decide (Replaces name' n' part) is got decides h = record {
      head = head;
      others = qs;
      body = P;
      decide = decide;
      part = part;
      acts = whole_acts me a head qs P is;
      index = cc;
      given_is = got;
      replaces = decides ∙ same (does_same h).0;
    }
      where
        same : Chooses head.index me (chosen.Rule name' n') ≡ chose → Replaces name' n' part ≡ Replaces name n part
        same e = cc

    begun_by : (head : ScopeHead) (qs : List Role) (P : Process) (g : Given) {R : Process} → a ≡ act.Scope head.index → given ≡ g
        → choose_scope me head qs P g ≡ Does chose R → Begun (ScopeLead head qs P) i name n
    begun_by head qs P (FromBook decide) is got h = begun_scope head qs P decide (decide head) is got refl h
    begun_by head qs P Alone is got h = absurd (stuck_does h)
    begun_by head qs P (Got l) is got h = absurd (stuck_does h)

    -- a deed that chooses a rule begins a scope, by what the book decides of it
    pub begun : (P : Process) {R : Process} → step me s P a given ≡ Does chose R → Begun P i name n
    begun Skip h = absurd (stuck_does h)
    begun (Send j o c e) h = absurd (does_not (Puts (key me c j (Op o)) (Val (eval e s))) (λ e. cc) (when_act a (act.Put (key me c j (Op o))) (Does (Puts (key me c j (Op o)) (Val (eval e s))) Skip) h).1)
    begun (Recv j o c x) h = absurd (takes_value_not (key c me j (Op o)) x given (when_act a (act.Take (key c me j (Op o))) (take_value (key c me j (Op o)) x given) h).1)
    begun (Assign j x e) h = absurd (does_not (Sets j me x (eval e s)) (λ e. cc) (when_act a (act.Set j) (Does (Sets j me x (eval e s)) Skip) h).1)
    begun (Read j x) h = absurd (does_not (Inputs j me x (next_input s)) (λ e. cc) (when_act a (act.Input j) (Does (Inputs j me x (next_input s)) Skip) h).1)
    begun (Seq P Q) h = ⊎_elim
        (λ k. lift P (Seq P Q) (λ R e. k.3 ∙ e) (begun P k.1))
        (λ k. lift Q (Seq P Q) (λ R e. k.1 ∙ e) (begun Q k.0))
        (seq_acts P Q h)
    begun (Par P Q) h = ⊎_elim
        (λ k. lift P (Par P Q) (λ R e. left_acts P Q e) (begun P k.1))
        (λ k. lift Q (Par P Q) (λ R e. k.3 ∙ e) (begun Q k.1))
        (par_acts P Q h)
    begun (IfLead j g qs P Q) h = absurd (does_not (Picks j me (is_true (eval g s))) (λ e. cc) (when_act a (act.Pick j) (Does (Picks j me (is_true (eval g s))) (if_leads me j qs (is_true (eval g s)) P Q)) h).1)
    begun (IfFollow j leader P Q) h = absurd (takes_flag_not (key leader me j Choice) P Q given (when_act a (act.Take (key leader me j Choice)) (take_flag (key leader me j Choice) P Q given) h).1)
    begun (WhileLead j g qs P) h =
        absurd (does_not (Picks j me (is_true (eval g s))) (λ e. cc)
        (when_act a (act.Pick j) (Does (Picks j me (is_true (eval g s))) (while_leads me j qs (is_true (eval g s)) P (WhileLead j g qs P))) h).1)
    begun (WhileFollow j leader P) h =
        absurd (takes_flag_not (key leader me j Go) (while_follows leader me j P (WhileFollow j leader P)) Skip given
        (when_act a (act.Take (key leader me j Go)) (take_flag (key leader me j Go) (while_follows leader me j P (WhileFollow j leader P)) Skip given) h).1)
    begun (ScopeLead head qs P) h = let done = when_act a (act.Scope head.index) (choose_scope me head qs P given) h in begun_by head qs P given done.0 refl done.1
    begun (ScopeFollow j leader P) h =
        absurd (takes_begin_not leader j P given (when_act a (act.Take (key leader me j Begin)) (take_begin leader me j P given) h).1)
    begun (Tell Nothing) h = absurd (stuck_does h)
    begun (Tell (More k l ms)) h = absurd (does_not (Puts k l) (λ e. cc) (when_act a (act.Put k) (Does (Puts k l) (telling ms)) h).1)
    begun (Gather []) h = absurd (stuck_does h)
    begun (Gather (k ∷ ks)) h = absurd (takes_any_not k (gathering ks) given (when_act a (act.Take k) (take_any k (gathering ks) given) h).1)

  module _ (b : Setting) (us : List Update) where
    -- the message that is taken is genuine
    abbrev pub GenuineGiven : Type 0
    GenuineGiven = (k : Key) (l : Load) → k.to ≡ me → a ≡ act.Take k → given ≡ Got l → Genuine b us k l

    -- what the book decides of the scope that is begun is in the list
    abbrev pub Answered : Process → Deed → Type 0
    Answered P d =
        (head : ScopeHead) (qs : List Role) (B : Process) (decide : ScopeHead → Decision) (name : List ℕ) (n : ℕ) (part : Role → Process)
        → acting me a P ≡ Some (ScopeLead head qs B) → given ≡ FromBook decide → decide head ≡ Replaces name n part
        → d ≡ Chooses head.index me (chosen.Rule name n) → (q : Role) → update_part b q us n ≡ Some (part q)

    abbrev pub Both : Deed → Process → Type 0
    Both d P = Good b us P × GoodDeed b us d

    done_good : {d e : Deed} {P Q : Process} → Does d P ≡ Does e Q → Both d P → Both e Q
    done_good h g = let same = does_same h in (subst (Good b us) same.1 g.0, subst (GoodDeed b us) same.0 g.1)

    value_good : (k : Key) (x : List ℕ) (g : Given) {d : Deed} {R : Process} → take_value k x g ≡ Does d R → Both d R
    value_good k x (Got (Val v)) h = done_good h (tt, tt)
    value_good k x _ h = absurd (stuck_does h)

    flag_good : (k : Key) (P Q : Process) (g : Given) {d : Deed} {R : Process} → Good b us P → Good b us Q → take_flag k P Q g ≡ Does d R → Both d R
    flag_good k P Q (Got (Flag t)) p q h = done_good h (branch_good b us t P Q p q, tt)
    flag_good k P Q _ p q h = absurd (stuck_does h)

    any_good : (k : Key) (P : Process) (g : Given) {d : Deed} {R : Process} → Good b us P → take_any k P g ≡ Does d R → Both d R
    any_good k P (Got l) p h = done_good h (p, tt)
    any_good k P _ p h = absurd (stuck_does h)

    begin_good : (leader : Role) (i : Index) (P : Process) (g : Given) {d : Deed} {R : Process} → a ≡ act.Take (key leader me i Begin) → given ≡ g → GenuineGiven → Good b us P
        → take_begin leader me i P g ≡ Does d R → Both d R
    begin_good leader i P (Got Keep) is got came p h = done_good h (scope_follows_good b us leader me i P p, tt)
    begin_good leader i P (Got (Part n R)) is got came p h =
        done_good h (scope_follows_good b us leader me i R (part_good b us me n R (came (key leader me i Begin) (Part n R) refl is got)), tt)
    begin_good leader i P _ is got came p h = absurd (stuck_does h)

    scope_good : (head : ScopeHead) (qs : List Role) (P : Process) (decide : ScopeHead → Decision) (what : Decision) {d : Deed} {R : Process} → a ≡ act.Scope head.index
        → given ≡ FromBook decide → decide head ≡ what → Answered (ScopeLead head qs P) d → Good b us P → begin_scope me head.index qs P what ≡ Does d R → Both d R
    scope_good head qs P decide Keeps is got decides answered p h = done_good h (scope_leads_good b us me qs head.index (λ q. Keep) P (λ q. tt) p, tt)
    scope_good head qs P decide (Replaces name n part) is got decides answered p h =
        let parts = answered head qs P decide name n part (whole_acts me a head qs P is) got decides (sym (does_same h).0) in
        done_good h (scope_leads_good b us me qs head.index (λ q. Part n (part q)) (part me) parts (part_good b us me n (part me) (parts me)), tt)

    choose_good : (head : ScopeHead) (qs : List Role) (P : Process) (g : Given) {d : Deed} {R : Process} → a ≡ act.Scope head.index → given ≡ g
        → Answered (ScopeLead head qs P) d → Good b us P → choose_scope me head qs P g ≡ Does d R → Both d R
    choose_good head qs P (FromBook decide) is got answered p h = scope_good head qs P decide (decide head) is got refl answered p h
    choose_good head qs P Alone is got answered p h = absurd (stuck_does h)
    choose_good head qs P (Got l) is got answered p h = absurd (stuck_does h)

    -- a step keeps the process good, and what it puts is genuine
    pub good_step : (P : Process) {d : Deed} {R : Process} → GenuineGiven → Answered P d → Good b us P → step me s P a given ≡ Does d R → Both d R
    good_step Skip came answered good h = absurd (stuck_does h)
    good_step (Send i o c e) came answered good h = done_good (when_act a (act.Put (key me c i (Op o))) (Does (Puts (key me c i (Op o)) (Val (eval e s))) Skip) h).1 (tt, tt)
    good_step (Recv i o c x) came answered good h = value_good (key c me i (Op o)) x given (when_act a (act.Take (key c me i (Op o))) (take_value (key c me i (Op o)) x given) h).1
    good_step (Assign i x e) came answered good h = done_good (when_act a (act.Set i) (Does (Sets i me x (eval e s)) Skip) h).1 (tt, tt)
    good_step (Read i x) came answered good h = done_good (when_act a (act.Input i) (Does (Inputs i me x (next_input s)) Skip) h).1 (tt, tt)
    good_step (Seq P Q) {d} {R} came answered good h = ⊎_elim
        (λ k. let both = good_step P came (λ head qs B decide name n part acts. answered head qs B decide name n part (k.3 ∙ acts)) good.0 k.1 in
        (subst (Good b us) k.2 (after_good b us k.0 Q both.0 good.1), both.1))
        (λ k. good_step Q came (λ head qs B decide name n part acts. answered head qs B decide name n part (k.1 ∙ acts)) good.1 k.0)
        (seq_acts P Q h)
    good_step (Par P Q) {d} {R} came answered good h = ⊎_elim
        (λ k. let both = good_step P came (λ head qs B decide name n part acts. answered head qs B decide name n part (left_acts P Q acts)) good.0 k.1 in
        (subst (Good b us) k.2 (both.0, good.1), both.1))
        (λ k. let both = good_step Q came (λ head qs B decide name n part acts. answered head qs B decide name n part (k.3 ∙ acts)) good.1 k.1 in
        (subst (Good b us) k.2 (good.0, both.0), both.1))
        (par_acts P Q h)
    good_step (IfLead i g qs P Q) came answered good h =
        done_good (when_act a (act.Pick i) (Does (Picks i me (is_true (eval g s))) (if_leads me i qs (is_true (eval g s)) P Q)) h).1
        (if_leads_good b us me i qs (is_true (eval g s)) P Q good.0 good.1, tt)
    good_step (IfFollow i leader P Q) came answered good h =
        flag_good (key leader me i Choice) P Q given good.0 good.1 (when_act a (act.Take (key leader me i Choice)) (take_flag (key leader me i Choice) P Q given) h).1
    good_step (WhileLead i g qs P) came answered good h =
        done_good (when_act a (act.Pick i) (Does (Picks i me (is_true (eval g s))) (while_leads me i qs (is_true (eval g s)) P (WhileLead i g qs P))) h).1
        (while_leads_good b us me i qs (is_true (eval g s)) P (WhileLead i g qs P) good good, tt)
    good_step (WhileFollow i leader P) came answered good h =
        flag_good (key leader me i Go) (while_follows leader me i P (WhileFollow i leader P)) Skip given
        (while_follows_good b us leader me i P (WhileFollow i leader P) good good) tt
        (when_act a (act.Take (key leader me i Go)) (take_flag (key leader me i Go) (while_follows leader me i P (WhileFollow i leader P)) Skip given) h).1
    good_step (ScopeLead head qs P) came answered good h =
        let done = when_act a (act.Scope head.index) (choose_scope me head qs P given) h in choose_good head qs P given done.0 refl answered good.1 done.1
    good_step (ScopeFollow i leader P) came answered good h =
        let done = when_act a (act.Take (key leader me i Begin)) (take_begin leader me i P given) h in begin_good leader i P given done.0 refl came good done.1
    good_step (Tell Nothing) came answered good h = absurd (stuck_does h)
    good_step (Tell (More k l ms)) came answered good h =
        done_good (when_act a (act.Put k) (Does (Puts k l) (telling ms)) h).1 (telling_good b us ms good.1, good.0)
    good_step (Gather []) came answered good h = absurd (stuck_does h)
    good_step (Gather (k ∷ ks)) came answered good h =
        any_good k (gathering ks) given (gathering_good b us ks) (when_act a (act.Take k) (take_any k (gathering ks) given) h).1
