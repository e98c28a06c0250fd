-- A step of a role's process in a term that nobody has begun is a step of its mark.
use Rattle.std.proofs.Common.{◌≡◌, ◌⊎◌, ℕ, suc, List, [], ◌∷◌, filter, Bool, true, false, if◌then◌else◌, Option, Some, None, refl, sym, ap, ap₂, ◌∙◌, subst, inl, inr, ⊎_elim}
use Rattle.std.proofs.lemmas.Bool.{cases_Bool, cond-true, cond-false}
use Rattle.dioc_terms.specs.declared.names.Role.{Role}
use Rattle.dioc_terms.specs.declared.names.Index.{Index}
use Rattle.dioc_terms.specs.declared.values.Value.{Value}
use Rattle.dioc_terms.specs.declared.processes.Key.{Key}
use Rattle.dioc_terms.specs.declared.processes.Tag.TheVariants.{Op, Choice, Go, Turn, Begin, End, Out}
use Rattle.dioc_terms.specs.declared.processes.ScopeHead.{ScopeHead}
use Rattle.dioc_terms.specs.declared.entries.Act.{Act}
use Rattle.dioc_terms.specs.declared.entries.Act.TheVariants as act
use Rattle.dioc_terms.specs.Equality.{role_eq, act_eq}
use Rattle.dioc_terms.specs.Expressions.{Expression}
use Rattle.dioc_terms.specs.Attempts.{Does, when}
use Rattle.dioc_terms.specs.Processes as process
use Rattle.dioc_terms.specs.Processes.{Process, Load, Val, Flag, Keep, Part, Done}
use Rattle.dioc_terms.specs.Stores.{Store, next_input}
use Rattle.dioc_terms.specs.Terms.{Term, Skip, Com, Set, Input, Seq, Par, If, While, Scope, is_in, others, head_of, stamped}
use Rattle.dioc_terms.specs.Values.{eval, is_true}
use Rattle.projection.specs.Projection.{projected}
use Rattle.process_steps.specs.Steps.{Deed, Puts, Sets, Inputs, Picks, Given, Alone, Got, FromBook, Decision, ended, after, key, tell, gather, take_value, take_flag, take_begin, begin_scope, choose_scope, if_leads, while_leads, scope_leads, step}
use Rattle.global_steps.specs.Follow.{BookChoice, KeepsBody, TakesRule}
use Rattle.network_steps.specs.Network.{decision}
use Rattle.marked_laws.proofs.Constructs.{Kind, Branch, Turning, Stopping, Scoped, all_wait, followers, untold, ungone}
use Rattle.marked_laws.proofs.Ends.{place_leader}
use Rattle.marked_laws.proofs.Equality.{role_itself, role_same}
use Rattle.marked_laws.proofs.FoundParts.{taken_by, when_act, seq_does, par_does}
use Rattle.marked_laws.proofs.Mark.{Mark, Still, First, Second, Both, Held, place}
use Rattle.marked_laws.proofs.MarkSteps.{Steps, sends, sets, reads, seq_opens, par_opens, seq_first, seq_begins, par_left, par_right, picks, turns, stops, keeps, replaces, doer_of, given_by, Agrees}
use Rattle.marked_laws.proofs.Moves.{does_same, stuck_does}
use Rattle.marked_laws.proofs.Norm.{norm, seq_norm, par_norm, norm-after, norm_of_ended}

-- nothing is pending, so nothing is taken
none_pending : {m : Option Load} {l : Load} → m ≡ None → m ≡ Some l → ⊥
none_pending h k = cc

filter_all : (xs : List Role) → filter (λ q. true) xs ≡ xs
filter_all [] = refl
filter_all (x ∷ xs) = ap (λ l. x ∷ l) (filter_all xs)

-- a sequence of first parts that may have ended, and the whole sequence
norm_after_twice : (P Q R : Process) → norm (after P (after Q R)) ≡ norm (process.Seq P (process.Seq Q R))
norm_after_twice P Q R = norm-after P (after Q R) ∙ ap (seq_norm (norm P)) (norm-after Q R)

pub norm_after_thrice : (P Q R S : Process) → norm (after P (after Q (after R S))) ≡ norm (process.Seq P (process.Seq Q (process.Seq R S)))
norm_after_thrice P Q R S = norm-after P (after Q (after R S)) ∙ ap (seq_norm (norm P)) (norm_after_twice Q R S)

module _ (cast : List Role) where
  -- at first all are still to be told, and to be waited for
  pub untold_all : (k : Kind) → untold cast k all_wait ≡ followers cast k
  untold_all k = filter_all (followers cast k)

  pub ungone_all : (k : Kind) → ungone cast k all_wait ≡ followers cast k
  ungone_all k = filter_all (followers cast k)

  projected_branch : (b : Bool) (I J : Term) (q : Role) → (if b then projected cast I q else projected cast J q) ≡ projected cast (if b then I else J) q
  projected_branch true I J q = refl
  projected_branch false I J q = refl

  module _ (stores : Role → Store) (choices : ScopeHead → BookChoice) (updates : ℕ) (mails : Key → Option Load) (decide : ScopeHead → Decision) (q : Role) (a : Act) where
    -- the step of the mark that a step of the role's process is
    abbrev pub Found : Mark → Deed → Process → Type 0
    Found M d R = (N : Mark) × Steps cast stores choices updates M d N × (norm R ≡ norm (place cast N q)) × (doer_of d ≡ q)

    -- the role's steps from this process are steps of the mark
    abbrev pub Finds : Process → Mark → Type 0
    Finds P M = (d : Deed) (R : Process) → step q (stores q) P a (given_by mails decide a) ≡ Does d R → Found M d R

    pub made : {M N : Mark} {d e : Deed} (R P : Process) → d ≡ e → R ≡ P → Steps cast stores choices updates M e N → norm P ≡ norm (place cast N q) → doer_of e ≡ q
        → Found M d R
    made {M = M} {N = N} R P is leaves steps alike who = (N, subst (λ x. Steps cast stores choices updates M x N) (sym is) steps, ap norm leaves ∙ alike, ap doer_of is ∙ who)

    -- a process by a test
    pub finds_either : (t : Bool) (P Q : Process) (M : Mark) → (t ≡ true → Finds P M) → (t ≡ false → Finds Q M) → Finds (if t then P else Q) M
    finds_either true P Q M h k = h refl
    finds_either false P Q M h k = k refl

    pub finds_skip : (M : Mark) → Finds process.Skip M
    finds_skip M d R h = absurd (stuck_does h)

    -- nothing is pending for a process that waits for a message of the leader
    follows_flag : (j : Key) (P Q : Process) → mails j ≡ None → (d : Deed) (R : Process)
        → when (act_eq a (act.Take j)) (take_flag j P Q (given_by mails decide a)) ≡ Does d R → ⊥
    follows_flag j P Q none d R h = let done = when_act a (act.Take j) (take_flag j P Q (given_by mails decide a)) h in
        took (given_by mails decide a) (λ l k. none_pending none (taken_by mails decide a j l done.0 k)) done.1
      where
        took : (given : Given) → ((l : Load) → given ≡ Got l → ⊥) → take_flag j P Q given ≡ Does d R → ⊥
        took (Got l) free h = free l refl
        took Alone free h = stuck_does h
        took (FromBook f) free h = stuck_does h

    follows_begin : (r : Role) (i : Index) (P : Process) → mails (key r q i Begin) ≡ None → (d : Deed) (R : Process)
        → when (act_eq a (act.Take (key r q i Begin))) (take_begin r q i P (given_by mails decide a)) ≡ Does d R → ⊥
    follows_begin r i P none d R h =
        let done = when_act a (act.Take (key r q i Begin)) (take_begin r q i P (given_by mails decide a)) h in
        took (given_by mails decide a) (λ l k. none_pending none (taken_by mails decide a (key r q i Begin) l done.0 k)) done.1
      where
        took : (given : Given) → ((l : Load) → given ≡ Got l → ⊥) → take_begin r q i P given ≡ Does d R → ⊥
        took (Got l) free h = free l refl
        took Alone free h = stuck_does h
        took (FromBook f) free h = stuck_does h

    receives : (j : Key) (x : List ℕ) → mails j ≡ None → (d : Deed) (R : Process)
        → when (act_eq a (act.Take j)) (take_value j x (given_by mails decide a)) ≡ Does d R → ⊥
    receives j x none d R h = let done = when_act a (act.Take j) (take_value j x (given_by mails decide a)) h in
        took (given_by mails decide a) (λ l k. none_pending none (taken_by mails decide a j l done.0 k)) done.1
      where
        took : (given : Given) → ((l : Load) → given ≡ Got l → ⊥) → take_value j x given ≡ Does d R → ⊥
        took (Got l) free h = free l refl
        took Alone free h = stuck_does h
        took (FromBook f) free h = stuck_does h

    -- the leader of a choice
    leads_if : (i : Index) (g : Expression) (I J : Term)
        → Finds (process.IfLead i g (others cast q (If i q g I J)) (projected cast I q) (projected cast J q)) (Still (If i q g I J))
    leads_if i g I J d R h =
        let b : Bool = is_true (eval g (stores q)) in
        let k : Kind = Branch i q g I J b in
        let P : Process = if_leads q i (others cast q (If i q g I J)) b (projected cast I q) (projected cast J q) in
        let done = when_act a (act.Pick i) (Does (Picks i q b) P) h in
        let same = does_same done.1 in
        made R P (sym same.0) (sym same.1) picks
        (norm-after (tell q (others cast q (If i q g I J)) i Choice (λ r. Flag b)) (if b then projected cast I q else projected cast J q)
        ∙ ap₂ (λ qs p. norm (process.Seq (tell q qs i Choice (λ r. Flag b)) p)) (sym (untold_all k)) (projected_branch b I J q)
        ∙ sym (ap norm (place_leader cast k all_wait (Still (if b then I else J)) q refl)))
        refl

    -- what the leader of a loop does by its pick
    abbrev pub Picked : Index → Expression → Term → Deed → Process → Type 0
    Picked i g I d R =
        ((is_true (eval g (stores q)) ≡ true) × (d ≡ Picks i q true) × (norm R ≡ norm (place cast (Held (Turning i q g I) all_wait (Still I)) q)))
        ⊎ ((is_true (eval g (stores q)) ≡ false) × (d ≡ Picks i q false) × (norm R ≡ norm (place cast (Held (Stopping i q g I) all_wait (Still Skip)) q)))

    picks_by : (i : Index) (g : Expression) (I : Term) (b : Bool) → is_true (eval g (stores q)) ≡ b → (d : Deed) (R : Process)
        → Does (Picks i q b) (while_leads q i (others cast q (While i q g I)) b (projected cast I q) (projected cast (While i q g I) q)) ≡ Does d R → Picked i g I d R
    picks_by i g I true is d R h =
        let k : Kind = Turning i q g I in
        let same = does_same h in
        inl (
          is,
          sym same.0,
          ap norm (sym same.1)
              ∙ norm_after_thrice (tell q (followers cast k) i Go (λ r. Flag true)) (projected cast I q) (gather q (followers cast k) i Turn) (projected cast (While i q g I) q)
              ∙ ap₂ (λ qs rs. norm (process.Seq (tell q qs i Go (λ r. Flag true)) (process.Seq (projected cast I q) (process.Seq (gather q rs i Turn) (projected cast (While i q g I) q)))))
              (sym (untold_all k)) (sym (ungone_all k))
              ∙ sym (ap norm (place_leader cast k all_wait (Still I) q refl)),
        )
    picks_by i g I false is d R h =
        let k : Kind = Stopping i q g I in
        let same = does_same h in
        inr (
          is,
          sym same.0,
          ap norm (sym same.1) ∙ ap (λ qs. norm (tell q qs i Go (λ r. Flag false))) (sym (untold_all k))
              ∙ sym (ap norm (place_leader cast k all_wait (Still Skip) q refl)),
        )

    -- the leader of a loop, where it has its pick before it
    pub picks_loop : (i : Index) (g : Expression) (I : Term) (d : Deed) (R : Process)
        → step q (stores q) (projected cast (While i q g I) q) a (given_by mails decide a) ≡ Does d R → Picked i g I d R
    picks_loop i g I d R h =
        let W : Process = process.WhileLead i g (others cast q (While i q g I)) (projected cast I q) in
        let lead : projected cast (While i q g I) q ≡ W = cond-true (role_eq q q) _ _ (role_itself q) in
        let b : Bool = is_true (eval g (stores q)) in
        let done = when_act a (act.Pick i) (Does (Picks i q b) (while_leads q i (others cast q (While i q g I)) b (projected cast I q) W))
        (sym (ap (λ P. step q (stores q) P a (given_by mails decide a)) lead) ∙ h) in
        picks_by i g I b refl d R
        (ap (λ P. Does (Picks i q b) (while_leads q i (others cast q (While i q g I)) b (projected cast I q) P)) lead ∙ done.1)

    leads_while : (i : Index) (g : Expression) (I : Term) → Finds (projected cast (While i q g I) q) (Still (While i q g I))
    leads_while i g I d R h = ⊎_elim
        (λ k. made R R k.1 refl (turns k.0) k.2 refl)
        (λ k. made R R k.1 refl (stops k.0) k.2 refl)
        (picks_loop i g I d R h)

    -- the leader of a scope by the book's answer
    leads_scope : ((head : ScopeHead) → head.leader ≡ q → decide head ≡ decision cast updates head (choices head))
        → (i : Index) (I : Term) (extra : List Role) (props : List (List ℕ × Value)) (level : ℕ)
        → Finds (process.ScopeLead (head_of cast i q I extra props level) (others cast q (Scope i q I extra props level)) (projected cast I q)) (Still (Scope i q I extra props level))
    leads_scope decides i I extra props level d R h =
        let head : ScopeHead = head_of cast i q I extra props level in
        let done = when_act a (act.Scope i) (choose_scope q head (others cast q (Scope i q I extra props level)) (projected cast I q) (given_by mails decide a)) h in
        by_answer (choices head) refl
        (ap (begin_scope q i (others cast q (Scope i q I extra props level)) (projected cast I q)) (sym (decides head refl))
        ∙ sym (ap (choose_scope q head (others cast q (Scope i q I extra props level)) (projected cast I q)) (ap (given_by mails decide) done.0))
        ∙ done.1)
      where
        begun : (begin : Role → Load) (B : Term)
            → norm (scope_leads q (others cast q (Scope i q I extra props level)) i begin (projected cast B q))
            ≡ norm (place cast (Held (Scoped i q I extra props level begin B) all_wait (Still B)) q)
        begun begin B =
            let k : Kind = Scoped i q I extra props level begin B in
            norm_after_thrice (tell q (followers cast k) i Begin begin) (projected cast B q) (gather q (followers cast k) i End) (tell q (followers cast k) i Out (λ r. Done))
            ∙ ap₂ (λ qs rs. norm (process.Seq (tell q qs i Begin begin) (process.Seq (projected cast B q) (process.Seq (gather q rs i End) (tell q (followers cast k) i Out (λ r. Done))))))
            (sym (untold_all k)) (sym (ungone_all k))
            ∙ sym (ap norm (place_leader cast k all_wait (Still B) q refl))

        by_answer : (answer : BookChoice) → choices (head_of cast i q I extra props level) ≡ answer
            → begin_scope q i (others cast q (Scope i q I extra props level)) (projected cast I q) (decision cast updates (head_of cast i q I extra props level) (choices (head_of cast i q I extra props level))) ≡ Does d R
            → Found (Still (Scope i q I extra props level)) d R
        by_answer KeepsBody is h =
            let same = does_same (sym (ap (λ x. begin_scope q i (others cast q (Scope i q I extra props level)) (projected cast I q) (decision cast updates (head_of cast i q I extra props level) x)) is) ∙ h) in
            made R _ (sym same.0) (sym same.1) (keeps is) (begun (λ r. Keep) I) refl
        by_answer (TakesRule name B) is h =
            let same = does_same (sym (ap (λ x. begin_scope q i (others cast q (Scope i q I extra props level)) (projected cast I q) (decision cast updates (head_of cast i q I extra props level) x)) is) ∙ h) in
            made R _ (sym same.0) (sym same.1) (replaces is)
            (begun (λ r. Part (suc updates) (projected cast (stamped B (suc updates) (suc level)) r)) (stamped B (suc updates) (suc level))) refl

    -- a sequence whose second part nobody has begun
    pub finds_first : (M : Mark) (J : Term) → Finds (place cast M q) M → Finds (projected cast J q) (Still J) → Finds (process.Seq (place cast M q) (projected cast J q)) (First M J)
    finds_first M J first second d R h = ⊎_elim
        (λ k. let found = second d R k.1 in (
          Second M found.0,
          seq_begins (subst (λ r. ended (place cast M r) ≡ true) (sym found.3) k.0) found.1,
          found.2 ∙ sym (ap (λ p. seq_norm p (norm (place cast found.0 q))) (norm_of_ended (place cast M q) k.0)),
          found.3,
        ))
        (λ k. let found = first d k.1 k.2 in (
          First found.0 J,
          seq_first found.1,
          ap norm (sym k.3) ∙ norm-after k.1 (projected cast J q) ∙ ap (λ p. seq_norm p (norm (projected cast J q))) found.2,
          found.3,
        ))
        (seq_does q (stores q) a (given_by mails decide a) (place cast M q) (projected cast J q) h)

    pub finds_both : (M N : Mark) → Finds (place cast M q) M → Finds (place cast N q) N → Finds (process.Par (place cast M q) (place cast N q)) (Both M N)
    finds_both M N left right d R h = ⊎_elim
        (λ k. let found = left d k.0 k.1 in
        (Both found.0 N, par_left found.1, ap norm (sym k.2) ∙ ap (λ p. par_norm p (norm (place cast N q))) found.2, found.3))
        (λ k. let found = right d k.0 k.1 in
        (Both M found.0, par_right found.1, ap norm (sym k.2) ∙ ap (par_norm (norm (place cast M q))) found.2, found.3))
        (par_does q (stores q) a (given_by mails decide a) (place cast M q) (place cast N q) h)

    module _ (decides : (head : ScopeHead) → head.leader ≡ q → decide head ≡ decision cast updates head (choices head)) where
      pub finds_still : (I : Term) → Agrees mails (Still I) → Finds (projected cast I q) (Still I)
      finds_still Skip agrees d R h = finds_skip (Still Skip) d R h
      finds_still (Com i o r e b x) agrees d R h = finds_either (role_eq q r) (process.Send i o b e) (if role_eq q b then process.Recv i o r x else process.Skip) (Still (Com i o r e b x))
          (λ is. subst (λ y. Finds (process.Send i o b e) (Still (Com i o y e b x))) (role_same q r is)
          (λ d R h. let done = when_act a (act.Put (key q b i (Op o))) (Does (Puts (key q b i (Op o)) (Val (eval e (stores q)))) process.Skip) h in
          let same = does_same done.1 in
          made R process.Skip (sym same.0) (sym same.1) sends (ap norm (sym (cond-true (role_eq q q) process.Skip _ (role_itself q)))) refl))
          (λ other. finds_either (role_eq q b) (process.Recv i o r x) process.Skip (Still (Com i o r e b x))
          (λ is d R h. absurd (receives (key r q i (Op o)) x (agrees (key r q i (Op o)) refl) d R h))
          (λ out. finds_skip (Still (Com i o r e b x)))) d R h
      finds_still (Set i x r e) agrees d R h = finds_either (role_eq q r) (process.Assign i x e) process.Skip (Still (Set i x r e))
          (λ is. subst (λ y. Finds (process.Assign i x e) (Still (Set i x y e))) (role_same q r is)
          (λ d R h. let done = when_act a (act.Set i) (Does (Sets i q x (eval e (stores q))) process.Skip) h in
          let same = does_same done.1 in
          made R process.Skip (sym same.0) (sym same.1) sets refl refl))
          (λ out. finds_skip (Still (Set i x r e))) d R h
      finds_still (Input i x r) agrees d R h = finds_either (role_eq q r) (process.Read i x) process.Skip (Still (Input i x r))
          (λ is. subst (λ y. Finds (process.Read i x) (Still (Input i x y))) (role_same q r is)
          (λ d R h. let done = when_act a (act.Input i) (Does (Inputs i q x (next_input (stores q))) process.Skip) h in
          let same = does_same done.1 in
          made R process.Skip (sym same.0) (sym same.1) reads refl refl))
          (λ out. finds_skip (Still (Input i x r))) d R h
      finds_still (Seq I J) agrees d R h =
          let found = finds_first (Still I) J (finds_still I (λ j at. agrees j (inl at))) (finds_still J (λ j at. agrees j (inr at))) d R h in
          (found.0, seq_opens found.1, found.2, found.3)
      finds_still (Par I J) agrees d R h =
          let found = finds_both (Still I) (Still J) (finds_still I (λ j at. agrees j (inl at))) (finds_still J (λ j at. agrees j (inr at))) d R h in
          (found.0, par_opens found.1, found.2, found.3)
      finds_still (If i r g I J) agrees d R h = finds_either (role_eq q r) _ _ (Still (If i r g I J))
          (λ is. subst (λ y. Finds (process.IfLead i g (others cast y (If i y g I J)) (projected cast I q) (projected cast J q)) (Still (If i y g I J))) (role_same q r is)
          (leads_if i g I J))
          (λ other. finds_either (is_in q (If i r g I J)) (process.IfFollow i r (projected cast I q) (projected cast J q)) process.Skip (Still (If i r g I J))
          (λ in_it d R h. absurd (follows_flag (key r q i Choice) (projected cast I q) (projected cast J q) (agrees (key r q i Choice) (inl refl)) d R h))
          (λ out. finds_skip (Still (If i r g I J)))) d R h
      finds_still (While i r g I) agrees d R h = ⊎_elim
          (λ is. subst (λ y. Finds (projected cast (While i y g I) q) (Still (While i y g I))) (role_same q r is) (leads_while i g I))
          (λ other. subst (λ P. Finds P (Still (While i r g I))) (sym (cond-false (role_eq q r) _ _ other))
          (finds_either (is_in q (While i r g I)) (process.WhileFollow i r (projected cast I q)) process.Skip (Still (While i r g I))
          (λ in_it d R h. absurd (follows_flag (key r q i Go) _ process.Skip (agrees (key r q i Go) (inl refl)) d R h))
          (λ out. finds_skip (Still (While i r g I)))))
          (cases_Bool (role_eq q r)) d R h
      finds_still (Scope i r I extra props level) agrees d R h = finds_either (role_eq q r) _ _ (Still (Scope i r I extra props level))
          (λ is. subst (λ y. Finds (process.ScopeLead (head_of cast i y I extra props level) (others cast y (Scope i y I extra props level)) (projected cast I q)) (Still (Scope i y I extra props level)))
          (role_same q r is) (leads_scope decides i I extra props level))
          (λ other. finds_either (is_in q (Scope i r I extra props level)) (process.ScopeFollow i r (if is_in q I then projected cast I q else process.Skip)) process.Skip (Still (Scope i r I extra props level))
          (λ in_it d R h. absurd (follows_begin r i (if is_in q I then projected cast I q else process.Skip) (agrees (key r q i Begin) (inl refl)) d R h))
          (λ out. finds_skip (Still (Scope i r I extra props level)))) d R h
