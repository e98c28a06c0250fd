-- Each leader tells the others that its scope's head shows, in every process of a run.
use Rattle.std.proofs.Common.{◌≡◌, ℕ, List, [], ◌∷◌, Bool, true, false, if◌then◌else◌, Option, Some, None, refl, sym, subst}
use Rattle.std.specs.Option.{option_or, option_and_then}
use Rattle.dioc_terms.specs.declared.names.Role.{Role}
use Rattle.dioc_terms.specs.declared.names.Index.{Index}
use Rattle.dioc_terms.specs.declared.processes.Key.{Key}
use Rattle.dioc_terms.specs.declared.processes.Tag.{Tag}
use Rattle.dioc_terms.specs.declared.processes.Tag.TheVariants.{Op, Choice, Go, Turn, Begin, End, Out}
use Rattle.dioc_terms.specs.declared.processes.ScopeHead.{ScopeHead}
use Rattle.dioc_terms.specs.declared.entries.Act.{Act}
use Rattle.dioc_terms.specs.declared.entries.Act.TheVariants as act
use Rattle.dioc_terms.specs.Attempts.{Attempt, Stuck, Does, under, when}
use Rattle.dioc_terms.specs.Equality.{role_eq, act_eq}
use Rattle.dioc_terms.specs.EqualityLemmas.{equality-decides}
use Rattle.dioc_terms.specs.Processes.{Process, Skip, Send, Recv, Assign, Read, Seq, Par, IfLead, IfFollow, WhileLead, WhileFollow, ScopeLead, ScopeFollow, Tell, Gather, Letters, Nothing, More, Load, Val, Flag, Keep, Part, Done}
use Rattle.dioc_terms.specs.Stores.{Store, next_input}
use Rattle.dioc_terms.specs.Terms.{Term, is_in, others as others_in, head_of}
use Rattle.dioc_terms.specs.Terms as term
use Rattle.dioc_terms.specs.Values.{eval, is_true}
use Rattle.dpoc_process.specs.Acting.{Lead, acting, lead_of}
use Rattle.process_steps.specs.Steps.{Deed, Puts, Sets, Inputs, Picks, Given, Got, FromBook, Decision, Keeps, Replaces, key, ended, after, offers, is_offered, letters_to, telling, tell, gathering, gather, send_one, if_leads, while_leads, while_follows, scope_leads, scope_follows, take_value, take_flag, take_any, take_begin, begin_scope, choose_scope, step}
use Rattle.projection.specs.Projection.{projected}
use Rattle.scope_leader.proofs.PlanLemmas.{told-are_the_others}
use Rattle.scope_leader.specs.Leaders.{TellsOthers, TellsAll, AllTell, CarriesTelling, DecidesTelling, GivesTelling, SendsTelling, LeadersTell}

same_role : (q r : Role) → role_eq q r ≡ true → q ≡ r
same_role q r h = (equality-decides.role q r).0 h

same_act : (a b : Act) → act_eq a b ≡ true → a ≡ b
same_act a b h = (equality-decides.act a b).0 h

-- what a step leaves and sends
abbrev StepTells : List Role → Role → Attempt Deed Process → Type 0
StepTells cast me Stuck = Unit {0}
StepTells cast me (Does d Q) = TellsAll cast me Q × SendsTelling cast d

-- the scope that a part leads, where there is a part
abbrev FoundTells : List Role → Role → Option Process → Type 0
FoundTells cast me None = Unit {0}
FoundTells cast me (Some R) = TellsAll cast me R

module _ (cast : List Role) (me : Role) where
  tells_if : (t : Bool) (P Q : Process) → (t ≡ true → TellsAll cast me P) → TellsAll cast me Q
      → TellsAll cast me (if t then P else Q)
  tells_if true P Q p q = p refl
  tells_if false P Q p q = q

  tells_after : (P Q : Process) → TellsAll cast me P → TellsAll cast me Q
      → TellsAll cast me (after P Q)
  tells_after P Q p q = tells_if (ended P) Q (Seq P Q) (λ _. q) (p, q)

  -- messages lead no scope, but for the parts in them
  tells_telling : (ms : Letters) → AllTell cast ms → TellsAll cast me (telling ms)
  tells_telling Nothing h = tt
  tells_telling (More k l ms) h = h

  tells_gathering : (ks : List Key) → TellsAll cast me (gathering ks)
  tells_gathering [] = tt
  tells_gathering (k ∷ ks) = tt

  all_told : (others : List Role) (i : Index) (tag : Tag) (carries : Role → Load)
      → ((q : Role) → CarriesTelling cast q (carries q))
      → AllTell cast (letters_to me others i tag carries)
  all_told [] i tag carries h = tt
  all_told (q ∷ qs) i tag carries h = (h q, all_told qs i tag carries h)

  tells_told : (others : List Role) (i : Index) (tag : Tag) (carries : Role → Load)
      → ((q : Role) → CarriesTelling cast q (carries q))
      → TellsAll cast me (tell me others i tag carries)
  tells_told others i tag carries h =
      tells_telling (letters_to me others i tag carries) (all_told others i tag carries h)

  tells_turn : (i : Index) (others : List Role) (b : Bool) (P again : Process) → TellsAll cast me P
      → TellsAll cast me again → TellsAll cast me (while_leads me i others b P again)
  tells_turn i others true P again p q =
      tells_after (tell me others i Go (λ q. Flag true))
      (after P (after (gather me others i Turn) again))
      (tells_told others i Go (λ q. Flag true) (λ _. tt))
      (tells_after P (after (gather me others i Turn) again) p
      (tells_after (gather me others i Turn) again (tells_gathering _) q))
  tells_turn i others false P again p q = tells_told others i Go (λ q. Flag false) (λ _. tt)

  tells_scope : (others : List Role) (i : Index) (begin : Role → Load) (P : Process)
      → ((q : Role) → CarriesTelling cast q (begin q)) → TellsAll cast me P
      → TellsAll cast me (scope_leads me others i begin P)
  tells_scope others i begin P h p =
      let out = tell me others i Out (λ q. Done) in
      let ends = gather me others i End in
      tells_after (tell me others i Begin begin) (after P (after ends out))
      (tells_told others i Begin begin h)
      (tells_after P (after ends out) p
      (tells_after ends out (tells_gathering _) (tells_told others i Out (λ q. Done) (λ _. tt))))

  tells_follower : (leader : Role) (i : Index) (P : Process) → TellsAll cast me P
      → TellsAll cast me (scope_follows leader me i P)
  tells_follower leader i P p = tells_after P _ p ((tt, tt), tt)

  step_if : (t : Bool) (m n : Attempt Deed Process) → StepTells cast me m → StepTells cast me n
      → StepTells cast me (if t then m else n)
  step_if true m n h k = h
  step_if false m n h k = k

  step_when : (t : Bool) (m : Attempt Deed Process) → (t ≡ true → StepTells cast me m)
      → StepTells cast me (when t m)
  step_when true m h = h refl
  step_when false m h = tt

  step_done : (t : Bool) (d : Deed) (Q : Process) → TellsAll cast me Q → SendsTelling cast d
      → StepTells cast me (when t (Does d Q))
  step_done true d Q p sends = (p, sends)
  step_done false d Q p sends = tt

  step_under : (f : Process → Process) (m : Attempt Deed Process)
      → ((Q : Process) → TellsAll cast me Q → TellsAll cast me (f Q))
      → StepTells cast me m → StepTells cast me (under f m)
  step_under f Stuck around h = tt
  step_under f (Does d Q) around h = (around Q h.0, h.1)

  value_tells : (k : Key) (x : List ℕ) (given : Given) → StepTells cast me (take_value k x given)
  value_tells k x (Got (Val v)) = (tt, tt)
  value_tells k x given = tt

  flag_tells : (k : Key) (P Q : Process) (given : Given) → TellsAll cast me P → TellsAll cast me Q
      → StepTells cast me (take_flag k P Q given)
  flag_tells k P Q (Got (Flag b)) p q = (tells_if b P Q (λ _. p) q, tt)
  flag_tells k P Q given p q = tt

  any_tells : (k : Key) (P : Process) (given : Given) → TellsAll cast me P
      → StepTells cast me (take_any k P given)
  any_tells k P (Got l) p = (p, tt)
  any_tells k P given p = tt

  part_tells : (leader : Role) (i : Index) (P : Process) (given : Given) → TellsAll cast me P
      → GivesTelling cast (act.Take (key leader me i Begin)) given
      → StepTells cast me (take_begin leader me i P given)
  part_tells leader i P (Got Keep) p h = (tells_follower leader i P p, tt)
  part_tells leader i P (Got (Part n R)) p h = (tells_follower leader i R h, tt)
  part_tells leader i P given p h = tt

  begun_tells : (i : Index) (others : List Role) (P : Process) (decision : Decision)
      → TellsAll cast me P
      → DecidesTelling cast decision → StepTells cast me (begin_scope me i others P decision)
  begun_tells i others P Keeps p h = (tells_scope others i (λ q. Keep) P (λ _. tt) p, tt)
  begun_tells i others P (Replaces name n part) p h =
      (tells_scope others i (λ q. Part n (part q)) (part me) h (h me), tt)

  scope_tells : (head : ScopeHead) (others : List Role) (P : Process) (given : Given)
      → TellsAll cast me P
      → GivesTelling cast (act.Scope head.index) given
      → StepTells cast me (choose_scope me head others P given)
  scope_tells head others P (FromBook decide) p h = begun_tells head.index others P (decide head) p
      (h head)
  scope_tells head others P given p h = tt

  module _ (s : Store) (a : Act) (given : Given) (comes : GivesTelling cast a given) where
    -- what comes with the act comes with the one that is offered
    as_offered : (b : Act) → act_eq a b ≡ true → GivesTelling cast b given
    as_offered b same = subst (λ c. GivesTelling cast c given) (same_act a b same) comes

    step_tells : (P : Process) → TellsAll cast me P → StepTells cast me (step me s P a given)
    step_tells Skip p = tt
    step_tells (Send i o b e) p =
        let k = key me b i (Op o) in
        step_done (act_eq a (act.Put k)) (Puts k (Val (eval e s))) Skip tt tt
    step_tells (Recv i o from x) p =
        let k = key from me i (Op o) in
        step_when (act_eq a (act.Take k)) (take_value k x given) (λ _. value_tells k x given)
    step_tells (Assign i x e) p =
        step_done (act_eq a (act.Set i)) (Sets i me x (eval e s)) Skip tt tt
    step_tells (Read i x) p =
        step_done (act_eq a (act.Input i)) (Inputs i me x (next_input s)) Skip tt tt
    step_tells (Seq P Q) p =
        step_if (ended P) (step me s Q a given) (under (λ x. after x Q) (step me s P a given))
        (step_tells Q p.1)
        (step_under (λ x. after x Q) (step me s P a given) (λ x h. tells_after x Q h p.1)
        (step_tells P p.0))
    step_tells (Par P Q) p =
        step_if (is_offered a (offers me P)) (under (λ x. Par x Q) (step me s P a given))
        (under (Par P) (step me s Q a given))
        (step_under (λ x. Par x Q) (step me s P a given) (λ x h. (h, p.1)) (step_tells P p.0))
        (step_under (Par P) (step me s Q a given) (λ x h. (p.0, h)) (step_tells Q p.1))
    step_tells (IfLead i g others P Q) p =
        let b = is_true (eval g s) in
        step_done (act_eq a (act.Pick i)) (Picks i me b) (if_leads me i others b P Q)
        (tells_after (tell me others i Choice (λ q. Flag b)) (if b then P else Q)
        (tells_told others i Choice (λ q. Flag b) (λ _. tt)) (tells_if b P Q (λ _. p.0) p.1)) tt
    step_tells (IfFollow i leader P Q) p =
        let k = key leader me i Choice in
        step_when (act_eq a (act.Take k)) (take_flag k P Q given)
        (λ _. flag_tells k P Q given p.0 p.1)
    step_tells (WhileLead i g others P) p =
        let b = is_true (eval g s) in
        let again = WhileLead i g others P in
        step_done (act_eq a (act.Pick i)) (Picks i me b) (while_leads me i others b P again)
        (tells_turn i others b P again p p) tt
    step_tells (WhileFollow i leader P) p =
        let k = key leader me i Go in
        let again = WhileFollow i leader P in
        step_when (act_eq a (act.Take k))
        (take_flag k (while_follows leader me i P again) Skip given)
        (λ _. flag_tells k (while_follows leader me i P again) Skip given
        (tells_after P (Seq (send_one (key me leader i Turn) Done) again) p ((tt, tt), p)) tt)
    step_tells (ScopeLead head others P) p =
        step_when (act_eq a (act.Scope head.index)) (choose_scope me head others P given)
        (λ same. scope_tells head others P given p.1 (as_offered (act.Scope head.index) same))
    step_tells (ScopeFollow i leader P) p =
        let k = key leader me i Begin in
        step_when (act_eq a (act.Take k)) (take_begin leader me i P given)
        (λ same. part_tells leader i P given p (as_offered (act.Take k) same))
    step_tells (Tell Nothing) p = tt
    step_tells (Tell (More k l ms)) p =
        step_done (act_eq a (act.Put k)) (Puts k l) (telling ms) (tells_telling ms p.1) p.0
    step_tells (Gather []) p = tt
    step_tells (Gather (k ∷ ks)) p =
        step_when (act_eq a (act.Take k)) (take_any k (gathering ks) given)
        (λ _. any_tells k (gathering ks) given (tells_gathering ks))

  found_if : (t : Bool) (o p : Option Process) → FoundTells cast me o → FoundTells cast me p
      → FoundTells cast me (if t then o else p)
  found_if true o p h k = h
  found_if false o p h k = k

  found_or : (o p : Option Process) → FoundTells cast me o → FoundTells cast me p
      → FoundTells cast me (option_or o p)
  found_or None p h k = k
  found_or (Some R) p h k = h

  found_tells : (a : Act) (P : Process) → TellsAll cast me P → FoundTells cast me (acting me a P)
  found_tells a (Seq P Q) p =
      found_if (ended P) (acting me a Q) (acting me a P) (found_tells a Q p.1) (found_tells a P p.0)
  found_tells a (Par P Q) p =
      found_or (acting me a P) (acting me a Q) (found_tells a P p.0) (found_tells a Q p.1)
  found_tells a P p = found_if (is_offered a (offers me P)) (Some P) None p tt

  lead_tells : (R : Process) (scope : Lead) → TellsAll cast me R → lead_of R ≡ Some scope
      → TellsOthers cast me scope.head scope.others
  lead_tells (ScopeLead head others P) scope h led =
      subst (λ (x : Lead). TellsOthers cast me x.head x.others) (same_lead led) h.0
    where
      same_lead : {x y : Lead} → Some x ≡ Some y → x ≡ y
      same_lead k = cc
  lead_tells R scope h led = cc

  scope_found : (o : Option Process) (scope : Lead) → FoundTells cast me o
      → option_and_then lead_of o ≡ Some scope
      → TellsOthers cast me scope.head scope.others
  scope_found None scope h led = cc
  scope_found (Some R) scope h led = lead_tells R scope h led

-- what the leader does, else what another role of the construct does, else nothing
tells_construct : (cast : List Role) (me : Role) (leads named : Bool) (P Q : Process)
    → (leads ≡ true → TellsAll cast me P) → TellsAll cast me Q
    → TellsAll cast me (if leads then P else if named then Q else Skip)
tells_construct cast me true named P Q p q = p refl
tells_construct cast me false true P Q p q = q
tells_construct cast me false false P Q p q = tt

projection_tells : (cast : List Role) (I : Term) (q : Role) → TellsAll cast q (projected cast I q)
projection_tells cast term.Skip q = tt
projection_tells cast (term.Com i o a e b x) q =
    tells_construct cast q (role_eq q a) (role_eq q b) (Send i o b e) (Recv i o a x) (λ _. tt) tt
projection_tells cast (term.Set i x r e) q =
    tells_if cast q (role_eq q r) (Assign i x e) Skip (λ _. tt) tt
projection_tells cast (term.Input i x r) q =
    tells_if cast q (role_eq q r) (Read i x) Skip (λ _. tt) tt
projection_tells cast (term.Seq I J) q = (projection_tells cast I q, projection_tells cast J q)
projection_tells cast (term.Par I J) q = (projection_tells cast I q, projection_tells cast J q)
projection_tells cast (term.If i r g I J) q =
    let whole = term.If i r g I J in
    let P = projected cast I q in
    let Q = projected cast J q in
    let both : TellsAll cast q P × TellsAll cast q Q =
    (projection_tells cast I q, projection_tells cast J q) in
    tells_construct cast q (role_eq q r) (is_in q whole) (IfLead i g (others_in cast r whole) P Q)
    (IfFollow i r P Q) (λ _. both) both
projection_tells cast (term.While i r g I) q =
    let whole = term.While i r g I in
    let P = projected cast I q in
    tells_construct cast q (role_eq q r) (is_in q whole) (WhileLead i g (others_in cast r whole) P)
    (WhileFollow i r P) (λ _. projection_tells cast I q) (projection_tells cast I q)
projection_tells cast (term.Scope i r I extra props level) q =
    let whole = term.Scope i r I extra props level in
    let head = head_of cast i r I extra props level in
    let P = projected cast I q in
    let leader : (role_eq q r ≡ true) → TellsOthers cast q head (others_in cast r whole) =
    λ same. record {
      leads = sym (same_role q r same);
      tells = sym (told-are_the_others cast i r I extra props level);
    } in
    tells_construct cast q (role_eq q r) (is_in q whole) (ScopeLead head (others_in cast r whole) P)
    (ScopeFollow i r (if is_in q I then P else Skip))
    (λ same. (leader same, projection_tells cast I q))
    (tells_if cast q (is_in q I) P Skip (λ _. projection_tells cast I q) tt)

pub leaders-tell : LeadersTell
leaders-tell = record {
  projections = projection_tells;
  steps = λ cast me s P a given d Q p comes does. subst (StepTells cast me) does
      (step_tells cast me s a given comes P p);
  scopes = λ cast s a scope p led. scope_found cast s.role (acting s.role a s.process) scope
      (found_tells cast s.role a s.process p) led;
}
