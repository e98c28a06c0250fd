-- What a process gathers: the ends of parts alone, in every process of a monitor. So a message that doesn't fit its tag can't be taken.
use Rattle.std.proofs.Common.{◌≡◌, ℕ, List, [], ◌∷◌, map, Bool, true, false, ◌&&◌, if◌then◌else◌, refl, sym, ap, ◌∙◌, subst}
use Rattle.std.specs.List.{list_all}
use Rattle.std.proofs.lemmas.Bool.{and_parts, false≢true}
use Rattle.dioc_terms.specs.declared.names.Role.{Role}
use Rattle.dioc_terms.specs.declared.names.Index.{Index}
use Rattle.dioc_terms.specs.declared.processes.Key.{Key}
use Rattle.dioc_terms.specs.declared.processes.Tag.{Tag}
use Rattle.dioc_terms.specs.declared.processes.Tag.TheVariants.{Op, Choice, Go, Turn, Begin, End, Out}
use Rattle.dioc_terms.specs.declared.processes.ScopeHead.{ScopeHead}
use Rattle.dioc_terms.specs.declared.entries.Act.{Act}
use Rattle.dioc_terms.specs.declared.entries.Act.TheVariants as act
use Rattle.dioc_terms.specs.Attempts.{Attempt, Stuck, Does, under, when}
use Rattle.dioc_terms.specs.Equality.{role_eq, act_eq}
use Rattle.dioc_terms.specs.EqualityLemmas.{equality-decides}
use Rattle.dioc_terms.specs.Processes.{Process, Skip, Send, Recv, Assign, Read, Seq, Par, IfLead, IfFollow, WhileLead, WhileFollow, ScopeLead, ScopeFollow, Tell, Gather, Letters, Nothing, More, Load, Val, Flag, Keep, Part, Done}
use Rattle.dioc_terms.specs.Stores.{Store, next_input}
use Rattle.dioc_terms.specs.Terms.{Term, is_in, others as others_in, head_of}
use Rattle.dioc_terms.specs.Terms as term
use Rattle.dioc_terms.specs.Values.{eval, is_true}
use Rattle.process_steps.specs.Laws.{is_done, load_fits}
use Rattle.process_steps.specs.Steps.{Deed, Puts, Sets, Inputs, Picks, Given, Alone, Got, FromBook, Decision, Keeps, Replaces, key, ended, after, offers, is_offered, letters_to, telling, tell, gathering, gather, send_one, if_leads, while_leads, while_follows, scope_leads, scope_follows, take_value, take_flag, take_any, take_begin, begin_scope, choose_scope, step}
use Rattle.projection.specs.Projection.{projected}

abbrev pub is_end_tag : Tag → Bool
is_end_tag Turn = true
is_end_tag End = true
is_end_tag Out = true
is_end_tag _ = false

abbrev pub are_ends : List Key → Bool
are_ends ks = list_all (λ (k : Key). is_end_tag k.tag) ks

abbrev mutual
  pub GathersEnds : Process → Type 0
  GathersEnds (Seq P Q) = GathersEnds P × GathersEnds Q
  GathersEnds (Par P Q) = GathersEnds P × GathersEnds Q
  GathersEnds (IfLead i g others P Q) = GathersEnds P × GathersEnds Q
  GathersEnds (IfFollow i leader P Q) = GathersEnds P × GathersEnds Q
  GathersEnds (WhileLead i g others P) = GathersEnds P
  GathersEnds (WhileFollow i leader P) = GathersEnds P
  GathersEnds (ScopeLead head others P) = GathersEnds P
  GathersEnds (ScopeFollow i leader P) = GathersEnds P
  GathersEnds (Tell ms) = AllCarry ms
  GathersEnds (Gather ks) = are_ends ks ≡ true
  GathersEnds _ = Unit {0}

  -- so it is in the parts that messages carry
  pub AllCarry : Letters → Type 0
  AllCarry Nothing = Unit {0}
  AllCarry (More k l ms) = CarriesEnds l × AllCarry ms

  pub CarriesEnds : Load → Type 0
  CarriesEnds (Part n P) = GathersEnds P
  CarriesEnds _ = Unit {0}

-- so it is with what comes from outside
abbrev pub DecidesEnds : Decision → Type 0
DecidesEnds (Replaces name n part) = (q : Role) → GathersEnds (part q)
DecidesEnds _ = Unit {0}

abbrev pub GivesEnds : Act → Given → Type 0
GivesEnds (act.Take k) (Got l) = CarriesEnds l
GivesEnds a (FromBook decide) = (head : ScopeHead) → DecidesEnds (decide head)
GivesEnds a _ = Unit {0}

abbrev pub SendsEnds : Deed → Type 0
SendsEnds (Puts k l) = CarriesEnds l
SendsEnds _ = Unit {0}

same_act : (a b : Act) → act_eq a b ≡ true → a ≡ b
same_act a b h = (equality-decides.act a b).0 h

same_taken : {k j : Key} → act.Take k ≡ act.Take j → k ≡ j
same_taken h = cc

abbrev StepEnds : Attempt Deed Process → Type 0
StepEnds Stuck = Unit {0}
StepEnds (Does d Q) = GathersEnds Q × SendsEnds d

module _ (me : Role) where
  ends_if : (t : Bool) (P Q : Process) → GathersEnds P → GathersEnds Q → GathersEnds (if t then P else Q)
  ends_if true P Q p q = p
  ends_if false P Q p q = q

  ends_after : (P Q : Process) → GathersEnds P → GathersEnds Q → GathersEnds (after P Q)
  ends_after P Q p q = ends_if (ended P) Q (Seq P Q) q (p, q)

  ends_telling : (ms : Letters) → AllCarry ms → GathersEnds (telling ms)
  ends_telling Nothing h = tt
  ends_telling (More k l ms) h = h

  ends_gathering : (ks : List Key) → are_ends ks ≡ true → GathersEnds (gathering ks)
  ends_gathering [] h = tt
  ends_gathering (k ∷ ks) h = h

  are_gathered : (others : List Role) (i : Index) (tag : Tag) → is_end_tag tag ≡ true → are_ends (map (λ q. key q me i tag) others) ≡ true
  are_gathered [] i tag h = refl
  are_gathered (q ∷ qs) i tag h = ap (λ t. t && are_ends (map (λ q. key q me i tag) qs)) h ∙ are_gathered qs i tag h

  ends_gathered : (others : List Role) (i : Index) (tag : Tag) → is_end_tag tag ≡ true → GathersEnds (gather me others i tag)
  ends_gathered others i tag h = ends_gathering (map (λ q. key q me i tag) others) (are_gathered others i tag h)

  all_told : (others : List Role) (i : Index) (tag : Tag) (carries : Role → Load) → ((q : Role) → CarriesEnds (carries q)) → AllCarry (letters_to me others i tag carries)
  all_told [] i tag carries h = tt
  all_told (q ∷ qs) i tag carries h = (h q, all_told qs i tag carries h)

  ends_told : (others : List Role) (i : Index) (tag : Tag) (carries : Role → Load) → ((q : Role) → CarriesEnds (carries q)) → GathersEnds (tell me others i tag carries)
  ends_told others i tag carries h = ends_telling (letters_to me others i tag carries) (all_told others i tag carries h)

  ends_turn : (i : Index) (others : List Role) (b : Bool) (P again : Process) → GathersEnds P → GathersEnds again → GathersEnds (while_leads me i others b P again)
  ends_turn i others true P again p q =
      ends_after (tell me others i Go (λ q. Flag true)) (after P (after (gather me others i Turn) again))
      (ends_told others i Go (λ q. Flag true) (λ _. tt))
      (ends_after P (after (gather me others i Turn) again) p
      (ends_after (gather me others i Turn) again (ends_gathered others i Turn refl) q))
  ends_turn i others false P again p q = ends_told others i Go (λ q. Flag false) (λ _. tt)

  ends_scope : (others : List Role) (i : Index) (begin : Role → Load) (P : Process) → ((q : Role) → CarriesEnds (begin q)) → GathersEnds P → GathersEnds (scope_leads me others i begin P)
  ends_scope others i begin P h p =
      let out = tell me others i Out (λ q. Done) in
      let ends = gather me others i End in
      ends_after (tell me others i Begin begin) (after P (after ends out))
      (ends_told others i Begin begin h)
      (ends_after P (after ends out) p
      (ends_after ends out (ends_gathered others i End refl) (ends_told others i Out (λ q. Done) (λ _. tt))))

  ends_follower : (leader : Role) (i : Index) (P : Process) → GathersEnds P → GathersEnds (scope_follows leader me i P)
  ends_follower leader i P p = ends_after P _ p ((tt, tt), refl)

  step_if : (t : Bool) (m n : Attempt Deed Process) → StepEnds m → StepEnds n → StepEnds (if t then m else n)
  step_if true m n h k = h
  step_if false m n h k = k

  step_when : (t : Bool) (m : Attempt Deed Process) → (t ≡ true → StepEnds m) → StepEnds (when t m)
  step_when true m h = h refl
  step_when false m h = tt

  step_done : (t : Bool) (d : Deed) (Q : Process) → GathersEnds Q → SendsEnds d → StepEnds (when t (Does d Q))
  step_done true d Q p sends = (p, sends)
  step_done false d Q p sends = tt

  step_under : (f : Process → Process) (m : Attempt Deed Process) → ((Q : Process) → GathersEnds Q → GathersEnds (f Q)) → StepEnds m → StepEnds (under f m)
  step_under f Stuck around h = tt
  step_under f (Does d Q) around h = (around Q h.0, h.1)

  value_ends : (k : Key) (x : List ℕ) (given : Given) → StepEnds (take_value k x given)
  value_ends k x (Got (Val v)) = (tt, tt)
  value_ends k x given = tt

  flag_ends : (k : Key) (P Q : Process) (given : Given) → GathersEnds P → GathersEnds Q → StepEnds (take_flag k P Q given)
  flag_ends k P Q (Got (Flag b)) p q = (ends_if b P Q p q, tt)
  flag_ends k P Q given p q = tt

  any_ends : (k : Key) (P : Process) (given : Given) → GathersEnds P → StepEnds (take_any k P given)
  any_ends k P (Got l) p = (p, tt)
  any_ends k P given p = tt

  part_ends : (leader : Role) (i : Index) (P : Process) (given : Given) → GathersEnds P → GivesEnds (act.Take (key leader me i Begin)) given → StepEnds (take_begin leader me i P given)
  part_ends leader i P (Got Keep) p h = (ends_follower leader i P p, tt)
  part_ends leader i P (Got (Part n R)) p h = (ends_follower leader i R h, tt)
  part_ends leader i P given p h = tt

  begun_ends : (i : Index) (others : List Role) (P : Process) (decision : Decision) → GathersEnds P → DecidesEnds decision → StepEnds (begin_scope me i others P decision)
  begun_ends i others P Keeps p h = (ends_scope others i (λ q. Keep) P (λ _. tt) p, tt)
  begun_ends i others P (Replaces name n part) p h = (ends_scope others i (λ q. Part n (part q)) (part me) h (h me), tt)

  scope_ends : (head : ScopeHead) (others : List Role) (P : Process) (given : Given) → GathersEnds P → GivesEnds (act.Scope head.index) given → StepEnds (choose_scope me head others P given)
  scope_ends head others P (FromBook decide) p h = begun_ends head.index others P (decide head) p (h head)
  scope_ends head others P given p h = tt

  module _ (s : Store) (a : Act) (given : Given) (comes : GivesEnds a given) where
    -- what comes with the act comes with the one that is offered
    as_offered : (b : Act) → act_eq a b ≡ true → GivesEnds b given
    as_offered b same = subst (λ c. GivesEnds c given) (same_act a b same) comes

    -- a step keeps it
    pub step_ends : (P : Process) → GathersEnds P → StepEnds (step me s P a given)
    step_ends Skip p = tt
    step_ends (Send i o b e) p =
        let k = key me b i (Op o) in
        step_done (act_eq a (act.Put k)) (Puts k (Val (eval e s))) Skip tt tt
    step_ends (Recv i o from x) p =
        let k = key from me i (Op o) in
        step_when (act_eq a (act.Take k)) (take_value k x given) (λ _. value_ends k x given)
    step_ends (Assign i x e) p = step_done (act_eq a (act.Set i)) (Sets i me x (eval e s)) Skip tt tt
    step_ends (Read i x) p = step_done (act_eq a (act.Input i)) (Inputs i me x (next_input s)) Skip tt tt
    step_ends (Seq P Q) p =
        step_if (ended P) (step me s Q a given) (under (λ x. after x Q) (step me s P a given))
        (step_ends Q p.1)
        (step_under (λ x. after x Q) (step me s P a given) (λ x h. ends_after x Q h p.1) (step_ends P p.0))
    step_ends (Par P Q) p =
        step_if (is_offered a (offers me P)) (under (λ x. Par x Q) (step me s P a given)) (under (Par P) (step me s Q a given))
        (step_under (λ x. Par x Q) (step me s P a given) (λ x h. (h, p.1)) (step_ends P p.0))
        (step_under (Par P) (step me s Q a given) (λ x h. (p.0, h)) (step_ends Q p.1))
    step_ends (IfLead i g others P Q) p =
        let b = is_true (eval g s) in
        step_done (act_eq a (act.Pick i)) (Picks i me b) (if_leads me i others b P Q)
        (ends_after (tell me others i Choice (λ q. Flag b)) (if b then P else Q)
        (ends_told others i Choice (λ q. Flag b) (λ _. tt)) (ends_if b P Q p.0 p.1)) tt
    step_ends (IfFollow i leader P Q) p =
        let k = key leader me i Choice in
        step_when (act_eq a (act.Take k)) (take_flag k P Q given) (λ _. flag_ends k P Q given p.0 p.1)
    step_ends (WhileLead i g others P) p =
        let b = is_true (eval g s) in
        let again = WhileLead i g others P in
        step_done (act_eq a (act.Pick i)) (Picks i me b) (while_leads me i others b P again) (ends_turn i others b P again p p) tt
    step_ends (WhileFollow i leader P) p =
        let k = key leader me i Go in
        let again = WhileFollow i leader P in
        step_when (act_eq a (act.Take k)) (take_flag k (while_follows leader me i P again) Skip given)
        (λ _. flag_ends k (while_follows leader me i P again) Skip given
        (ends_after P (Seq (send_one (key me leader i Turn) Done) again) p ((tt, tt), p)) tt)
    step_ends (ScopeLead head others P) p =
        step_when (act_eq a (act.Scope head.index)) (choose_scope me head others P given)
        (λ same. scope_ends head others P given p (as_offered (act.Scope head.index) same))
    step_ends (ScopeFollow i leader P) p =
        let k = key leader me i Begin in
        step_when (act_eq a (act.Take k)) (take_begin leader me i P given)
        (λ same. part_ends leader i P given p (as_offered (act.Take k) same))
    step_ends (Tell Nothing) p = tt
    step_ends (Tell (More k l ms)) p =
        step_done (act_eq a (act.Put k)) (Puts k l) (telling ms) (ends_telling ms p.1) p.0
    step_ends (Gather []) p = tt
    step_ends (Gather (k ∷ ks)) p =
        step_when (act_eq a (act.Take k)) (take_any k (gathering ks) given)
        (λ _. any_ends k (gathering ks) given (ends_gathering ks (and_parts (is_end_tag k.tag) (are_ends ks) p).1))

  module _ (s : Store) (k : Key) (l : Load) (misfit : load_fits k.tag l ≡ false) where
    abbrev Undone : Attempt Deed Process → Type 0
    Undone m = is_done m ≡ false

    undone_when : (j : Key) (m : Attempt Deed Process) → (load_fits j.tag l ≡ false → Undone m) → Undone (when (act_eq (act.Take k) (act.Take j)) m)
    undone_when j m h = by_case (act_eq (act.Take k) (act.Take j)) refl
      where
        by_case : (t : Bool) → act_eq (act.Take k) (act.Take j) ≡ t → Undone (when t m)
        by_case true same = h (subst (λ (x : Key). load_fits x.tag l ≡ false) (same_taken (same_act (act.Take k) (act.Take j) same)) misfit)
        by_case false same = refl

    undone_if : (t : Bool) (m n : Attempt Deed Process) → Undone m → Undone n → Undone (if t then m else n)
    undone_if true m n h i = h
    undone_if false m n h i = i

    undone_under : (f : Process → Process) (m : Attempt Deed Process) → Undone m → Undone (under f m)
    undone_under f Stuck h = refl
    undone_under f (Does d Q) h = h

    no_value : (j : Key) (o x : List ℕ) (l' : Load) → load_fits (Op o) l' ≡ false → Undone (take_value j x (Got l'))
    no_value j o x (Val v) h = h
    no_value j o x (Flag b) h = refl
    no_value j o x Keep h = refl
    no_value j o x (Part n R) h = refl
    no_value j o x Done h = refl

    no_choice : (j : Key) (P Q : Process) (l' : Load) → load_fits Choice l' ≡ false → Undone (take_flag j P Q (Got l'))
    no_choice j P Q (Flag b) h = h
    no_choice j P Q (Val v) h = refl
    no_choice j P Q Keep h = refl
    no_choice j P Q (Part n R) h = refl
    no_choice j P Q Done h = refl

    no_turn : (j : Key) (P Q : Process) (l' : Load) → load_fits Go l' ≡ false → Undone (take_flag j P Q (Got l'))
    no_turn j P Q (Flag b) h = h
    no_turn j P Q (Val v) h = refl
    no_turn j P Q Keep h = refl
    no_turn j P Q (Part n R) h = refl
    no_turn j P Q Done h = refl

    no_begin : (leader : Role) (i : Index) (P : Process) (l' : Load) → load_fits Begin l' ≡ false → Undone (take_begin leader me i P (Got l'))
    no_begin leader i P Keep h = h
    no_begin leader i P (Part n R) h = h
    no_begin leader i P (Val v) h = refl
    no_begin leader i P (Flag b) h = refl
    no_begin leader i P Done h = refl

    end_fits : (t : Tag) → is_end_tag t ≡ true → load_fits t l ≡ false → ⊥
    end_fits Turn h f = absurd (false≢true (sym f))
    end_fits End h f = absurd (false≢true (sym f))
    end_fits Out h f = absurd (false≢true (sym f))
    end_fits (Op o) h f = absurd (false≢true h)
    end_fits Choice h f = absurd (false≢true h)
    end_fits Go h f = absurd (false≢true h)
    end_fits Begin h f = absurd (false≢true h)

    -- a message that doesn't fit its tag isn't taken
    pub misfit_stays : (P : Process) → GathersEnds P → is_done (step me s P (act.Take k) (Got l)) ≡ false
    misfit_stays Skip p = refl
    misfit_stays (Send i o b e) p = refl
    misfit_stays (Recv i o from x) p = undone_when (key from me i (Op o)) (take_value (key from me i (Op o)) x (Got l)) (no_value (key from me i (Op o)) o x l)
    misfit_stays (Assign i x e) p = refl
    misfit_stays (Read i x) p = refl
    misfit_stays (Seq P Q) p =
        undone_if (ended P) (step me s Q (act.Take k) (Got l)) (under (λ x. after x Q) (step me s P (act.Take k) (Got l))) (misfit_stays Q p.1)
        (undone_under (λ x. after x Q) (step me s P (act.Take k) (Got l)) (misfit_stays P p.0))
    misfit_stays (Par P Q) p =
        undone_if (is_offered (act.Take k) (offers me P)) (under (λ x. Par x Q) (step me s P (act.Take k) (Got l))) (under (Par P) (step me s Q (act.Take k) (Got l)))
        (undone_under (λ x. Par x Q) (step me s P (act.Take k) (Got l)) (misfit_stays P p.0))
        (undone_under (Par P) (step me s Q (act.Take k) (Got l)) (misfit_stays Q p.1))
    misfit_stays (IfLead i g others P Q) p = refl
    misfit_stays (IfFollow i leader P Q) p = undone_when (key leader me i Choice) (take_flag (key leader me i Choice) P Q (Got l)) (no_choice (key leader me i Choice) P Q l)
    misfit_stays (WhileLead i g others P) p = refl
    misfit_stays (WhileFollow i leader P) p =
        let again = while_follows leader me i P (WhileFollow i leader P) in
        undone_when (key leader me i Go) (take_flag (key leader me i Go) again Skip (Got l)) (no_turn (key leader me i Go) again Skip l)
    misfit_stays (ScopeLead head others P) p = refl
    misfit_stays (ScopeFollow i leader P) p = undone_when (key leader me i Begin) (take_begin leader me i P (Got l)) (no_begin leader i P l)
    misfit_stays (Tell Nothing) p = refl
    misfit_stays (Tell (More j m ms)) p = refl
    misfit_stays (Gather []) p = refl
    misfit_stays (Gather (j ∷ ks)) p =
        undone_when j (take_any j (gathering ks) (Got l)) (λ f. absurd (end_fits j.tag (and_parts (is_end_tag j.tag) (are_ends ks) p).0 f))

-- a message that isn't there isn't taken
module _ (me : Role) (s : Store) (k : Key) where
  abbrev nothing : Attempt Deed Process
  nothing = Stuck

  stuck_when : (t : Bool) → is_done (when t nothing) ≡ false
  stuck_when true = refl
  stuck_when false = refl

  stuck_if : (t : Bool) (m n : Attempt Deed Process) → is_done m ≡ false → is_done n ≡ false → is_done (if t then m else n) ≡ false
  stuck_if true m n h i = h
  stuck_if false m n h i = i

  stuck_under : (f : Process → Process) (m : Attempt Deed Process) → is_done m ≡ false → is_done (under f m) ≡ false
  stuck_under f Stuck h = refl
  stuck_under f (Does d Q) h = h

  pub missing_stays : (P : Process) → is_done (step me s P (act.Take k) Alone) ≡ false
  missing_stays Skip = refl
  missing_stays (Send i o b e) = refl
  missing_stays (Recv i o from x) = stuck_when (act_eq (act.Take k) (act.Take (key from me i (Op o))))
  missing_stays (Assign i x e) = refl
  missing_stays (Read i x) = refl
  missing_stays (Seq P Q) =
      stuck_if (ended P) (step me s Q (act.Take k) Alone) (under (λ x. after x Q) (step me s P (act.Take k) Alone)) (missing_stays Q)
      (stuck_under (λ x. after x Q) (step me s P (act.Take k) Alone) (missing_stays P))
  missing_stays (Par P Q) =
      stuck_if (is_offered (act.Take k) (offers me P)) (under (λ x. Par x Q) (step me s P (act.Take k) Alone)) (under (Par P) (step me s Q (act.Take k) Alone))
      (stuck_under (λ x. Par x Q) (step me s P (act.Take k) Alone) (missing_stays P))
      (stuck_under (Par P) (step me s Q (act.Take k) Alone) (missing_stays Q))
  missing_stays (IfLead i g others P Q) = refl
  missing_stays (IfFollow i leader P Q) = stuck_when (act_eq (act.Take k) (act.Take (key leader me i Choice)))
  missing_stays (WhileLead i g others P) = refl
  missing_stays (WhileFollow i leader P) = stuck_when (act_eq (act.Take k) (act.Take (key leader me i Go)))
  missing_stays (ScopeLead head others P) = refl
  missing_stays (ScopeFollow i leader P) = stuck_when (act_eq (act.Take k) (act.Take (key leader me i Begin)))
  missing_stays (Tell Nothing) = refl
  missing_stays (Tell (More j m ms)) = refl
  missing_stays (Gather []) = refl
  missing_stays (Gather (j ∷ ks)) = stuck_when (act_eq (act.Take k) (act.Take j))

-- a projection gathers nothing yet
pub projection_ends : (cast : List Role) (I : Term) (q : Role) → GathersEnds (projected cast I q)
projection_ends cast term.Skip q = tt
projection_ends cast (term.Com i o a e b x) q =
    ends_if q (role_eq q a) (Send i o b e) (if role_eq q b then Recv i o a x else Skip) tt (ends_if q (role_eq q b) (Recv i o a x) Skip tt tt)
projection_ends cast (term.Set i x r e) q = ends_if q (role_eq q r) (Assign i x e) Skip tt tt
projection_ends cast (term.Input i x r) q = ends_if q (role_eq q r) (Read i x) Skip tt tt
projection_ends cast (term.Seq I J) q = (projection_ends cast I q, projection_ends cast J q)
projection_ends cast (term.Par I J) q = (projection_ends cast I q, projection_ends cast J q)
projection_ends cast (term.If i r g I J) q =
    let whole = term.If i r g I J in
    let P = projected cast I q in
    let Q = projected cast J q in
    let both : GathersEnds P × GathersEnds Q = (projection_ends cast I q, projection_ends cast J q) in
    ends_if q (role_eq q r) (IfLead i g (others_in cast r whole) P Q) (if is_in q whole then IfFollow i r P Q else Skip) both
    (ends_if q (is_in q whole) (IfFollow i r P Q) Skip both tt)
projection_ends cast (term.While i r g I) q =
    let whole = term.While i r g I in
    let P = projected cast I q in
    let part = projection_ends cast I q in
    ends_if q (role_eq q r) (WhileLead i g (others_in cast r whole) P) (if is_in q whole then WhileFollow i r P else Skip) part
    (ends_if q (is_in q whole) (WhileFollow i r P) Skip part tt)
projection_ends cast (term.Scope i r I extra props level) q =
    let whole = term.Scope i r I extra props level in
    let head = head_of cast i r I extra props level in
    let P = projected cast I q in
    let part = projection_ends cast I q in
    let inside = if is_in q I then P else Skip in
    ends_if q (role_eq q r) (ScopeLead head (others_in cast r whole) P) (if is_in q whole then ScopeFollow i r inside else Skip) part
    (ends_if q (is_in q whole) (ScopeFollow i r inside) Skip (ends_if q (is_in q I) P Skip part tt) tt)

-- a step keeps it, and so it is with what it sends
pub ends_kept : (me : Role) (s : Store) (P : Process) (a : Act) (given : Given) (d : Deed) (Q : Process) → GathersEnds P → GivesEnds a given → step me s P a given ≡ Does d Q
    → GathersEnds Q × SendsEnds d
ends_kept me s P a given d Q p comes does = subst StepEnds does (step_ends me s a given comes P p)
