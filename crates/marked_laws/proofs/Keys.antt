-- No act stands twice in what a role offers, and so no two of its takes have one key.
use Rattle.std.proofs.Common.{◌≡◌, ◌⊎◌, List, [], ◌∷◌, ◌++◌, Bool, true, false, not, if◌then◌else◌, refl, sym, ap, ◌∙◌, inl, inr, ⊎_elim}
use Rattle.std.proofs.lemmas.Bool.{and_parts, and_from, or_cases, or_from, or_left, or_right, cond-true, both_ways, not-true, not_from_false, false_from_ne_true}
use Rattle.std.proofs.lemmas.List.Folds.{list_any-append}
use Rattle.dioc_terms.specs.declared.names.Role.{Role}
use Rattle.dioc_terms.specs.declared.names.Index.{Index}
use Rattle.dioc_terms.specs.declared.processes.Key.{Key}
use Rattle.dioc_terms.specs.declared.processes.Tag.{Tag}
use Rattle.dioc_terms.specs.declared.processes.Tag.TheVariants.{Op, Choice, Go, Turn, Begin, End, Out}
use Rattle.dioc_terms.specs.declared.entries.Act.{Act}
use Rattle.dioc_terms.specs.declared.entries.Act.TheVariants as act
use Rattle.dioc_terms.specs.Equality.{role_eq, key_eq, act_eq}
use Rattle.dioc_terms.specs.Expressions.{Expression}
use Rattle.dioc_terms.specs.Processes as process
use Rattle.dioc_terms.specs.Processes.{Process, Load, Done}
use Rattle.dioc_terms.specs.Terms as term
use Rattle.dioc_terms.specs.Terms.{Term, is_in, others, head_of, distinct_roles}
use Rattle.projection.specs.Projection.{projected}
use Rattle.process_steps.specs.Steps.{ended, key, tell, gather, send_one, offers, is_offered}
use Rattle.marked_laws.specs.Laws.{key_among, distinct_keys, taken_keys}
use Rattle.marked_laws.specs.Offers.{distinct_acts}
use Rattle.marked_laws.proofs.Constructs.{Phase, Phases, Kind, Branch, Turning, Stopping, Scoped, Releasing, Waits, Told, Inside, Sent, Gone, leader, whole, leads, before, inside, outside, follows, untold, ungone}
use Rattle.marked_laws.proofs.Equality.{role_itself, act_itself, act_same}
use Rattle.marked_laws.proofs.Mark.{Mark, Still, Flying, Over, First, Second, Both, Held, Spent, At, place, Fine}
use Rattle.marked_laws.proofs.Proper.{Proper, Within, proper_seq, proper_par}

-- the index at which an act is done
abbrev act_index : Act → Index
act_index (act.Put k) = k.index
act_index (act.Take k) = k.index
act_index (act.Set i) = i
act_index (act.Input i) = i
act_index (act.Pick i) = i
act_index (act.Scope i) = i

-- distinct acts, and other distinct ones
distinct-append : (acts more : List Act) → distinct_acts acts ≡ true → distinct_acts more ≡ true
    → ((a : Act) → is_offered a acts ≡ true → is_offered a more ≡ true → ⊥) → distinct_acts (acts ++ more) ≡ true
distinct-append [] more h h' apart = h'
distinct-append (a ∷ acts) more h h' apart =
    let parts = and_parts (not (is_offered a acts)) (distinct_acts acts) h in
    and_from (not (is_offered a (acts ++ more))) (distinct_acts (acts ++ more))
    (not_from_false (is_offered a (acts ++ more)) (list_any-append (act_eq a) acts more
    ∙ or_from (is_offered a acts) (is_offered a more) (not-true (is_offered a acts) parts.0)
    (false_from_ne_true (is_offered a more) (λ is. apart a (or_left (act_eq a a) (is_offered a acts) (act_itself a)) is))))
    (distinct-append acts more parts.1 h' (λ c is at. apart c (or_right (act_eq c a) (is_offered c acts) is) at))

-- a key among those that are taken is of a take
taken_offered : (k : Key) (acts : List Act) → key_among k (taken_keys acts) ≡ true → is_offered (act.Take k) acts ≡ true
taken_offered k [] h = h
taken_offered k (act.Take l ∷ acts) h = ⊎_elim (λ is. or_left (key_eq k l) (is_offered (act.Take k) acts) is)
    (λ later. or_right (key_eq k l) (is_offered (act.Take k) acts) (taken_offered k acts later)) (or_cases (key_eq k l) (key_among k (taken_keys acts)) h)
taken_offered k (act.Put l ∷ acts) h = taken_offered k acts h
taken_offered k (act.Set i ∷ acts) h = taken_offered k acts h
taken_offered k (act.Input i ∷ acts) h = taken_offered k acts h
taken_offered k (act.Pick i ∷ acts) h = taken_offered k acts h
taken_offered k (act.Scope i ∷ acts) h = taken_offered k acts h

-- so the takes among distinct acts have distinct keys
distinct_taken : (acts : List Act) → distinct_acts acts ≡ true → distinct_keys (taken_keys acts) ≡ true
distinct_taken [] h = refl
distinct_taken (act.Take k ∷ acts) h =
    let parts = and_parts (not (is_offered (act.Take k) acts)) (distinct_acts acts) h in
    and_from (not (key_among k (taken_keys acts))) (distinct_keys (taken_keys acts))
    (not_from_false (key_among k (taken_keys acts)) (false_from_ne_true (key_among k (taken_keys acts))
    (λ is. both_ways (is_offered (act.Take k) acts) (not-true (is_offered (act.Take k) acts) parts.0) (taken_offered k acts is))))
    (distinct_taken acts parts.1)
distinct_taken (act.Put k ∷ acts) h = distinct_taken acts (and_parts (not (is_offered (act.Put k) acts)) (distinct_acts acts) h).1
distinct_taken (act.Set i ∷ acts) h = distinct_taken acts (and_parts (not (is_offered (act.Set i) acts)) (distinct_acts acts) h).1
distinct_taken (act.Input i ∷ acts) h = distinct_taken acts (and_parts (not (is_offered (act.Input i) acts)) (distinct_acts acts) h).1
distinct_taken (act.Pick i ∷ acts) h = distinct_taken acts (and_parts (not (is_offered (act.Pick i) acts)) (distinct_acts acts) h).1
distinct_taken (act.Scope i ∷ acts) h = distinct_taken acts (and_parts (not (is_offered (act.Scope i) acts)) (distinct_acts acts) h).1

module _ (q : Role) where
  -- the process is ready for an act
  abbrev Ready : Process → Act → Type 0
  Ready P j = is_offered j (offers q P) ≡ true

  abbrev Few : Process → Type 0
  Few P = distinct_acts (offers q P) ≡ true

  ready_seq : (P Q : Process) (j : Act) → Ready (process.Seq P Q) j → Ready P j ⊎ Ready Q j
  ready_seq P Q j h = by_end (ended P) h
    where
      by_end : (b : Bool) → is_offered j (if b then offers q Q else offers q P) ≡ true → Ready P j ⊎ Ready Q j
      by_end true h = inr h
      by_end false h = inl h

  few_seq : (P Q : Process) → Few P → Few Q → Few (process.Seq P Q)
  few_seq P Q h h' = by_end (ended P)
    where
      by_end : (b : Bool) → distinct_acts (if b then offers q Q else offers q P) ≡ true
      by_end true = h'
      by_end false = h

  ready_par : (P Q : Process) (j : Act) → Ready (process.Par P Q) j → Ready P j ⊎ Ready Q j
  ready_par P Q j h = or_cases (is_offered j (offers q P)) (is_offered j (offers q Q)) (sym (list_any-append (act_eq j) (offers q P) (offers q Q)) ∙ h)

  few_par : (P Q : Process) → Few P → Few Q → ((j : Act) → Ready P j → Ready Q j → ⊥) → Few (process.Par P Q)
  few_par P Q h h' apart = distinct-append (offers q P) (offers q Q) h h' apart

  never : (j : Act) → Ready process.Skip j → ⊥
  never j h = both_ways false refl h

  -- one that is ready for a single act
  ready_one : (k j : Act) → is_offered j (k ∷ []) ≡ true → act_index j ≡ act_index k
  ready_one k j h = ⊎_elim (λ is. ap act_index (act_same j k is)) (λ none. absurd (both_ways false refl none)) (or_cases (act_eq j k) false h)

  ready_tell : (from : Role) (qs : List Role) (i : Index) (t : Tag) (carries : Role → Load) (j : Act) → Ready (tell from qs i t carries) j → act_index j ≡ i
  ready_tell from [] i t carries j h = absurd (both_ways false refl h)
  ready_tell from (x ∷ rest) i t carries j h = ready_one (act.Put (key from x i t)) j h

  few_tell : (from : Role) (qs : List Role) (i : Index) (t : Tag) (carries : Role → Load) → Few (tell from qs i t carries)
  few_tell from [] i t carries = refl
  few_tell from (x ∷ rest) i t carries = refl

  ready_gather : (to : Role) (qs : List Role) (i : Index) (t : Tag) (j : Act) → Ready (gather to qs i t) j → act_index j ≡ i
  ready_gather to [] i t j h = absurd (both_ways false refl h)
  ready_gather to (x ∷ rest) i t j h = ready_one (act.Take (key x to i t)) j h

  few_gather : (to : Role) (qs : List Role) (i : Index) (t : Tag) → Few (gather to qs i t)
  few_gather to [] i t = refl
  few_gather to (x ∷ rest) i t = refl

  -- a process by a test
  ready_either : (b : Bool) (P Q : Process) (j : Act) (A : Type 0) → (Ready P j → A) → (Ready Q j → A) → Ready (if b then P else Q) j → A
  ready_either true P Q j A f g h = f h
  ready_either false P Q j A f g h = g h

  few_either : (b : Bool) (P Q : Process) → Few P → Few Q → Few (if b then P else Q)
  few_either true P Q h h' = h
  few_either false P Q h h' = h'

  module _ (cast : List Role) where
    -- what a role is ready for is in the term
    ready_within : (I : Term) (j : Act) → Ready (projected cast I q) j → Within (act_index j) I
    ready_within term.Skip j h = absurd (never j h)
    ready_within (term.Com i o a e b x) j h =
        ready_either (role_eq q a) (process.Send i o b e) (if role_eq q b then process.Recv i o a x else process.Skip) j (act_index j ≡ i)
        (λ k. ready_one (act.Put (key q b i (Op o))) j k)
        (λ k. ready_either (role_eq q b) (process.Recv i o a x) process.Skip j (act_index j ≡ i) (λ l. ready_one (act.Take (key a q i (Op o))) j l) (λ l. absurd (never j l)) k) h
    ready_within (term.Set i x r e) j h =
        ready_either (role_eq q r) (process.Assign i x e) process.Skip j (act_index j ≡ i) (λ k. ready_one (act.Set i) j k) (λ k. absurd (never j k)) h
    ready_within (term.Input i x r) j h =
        ready_either (role_eq q r) (process.Read i x) process.Skip j (act_index j ≡ i) (λ k. ready_one (act.Input i) j k) (λ k. absurd (never j k)) h
    ready_within (term.Seq I J) j h = ⊎_elim (λ k. inl (ready_within I j k)) (λ k. inr (ready_within J j k)) (ready_seq (projected cast I q) (projected cast J q) j h)
    ready_within (term.Par I J) j h = ⊎_elim (λ k. inl (ready_within I j k)) (λ k. inr (ready_within J j k)) (ready_par (projected cast I q) (projected cast J q) j h)
    ready_within (term.If i r g I J) j h =
        ready_either (role_eq q r) (process.IfLead i g (others cast r (term.If i r g I J)) (projected cast I q) (projected cast J q))
        (if is_in q (term.If i r g I J) then process.IfFollow i r (projected cast I q) (projected cast J q) else process.Skip) j (Within (act_index j) (term.If i r g I J))
        (λ k. inl (ready_one (act.Pick i) j k))
        (λ k. ready_either (is_in q (term.If i r g I J)) (process.IfFollow i r (projected cast I q) (projected cast J q)) process.Skip j (Within (act_index j) (term.If i r g I J))
        (λ l. inl (ready_one (act.Take (key r q i Choice)) j l)) (λ l. absurd (never j l)) k) h
    ready_within (term.While i r g I) j h =
        ready_either (role_eq q r) (process.WhileLead i g (others cast r (term.While i r g I)) (projected cast I q))
        (if is_in q (term.While i r g I) then process.WhileFollow i r (projected cast I q) else process.Skip) j (Within (act_index j) (term.While i r g I))
        (λ k. inl (ready_one (act.Pick i) j k))
        (λ k. ready_either (is_in q (term.While i r g I)) (process.WhileFollow i r (projected cast I q)) process.Skip j (Within (act_index j) (term.While i r g I))
        (λ l. inl (ready_one (act.Take (key r q i Go)) j l)) (λ l. absurd (never j l)) k) h
    ready_within (term.Scope i r I extra props level) j h =
        let own_part : Process = if is_in q I then projected cast I q else process.Skip in
        ready_either (role_eq q r) (process.ScopeLead (head_of cast i r I extra props level) (others cast r (term.Scope i r I extra props level)) (projected cast I q))
        (if is_in q (term.Scope i r I extra props level) then process.ScopeFollow i r own_part else process.Skip) j (Within (act_index j) (term.Scope i r I extra props level))
        (λ k. inl (ready_one (act.Scope i) j k))
        (λ k. ready_either (is_in q (term.Scope i r I extra props level)) (process.ScopeFollow i r own_part) process.Skip j (Within (act_index j) (term.Scope i r I extra props level))
        (λ l. inl (ready_one (act.Take (key r q i Begin)) j l)) (λ l. absurd (never j l)) k) h

    -- the leader of a loop picks first
    picks_first : (i : Index) (r : Role) (g : Expression) (I : Term) (j : Act) → Ready (projected cast (term.While i r g I) r) j → act_index j ≡ i
    picks_first i r g I j h =
        ready_one (act.Pick i) j (sym (ap (λ P. is_offered j (offers q P)) (cond-true (role_eq r r) (process.WhileLead i g (others cast r (term.While i r g I)) (projected cast I r)) _ (role_itself r))) ∙ h)

    few_picks : (i : Index) (r : Role) (g : Expression) (I : Term) → Few (projected cast (term.While i r g I) r)
    few_picks i r g I = ap (λ P. distinct_acts (offers q P)) (cond-true (role_eq r r) _ _ (role_itself r))

    few_within : (I : Term) → Proper cast I → Few (projected cast I q)
    few_within term.Skip proper = refl
    few_within (term.Com i o a e b x) proper = few_either (role_eq q a) _ _ refl (few_either (role_eq q b) (process.Recv i o a x) process.Skip refl refl)
    few_within (term.Set i x r e) proper = few_either (role_eq q r) (process.Assign i x e) process.Skip refl refl
    few_within (term.Input i x r) proper = few_either (role_eq q r) (process.Read i x) process.Skip refl refl
    few_within (term.Seq I J) proper = let parts = proper_seq cast I J proper in
        few_seq (projected cast I q) (projected cast J q) (few_within I parts.0) (few_within J parts.1)
    few_within (term.Par I J) proper = let parts = proper_par cast I J proper in
        few_par (projected cast I q) (projected cast J q) (few_within I parts.0) (few_within J parts.1)
        (λ j h k. parts.2 (act_index j) (ready_within I j h) (ready_within J j k))
    few_within (term.If i r g I J) proper = few_either (role_eq q r) _ _ refl (few_either (is_in q (term.If i r g I J)) _ process.Skip refl refl)
    few_within (term.While i r g I) proper = few_either (role_eq q r) _ _ refl (few_either (is_in q (term.While i r g I)) _ process.Skip refl refl)
    few_within (term.Scope i r I extra props level) proper =
        few_either (role_eq q r) _ _ refl (few_either (is_in q (term.Scope i r I extra props level)) _ process.Skip refl refl)

    -- the leader of a construct is ready for messages of the construct, and for what its part of the body is ready for
    ready_leads : (k : Kind) (phases : Phases) (P : Process) (j : Act) → Ready (leads cast k phases P) j → Within (act_index j) (whole k) ⊎ Ready P j
    ready_leads (Branch i r g I J b) phases P j h = ⊎_elim
        (λ x. inl (inl (ready_tell r (untold cast (Branch i r g I J b) phases) i Choice (λ y. process.Flag b) j x))) (λ x. inr x)
        (ready_seq (tell r (untold cast (Branch i r g I J b) phases) i Choice (λ y. process.Flag b)) P j h)
    ready_leads (Turning i r g I) phases P j h =
        let T : Process = tell r (untold cast (Turning i r g I) phases) i Go (λ y. process.Flag true) in
        let G : Process = gather r (ungone cast (Turning i r g I) phases) i Turn in
        let W : Process = projected cast (term.While i r g I) r in
        ⊎_elim
        (λ x. inl (inl (ready_tell r (untold cast (Turning i r g I) phases) i Go (λ y. process.Flag true) j x)))
        (λ x. ⊎_elim (λ y. inr y)
        (λ y. ⊎_elim (λ z. inl (inl (ready_gather r (ungone cast (Turning i r g I) phases) i Turn j z))) (λ z. inl (inl (picks_first i r g I j z))) (ready_seq G W j y))
        (ready_seq P (process.Seq G W) j x))
        (ready_seq T (process.Seq P (process.Seq G W)) j h)
    ready_leads (Stopping i r g I) phases P j h = inl (inl (ready_tell r (untold cast (Stopping i r g I) phases) i Go (λ y. process.Flag false) j h))
    ready_leads (Scoped i r I extra props level begin B) phases P j h =
        let k : Kind = Scoped i r I extra props level begin B in
        let T : Process = tell r (untold cast k phases) i Begin begin in
        let G : Process = gather r (ungone cast k phases) i End in
        let O : Process = tell r (others cast r (term.Scope i r I extra props level)) i Out (λ y. Done) in
        ⊎_elim
        (λ x. inl (inl (ready_tell r (untold cast k phases) i Begin begin j x)))
        (λ x. ⊎_elim (λ y. inr y)
        (λ y. ⊎_elim (λ z. inl (inl (ready_gather r (ungone cast k phases) i End j z)))
        (λ z. inl (inl (ready_tell r (others cast r (term.Scope i r I extra props level)) i Out (λ w. Done) j z))) (ready_seq G O j y))
        (ready_seq P (process.Seq G O) j x))
        (ready_seq T (process.Seq P (process.Seq G O)) j h)
    ready_leads (Releasing i r I extra props level) phases P j h = inl (inl (ready_tell r (untold cast (Releasing i r I extra props level) phases) i Out (λ y. Done) j h))

    few_leads : (k : Kind) (phases : Phases) (P : Process) → Proper cast (whole k) → Few P → Few (leads cast k phases P)
    few_leads (Branch i r g I J b) phases P proper few =
        let T : Process = tell r (untold cast (Branch i r g I J b) phases) i Choice (λ y. process.Flag b) in
        few_seq T P (few_tell r (untold cast (Branch i r g I J b) phases) i Choice (λ y. process.Flag b)) few
    few_leads (Turning i r g I) phases P proper few =
        let T : Process = tell r (untold cast (Turning i r g I) phases) i Go (λ y. process.Flag true) in
        let G : Process = gather r (ungone cast (Turning i r g I) phases) i Turn in
        let W : Process = projected cast (term.While i r g I) r in
        few_seq T (process.Seq P (process.Seq G W)) (few_tell r (untold cast (Turning i r g I) phases) i Go (λ y. process.Flag true))
        (few_seq P (process.Seq G W) few (few_seq G W (few_gather r (ungone cast (Turning i r g I) phases) i Turn) (few_picks i r g I)))
    few_leads (Stopping i r g I) phases P proper few = few_tell r (untold cast (Stopping i r g I) phases) i Go (λ y. process.Flag false)
    few_leads (Scoped i r I extra props level begin B) phases P proper few =
        let k : Kind = Scoped i r I extra props level begin B in
        let T : Process = tell r (untold cast k phases) i Begin begin in
        let G : Process = gather r (ungone cast k phases) i End in
        let O : Process = tell r (others cast r (term.Scope i r I extra props level)) i Out (λ y. Done) in
        few_seq T (process.Seq P (process.Seq G O)) (few_tell r (untold cast k phases) i Begin begin)
        (few_seq P (process.Seq G O) few (few_seq G O (few_gather r (ungone cast k phases) i End)
        (few_tell r (others cast r (term.Scope i r I extra props level)) i Out (λ y. Done))))
    few_leads (Releasing i r I extra props level) phases P proper few = few_tell r (untold cast (Releasing i r I extra props level) phases) i Out (λ y. Done)

    ready_before : (k : Kind) (j : Act) → Ready (before cast k q) j → Within (act_index j) (whole k)
    ready_before (Releasing i r I extra props level) j h =
        ready_either (is_in q (term.Scope i r I extra props level)) (process.Gather (key r q i Out ∷ [])) process.Skip j (Within (act_index j) (term.Scope i r I extra props level))
        (λ k. inl (ready_one (act.Take (key r q i Out)) j k)) (λ k. absurd (never j k)) h
    ready_before (Branch i r g I J b) j h = ready_within (term.If i r g I J) j h
    ready_before (Turning i r g I) j h = ready_within (term.While i r g I) j h
    ready_before (Stopping i r g I) j h = ready_within (term.While i r g I) j h
    ready_before (Scoped i r I extra props level begin B) j h = ready_within (term.Scope i r I extra props level) j h

    few_before : (k : Kind) → Proper cast (whole k) → Few (before cast k q)
    few_before (Releasing i r I extra props level) proper = few_either (is_in q (term.Scope i r I extra props level)) (process.Gather (key r q i Out ∷ [])) process.Skip refl refl
    few_before (Branch i r g I J b) proper = few_within (term.If i r g I J) proper
    few_before (Turning i r g I) proper = few_within (term.While i r g I) proper
    few_before (Stopping i r g I) proper = few_within (term.While i r g I) proper
    few_before (Scoped i r I extra props level begin B) proper = few_within (term.Scope i r I extra props level) proper

    ready_outside : (k : Kind) (j : Act) → Ready (outside cast k q) j → Within (act_index j) (whole k)
    ready_outside (Branch i r g I J b) j h = absurd (never j h)
    ready_outside (Turning i r g I) j h = ready_within (term.While i r g I) j h
    ready_outside (Stopping i r g I) j h = absurd (never j h)
    ready_outside (Scoped i r I extra props level begin B) j h = inl (ready_one (act.Take (key r q i Out)) j h)
    ready_outside (Releasing i r I extra props level) j h = absurd (never j h)

    few_outside : (k : Kind) → Proper cast (whole k) → Few (outside cast k q)
    few_outside (Branch i r g I J b) proper = refl
    few_outside (Turning i r g I) proper = few_within (term.While i r g I) proper
    few_outside (Stopping i r g I) proper = refl
    few_outside (Scoped i r I extra props level begin B) proper = refl
    few_outside (Releasing i r I extra props level) proper = refl

    ready_inside : (k : Kind) (P : Process) (j : Act) → Ready (inside cast k q P) j → Within (act_index j) (whole k) ⊎ Ready P j
    ready_inside (Branch i r g I J b) P j h = inr h
    ready_inside (Turning i r g I) P j h = ⊎_elim (λ x. inr x) (λ x. inl (inl (ready_one (act.Put (key q r i Turn)) j x)))
        (ready_seq P (process.Seq (send_one (key q r i Turn) Done) (projected cast (term.While i r g I) q)) j h)
    ready_inside (Stopping i r g I) P j h = absurd (never j h)
    ready_inside (Scoped i r I extra props level begin B) P j h = ⊎_elim (λ x. inr x) (λ x. inl (inl (ready_one (act.Put (key q r i End)) j x)))
        (ready_seq P (process.Seq (send_one (key q r i End) Done) (process.Gather (key r q i Out ∷ []))) j h)
    ready_inside (Releasing i r I extra props level) P j h = absurd (never j h)

    few_inside : (k : Kind) (P : Process) → Few P → Few (inside cast k q P)
    few_inside (Branch i r g I J b) P few = few
    few_inside (Turning i r g I) P few = few_seq P (process.Seq (send_one (key q r i Turn) Done) (projected cast (term.While i r g I) q)) few refl
    few_inside (Stopping i r g I) P few = refl
    few_inside (Scoped i r I extra props level begin B) P few = few_seq P (process.Seq (send_one (key q r i End) Done) (process.Gather (key r q i Out ∷ []))) few refl
    few_inside (Releasing i r I extra props level) P few = refl

    ready_follows : (k : Kind) (p : Phase) (P : Process) (j : Act) → Ready (follows cast k q p P) j → Within (act_index j) (whole k) ⊎ Ready P j
    ready_follows k Waits P j h = inl (ready_before k j h)
    ready_follows k Told P j h = inl (ready_before k j h)
    ready_follows k Inside P j h = ready_inside k P j h
    ready_follows k Sent P j h = inl (ready_outside k j h)
    ready_follows k Gone P j h = inl (ready_outside k j h)

    few_follows : (k : Kind) (p : Phase) (P : Process) → Proper cast (whole k) → Few P → Few (follows cast k q p P)
    few_follows k Waits P proper few = few_before k proper
    few_follows k Told P proper few = few_before k proper
    few_follows k Inside P proper few = few_inside k P few
    few_follows k Sent P proper few = few_outside k proper
    few_follows k Gone P proper few = few_outside k proper

    -- what a role is ready for is of the mark
    ready_at : (M : Mark) (j : Act) → Ready (place cast M q) j → At (act_index j) M
    ready_at (Still I) j h = ready_within I j h
    ready_at (Flying i o a e b x v) j h =
        ready_either (role_eq q a) process.Skip (if role_eq q b then process.Recv i o a x else process.Skip) j (act_index j ≡ i) (λ k. absurd (never j k))
        (λ k. ready_either (role_eq q b) (process.Recv i o a x) process.Skip j (act_index j ≡ i) (λ l. ready_one (act.Take (key a q i (Op o))) j l) (λ l. absurd (never j l)) k) h
    ready_at (Over I) j h = absurd (never j h)
    ready_at (First M J) j h = ⊎_elim (λ k. inl (ready_at M j k)) (λ k. inr (ready_within J j k)) (ready_seq (place cast M q) (projected cast J q) j h)
    ready_at (Second M N) j h = ⊎_elim (λ k. inl (ready_at M j k)) (λ k. inr (ready_at N j k)) (ready_seq (place cast M q) (place cast N q) j h)
    ready_at (Both M N) j h = ⊎_elim (λ k. inl (ready_at M j k)) (λ k. inr (ready_at N j k)) (ready_par (place cast M q) (place cast N q) j h)
    ready_at (Held k phases M) j h =
        ready_either (role_eq q (leader k)) (leads cast k phases (place cast M q)) (follows cast k q (phases q) (place cast M q)) j (At (act_index j) (Held k phases M))
        (λ x. ⊎_elim (λ y. inl y) (λ y. inr (ready_at M j y)) (ready_leads k phases (place cast M q) j x))
        (λ x. ⊎_elim (λ y. inl y) (λ y. inr (ready_at M j y)) (ready_follows k (phases q) (place cast M q) j x)) h
    ready_at (Spent G) j h = absurd (never j h)

    few_at : (M : Mark) → Fine cast M → Few (place cast M q)
    few_at (Still I) fine = few_within I fine
    few_at (Flying i o a e b x v) fine = few_either (role_eq q a) process.Skip _ refl (few_either (role_eq q b) (process.Recv i o a x) process.Skip refl refl)
    few_at (Over I) fine = refl
    few_at (First M J) fine = few_seq (place cast M q) (projected cast J q) (few_at M fine.0) (few_within J fine.1)
    few_at (Second M N) fine = few_seq (place cast M q) (place cast N q) (few_at M fine.0) (few_at N fine.1)
    few_at (Both M N) fine = few_par (place cast M q) (place cast N q) (few_at M fine.0) (few_at N fine.1)
        (λ j h k. fine.2 (act_index j) (ready_at M j h) (ready_at N j k))
    few_at (Held k phases M) fine = few_either (role_eq q (leader k)) (leads cast k phases (place cast M q)) (follows cast k q (phases q) (place cast M q))
        (few_leads k phases (place cast M q) fine.1.proper (few_at M fine.0)) (few_follows k (phases q) (place cast M q) fine.1.proper (few_at M fine.0))
    few_at (Spent G) fine = refl

module _ (cast : List Role) where
  -- no act stands twice in what a role offers
  pub few_offers : (M : Mark) → Fine cast M → (q : Role) → distinct_acts (offers q (place cast M q)) ≡ true
  few_offers M fine q = few_at q cast M fine

  -- no key stands twice among the takes that a role offers
  pub few_takes : (M : Mark) → Fine cast M → (q : Role) → distinct_keys (taken_keys (offers q (place cast M q))) ≡ true
  few_takes M fine q = distinct_taken (offers q (place cast M q)) (few_offers M fine q)
