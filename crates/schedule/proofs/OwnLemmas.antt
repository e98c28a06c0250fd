-- Each take that a role offers in a run is of a message to it.
use Rattle.std.proofs.Common.{◌≡◌, List, [], ◌∷◌, Bool, true, false, if◌then◌else◌, Some, refl, sym, ap, ◌∙◌, subst, ⊎_elim}
use Rattle.std.proofs.lemmas.Bool.{both_ways, or_cases}
use Rattle.std.proofs.lemmas.List.Folds.{list_any-append}
use Rattle.dioc_terms.specs.declared.entries.Act.TheVariants as act
use Rattle.dioc_terms.specs.declared.entries.Entry.{Entry}
use Rattle.dioc_terms.specs.declared.names.Index.{Index}
use Rattle.dioc_terms.specs.declared.names.Role.{Role}
use Rattle.dioc_terms.specs.declared.processes.Key.{Key}
use Rattle.dioc_terms.specs.declared.processes.Tag.{Tag}
use Rattle.dioc_terms.specs.declared.processes.Tag.TheVariants.{Begin, Choice, End, Go, Op, Out, Turn}
use Rattle.dioc_terms.specs.Equality.{act_eq, role_eq}
use Rattle.dioc_terms.specs.Plain.{PlainBundle}
use Rattle.dioc_terms.specs.Processes as process
use Rattle.dioc_terms.specs.Processes.{Done, Load, Process}
use Rattle.dioc_terms.specs.Terms as term
use Rattle.dioc_terms.specs.Terms.{Term, head_of, is_in, others}
use Rattle.projection.specs.Projection.{projected}
use Rattle.process_steps.specs.Steps.{ended, gather, is_offered, key, offers, send_one, tell}
use Rattle.marked_laws.specs.Laws.{IsSound}
use Rattle.network_steps.specs.Network.{Network, network_run}
use Rattle.marked_laws.proofs.Constructs.{Branch, Gone, Inside, Kind, Phase, Phases, Releasing, Scoped, Sent, Stopping, Told, Turning, Waits, before, follows, inside, leader, leads, outside, ungone, untold}
use Rattle.marked_laws.proofs.Equality.{act_same, role_same}
use Rattle.marked_laws.proofs.Mark.{Both, First, Flying, Held, Mark, Over, Second, Spent, Still, place}
use Rattle.marked_laws.proofs.Norm.{offers_alike}
use Rattle.marked_laws.proofs.Premise.{Known}
use Rattle.net_laws.proofs.MoveLemmas.{reached}

take_same : {j k : Key} → act.Take j ≡ act.Take k → j ≡ k
take_same e = cc

module _ (q : Role) where
  -- what the role takes is to it
  abbrev Own : Process → Type 0
  Own P = (j : Key) → is_offered (act.Take j) (offers q P) ≡ true → j.to ≡ q

  own_seq : (P Q : Process) → Own P → Own Q → Own (process.Seq P Q)
  own_seq P Q h h' j k = by_end (ended P) k
    where
      by_end : (b : Bool) → is_offered (act.Take j) (if b then offers q Q else offers q P) ≡ true → j.to ≡ q
      by_end true l = h' j l
      by_end false l = h j l

  own_par : (P Q : Process) → Own P → Own Q → Own (process.Par P Q)
  own_par P Q h h' j k =
      ⊎_elim (h j) (h' j)
      (or_cases (is_offered (act.Take j) (offers q P)) (is_offered (act.Take j) (offers q Q)) (sym (list_any-append (act_eq (act.Take j)) (offers q P) (offers q Q)) ∙ k))

  own_either : (b : Bool) (P Q : Process) → (b ≡ true → Own P) → (b ≡ false → Own Q) → Own (if b then P else Q)
  own_either true P Q h h' = h refl
  own_either false P Q h h' = h' refl

  none : (j : Key) → false ≡ true → j.to ≡ q
  none j h = absurd (both_ways false refl h)

  -- one that takes a single message
  own_one : (k : Key) → k.to ≡ q → (j : Key) → is_offered (act.Take j) (act.Take k ∷ []) ≡ true → j.to ≡ q
  own_one k own j h =
      ⊎_elim (λ is. ap (λ (i : Key). i.to) (take_same (act_same (act.Take j) (act.Take k) is)) ∙ own) (λ nothing. none j nothing) (or_cases (act_eq (act.Take j) (act.Take k)) false h)

  own_tell : (from : Role) (qs : List Role) (i : Index) (t : Tag) (carries : Role → Load) → Own (tell from qs i t carries)
  own_tell from [] i t carries j h = none j h
  own_tell from (x ∷ rest) i t carries j h = none j h

  own_gather : (to : Role) → to ≡ q → (qs : List Role) (i : Index) (t : Tag) → Own (gather to qs i t)
  own_gather to is [] i t j h = none j h
  own_gather to is (x ∷ rest) i t j h = own_one (key x to i t) is j h

  module _ (cast : List Role) where
    own_within : (I : Term) → Own (projected cast I q)
    own_within term.Skip = λ j h. none j h
    own_within (term.Com i o a e b x) =
        own_either (role_eq q a) (process.Send i o b e) (if role_eq q b then process.Recv i o a x else process.Skip) (λ is j h. none j h)
        (λ isnt. own_either (role_eq q b) (process.Recv i o a x) process.Skip (λ is. own_one (key a q i (Op o)) refl) (λ not_it j h. none j h))
    own_within (term.Set i x r e) = own_either (role_eq q r) (process.Assign i x e) process.Skip (λ is j h. none j h) (λ isnt j h. none j h)
    own_within (term.Input i x r) = own_either (role_eq q r) (process.Read i x) process.Skip (λ is j h. none j h) (λ isnt j h. none j h)
    own_within (term.Seq I J) = own_seq (projected cast I q) (projected cast J q) (own_within I) (own_within J)
    own_within (term.Par I J) = own_par (projected cast I q) (projected cast J q) (own_within I) (own_within J)
    own_within (term.If i r g I J) =
        own_either (role_eq q r) (process.IfLead i g (others cast r (term.If i r g I J)) (projected cast I q) (projected cast J q))
        (if is_in q (term.If i r g I J) then process.IfFollow i r (projected cast I q) (projected cast J q) else process.Skip) (λ is j h. none j h)
        (λ isnt. own_either (is_in q (term.If i r g I J)) (process.IfFollow i r (projected cast I q) (projected cast J q)) process.Skip
        (λ is. own_one (key r q i Choice) refl) (λ not_it j h. none j h))
    own_within (term.While i r g I) =
        own_either (role_eq q r) (process.WhileLead i g (others cast r (term.While i r g I)) (projected cast I q))
        (if is_in q (term.While i r g I) then process.WhileFollow i r (projected cast I q) else process.Skip) (λ is j h. none j h)
        (λ isnt. own_either (is_in q (term.While i r g I)) (process.WhileFollow i r (projected cast I q)) process.Skip
        (λ is. own_one (key r q i Go) refl) (λ not_it j h. none j h))
    own_within (term.Scope i r I extra props level) =
        let own_part : Process = if is_in q I then projected cast I q else process.Skip in
        own_either (role_eq q r) (process.ScopeLead (head_of cast i r I extra props level) (others cast r (term.Scope i r I extra props level)) (projected cast I q))
        (if is_in q (term.Scope i r I extra props level) then process.ScopeFollow i r own_part else process.Skip) (λ is j h. none j h)
        (λ isnt. own_either (is_in q (term.Scope i r I extra props level)) (process.ScopeFollow i r own_part) process.Skip
        (λ is. own_one (key r q i Begin) refl) (λ not_it j h. none j h))

    -- the leader of a construct
    own_leads : (k : Kind) (phases : Phases) (P : Process) → leader k ≡ q → Own P → Own (leads cast k phases P)
    own_leads (Branch i r g I J b) phases P is own =
        own_seq (tell r (untold cast (Branch i r g I J b) phases) i Choice (λ y. process.Flag b)) P
        (own_tell r (untold cast (Branch i r g I J b) phases) i Choice (λ y. process.Flag b)) own
    own_leads (Turning i r g I) phases P is own =
        let T : Process = tell r (untold cast (Turning i r g I) phases) i Go (λ y. process.Flag true) in
        let G : Process = gather r (ungone cast (Turning i r g I) phases) i Turn in
        let W : Process = projected cast (term.While i r g I) r in
        own_seq T (process.Seq P (process.Seq G W)) (own_tell r (untold cast (Turning i r g I) phases) i Go (λ y. process.Flag true))
        (own_seq P (process.Seq G W) own
        (own_seq G W (own_gather r is (ungone cast (Turning i r g I) phases) i Turn)
        (subst (λ x. Own (projected cast (term.While i r g I) x)) (sym is) (own_within (term.While i r g I)))))
    own_leads (Stopping i r g I) phases P is own = own_tell r (untold cast (Stopping i r g I) phases) i Go (λ y. process.Flag false)
    own_leads (Scoped i r I extra props level begin B) phases P is own =
        let k : Kind = Scoped i r I extra props level begin B in
        let T : Process = tell r (untold cast k phases) i Begin begin in
        let G : Process = gather r (ungone cast k phases) i End in
        let O : Process = tell r (others cast r (term.Scope i r I extra props level)) i Out (λ y. Done) in
        own_seq T (process.Seq P (process.Seq G O)) (own_tell r (untold cast k phases) i Begin begin)
        (own_seq P (process.Seq G O) own
        (own_seq G O (own_gather r is (ungone cast k phases) i End) (own_tell r (others cast r (term.Scope i r I extra props level)) i Out (λ y. Done))))
    own_leads (Releasing i r I extra props level) phases P is own = own_tell r (untold cast (Releasing i r I extra props level) phases) i Out (λ y. Done)

    own_before : (k : Kind) → Own (before cast k q)
    own_before (Releasing i r I extra props level) =
        own_either (is_in q (term.Scope i r I extra props level)) (process.Gather (key r q i Out ∷ [])) process.Skip (λ is. own_one (key r q i Out) refl) (λ isnt j h. none j h)
    own_before (Branch i r g I J b) = own_within (term.If i r g I J)
    own_before (Turning i r g I) = own_within (term.While i r g I)
    own_before (Stopping i r g I) = own_within (term.While i r g I)
    own_before (Scoped i r I extra props level begin B) = own_within (term.Scope i r I extra props level)

    own_outside : (k : Kind) → Own (outside cast k q)
    own_outside (Branch i r g I J b) = λ j h. none j h
    own_outside (Turning i r g I) = own_within (term.While i r g I)
    own_outside (Stopping i r g I) = λ j h. none j h
    own_outside (Scoped i r I extra props level begin B) = own_one (key r q i Out) refl
    own_outside (Releasing i r I extra props level) = λ j h. none j h

    own_inside : (k : Kind) (P : Process) → Own P → Own (inside cast k q P)
    own_inside (Branch i r g I J b) P own = own
    own_inside (Turning i r g I) P own =
        let S : Process = send_one (key q r i Turn) Done in
        let W : Process = projected cast (term.While i r g I) q in
        own_seq P (process.Seq S W) own (own_seq S W (λ j h. none j h) (own_within (term.While i r g I)))
    own_inside (Stopping i r g I) P own = λ j h. none j h
    own_inside (Scoped i r I extra props level begin B) P own =
        let S : Process = send_one (key q r i End) Done in
        let G : Process = process.Gather (key r q i Out ∷ []) in
        own_seq P (process.Seq S G) own (own_seq S G (λ j h. none j h) (own_one (key r q i Out) refl))
    own_inside (Releasing i r I extra props level) P own = λ j h. none j h

    own_follows : (k : Kind) (p : Phase) (P : Process) → Own P → Own (follows cast k q p P)
    own_follows k Waits P own = own_before k
    own_follows k Told P own = own_before k
    own_follows k Inside P own = own_inside k P own
    own_follows k Sent P own = own_outside k
    own_follows k Gone P own = own_outside k

    own_at : (M : Mark) → Own (place cast M q)
    own_at (Still I) = own_within I
    own_at (Flying i o a e b x v) =
        own_either (role_eq q a) process.Skip (if role_eq q b then process.Recv i o a x else process.Skip) (λ is j h. none j h)
        (λ isnt. own_either (role_eq q b) (process.Recv i o a x) process.Skip (λ is. own_one (key a q i (Op o)) refl) (λ not_it j h. none j h))
    own_at (Over I) = λ j h. none j h
    own_at (First M J) = own_seq (place cast M q) (projected cast J q) (own_at M) (own_within J)
    own_at (Second M N) = own_seq (place cast M q) (place cast N q) (own_at M) (own_at N)
    own_at (Both M N) = own_par (place cast M q) (place cast N q) (own_at M) (own_at N)
    own_at (Held k phases M) =
        own_either (role_eq q (leader k)) (leads cast k phases (place cast M q)) (follows cast k q (phases q) (place cast M q))
        (λ is. own_leads k phases (place cast M q) (sym (role_same q (leader k) is)) (own_at M))
        (λ isnt. own_follows k (phases q) (place cast M q) (own_at M))
    own_at (Spent G) = λ j h. none j h

-- a take that a role offers in a run is of a message to it
pub own_takes : Known → (b : PlainBundle) (H : List Entry) (N : Network) → IsSound b → network_run b H ≡ Some N
    → (q : Role) (j : Key) → is_offered (act.Take j) (offers q (N.processes q)) ≡ true → j.to ≡ q
own_takes known b H N sound run q j h =
    let at = reached known b sound H N run in
    own_at q b.cast at.0 j (ap (is_offered (act.Take j)) (sym (offers_alike q (N.processes q) (place b.cast at.0 q) ((at.1).places q))) ∙ h)
