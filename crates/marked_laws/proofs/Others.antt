-- A step of a mark leaves the processes of the other roles as they are.
use Rattle.std.proofs.Common.{◌≡◌, ◌⊎◌, ℕ, suc, List, Bool, true, false, if◌then◌else◌, cond, refl, sym, ap, ap₂, ◌∙◌, subst, inl, inr, ⊎_elim}
use Rattle.std.proofs.lemmas.Bool.{cases_Bool, cond-true, cond-false}
use Rattle.dioc_terms.specs.declared.names.Role.{Role}
use Rattle.dioc_terms.specs.declared.processes.Tag.TheVariants.{Choice, Go, Begin, Out, Turn, End}
use Rattle.dioc_terms.specs.declared.processes.ScopeHead.{ScopeHead}
use Rattle.dioc_terms.specs.Equality.{role_eq}
use Rattle.dioc_terms.specs.Processes as process
use Rattle.dioc_terms.specs.Processes.{Process, Load, Flag, Part, Keep}
use Rattle.dioc_terms.specs.Stores.{Store}
use Rattle.dioc_terms.specs.Terms as term
use Rattle.dioc_terms.specs.Terms.{Term, is_in, others, stamped}
use Rattle.dioc_terms.specs.Values.{eval, is_true}
use Rattle.projection.specs.Projection.{projected}
use Rattle.process_steps.specs.Steps.{Deed, tell, gather}
use Rattle.global_steps.specs.Follow.{BookChoice, updated}
use Rattle.marked_laws.proofs.Constructs.{Phase, Phases, Kind, Branch, Turning, Stopping, Scoped, Releasing, Waits, Told, Inside, Sent, Gone, waits, gone, all_wait, leader, whole, leads, before, outside, follows, untold, ungone}
use Rattle.marked_laws.proofs.Ends.{place_follower}
use Rattle.marked_laws.proofs.Gates.{outsider_waits, untold_head, untold_same, ungone_same, ungone_none}
use Rattle.marked_laws.proofs.Mark.{Mark, Still, Held, Spent, run, place, Fine, Closed, first_fine, both_fine}
use Rattle.marked_laws.proofs.MarkSteps.{Steps, sends, lands, sets, reads, seq_opens, par_opens, seq_first, seq_begins, seq_lags, seq_goes, par_left, par_right, picks, turns, stops, again, leaves, tells, hears, works, arrives, gathers, keeps, replaces, frees, doer_of}
use Rattle.marked_laws.proofs.Roles.{role_cases, updated_here, updated_there}

-- the phase by what is known of it
pub waits_phase : (p : Phase) → waits p ≡ true → p ≡ Waits
waits_phase Waits h = refl
waits_phase p h = cc

pub gone_phase : (p : Phase) → gone p ≡ true → p ≡ Gone
gone_phase Gone h = refl
gone_phase p h = cc

module _ (cast : List Role) where
  -- the leader's process goes by who is still to be told and to be waited for
  pub leads_same : (k : Kind) (phases phases' : Phases) (P : Process) → untold cast k phases' ≡ untold cast k phases
      → ungone cast k phases' ≡ ungone cast k phases → leads cast k phases' P ≡ leads cast k phases P
  leads_same (Branch i r g I J b) phases phases' P h h' = ap (λ qs. process.Seq (tell r qs i Choice (λ q. Flag b)) P) h
  leads_same (Turning i r g I) phases phases' P h h' =
      ap₂ (λ qs rs. process.Seq (tell r qs i Go (λ q. Flag true)) (process.Seq P (process.Seq (gather r rs i Turn) (projected cast (term.While i r g I) r)))) h h'
  leads_same (Stopping i r g I) phases phases' P h h' = ap (λ qs. tell r qs i Go (λ q. Flag false)) h
  leads_same (Scoped i r I extra props level begin B) phases phases' P h h' =
      ap₂ (λ qs rs. process.Seq (tell r qs i Begin begin) (process.Seq P (process.Seq (gather r rs i End)
      (tell r (others cast r (term.Scope i r I extra props level)) i Out (λ q. process.Done))))) h h'
  leads_same (Releasing i r I extra props level) phases phases' P h h' = ap (λ qs. tell r qs i Out (λ q. process.Done)) h

  -- a phase of another role that the leader doesn't see either
  pub phase_other : (k : Kind) (phases : Phases) (M : Mark) (t : Role) (p : Phase) (q : Role) → waits p ≡ waits (phases t) → gone p ≡ gone (phases t)
      → role_eq q t ≡ false → place cast (Held k (updated t p phases) M) q ≡ place cast (Held k phases M) q
  phase_other k phases M t p q h h' differs =
      ap₂ (λ P Q. if role_eq q (leader k) then P else Q)
      (leads_same k phases (updated t p phases) (place cast M q) (untold_same cast k phases t p h) (ungone_same cast k phases t p h'))
      (ap (λ x. follows cast k q x (place cast M q)) (updated_there t p phases q differs))

  -- a phase that makes no difference to the role itself
  pub phase_alike : (k : Kind) (phases : Phases) (M : Mark) (t : Role) (p : Phase) (q : Role) → role_eq q (leader k) ≡ false
      → follows cast k t p (place cast M t) ≡ follows cast k t (phases t) (place cast M t)
      → place cast (Held k (updated t p phases) M) q ≡ place cast (Held k phases M) q
  phase_alike k phases M t p q other h =
      place_follower cast k (updated t p phases) M q other
      ∙ ⊎_elim
      (λ is. subst (λ y. follows cast k y (updated t p phases y) (place cast M y) ≡ follows cast k y (phases y) (place cast M y)) (sym is)
      (ap (λ x. follows cast k t x (place cast M t)) (updated_here t p phases) ∙ h))
      (λ differs. ap (λ x. follows cast k q x (place cast M q)) (updated_there t p phases q differs))
      (role_cases q t)
      ∙ sym (place_follower cast k phases M q other)

  -- at a turn or a scope that is over, a role of it is outside, and another one waits
  pub closed_phase : (k : Kind) (phases : Phases) (M : Mark) → Fine cast (Held k phases M) → Closed cast k phases M → (q : Role) → role_eq q (leader k) ≡ false
      → ((phases q ≡ Gone) × (is_in q (whole k) ≡ true)) ⊎ ((phases q ≡ Waits) × (is_in q (whole k) ≡ false))
  closed_phase k phases M fine closed q other = ⊎_elim
      (λ in_it. inl (gone_phase (phases q) (ungone_none cast k phases q fine.1.proper closed.gathered other in_it), in_it))
      (λ out. inr (outsider_waits cast k phases M fine q out, out))
      (cases_Bool (is_in q (whole k)))

  -- what a follower of such a construct does next
  pub closed_follows : (k : Kind) (phases : Phases) (M : Mark) → Fine cast (Held k phases M) → Closed cast k phases M → (q : Role) → role_eq q (leader k) ≡ false
      → (P : Process) → (is_in q (whole k) ≡ true → outside cast k q ≡ P) → (is_in q (whole k) ≡ false → before cast k q ≡ P)
      → place cast (Held k phases M) q ≡ P
  closed_follows k phases M fine closed q other P in_case out_case =
      place_follower cast k phases M q other
      ∙ ⊎_elim (λ h. ap (λ x. follows cast k q x (place cast M q)) h.0 ∙ in_case h.1) (λ h. ap (λ x. follows cast k q x (place cast M q)) h.0 ∙ out_case h.1)
      (closed_phase k phases M fine closed q other)

  module _ (stores : Role → Store) (choices : ScopeHead → BookChoice) (updates : ℕ) where
    pub place_other : {M N : Mark} {d : Deed} → Steps cast stores choices updates M d N → Fine cast M → (q : Role) → role_eq q (doer_of d) ≡ false
        → place cast N q ≡ place cast M q
    place_other (sends {i = i} {o = o} {a = a} {e = e} {b = b} {x = x}) fine q other =
        cond-false (role_eq q a) process.Skip _ other ∙ sym (cond-false (role_eq q a) (process.Send i o b e) _ other)
    place_other (lands {i = i} {o = o} {a = a} {e = e} {b = b} {x = x}) fine q other =
        sym (ap (λ P. cond (role_eq q a) process.Skip P) (cond-false (role_eq q b) (process.Recv i o a x) process.Skip other) ∙ same_both (role_eq q a))
      where
        same_both : (t : Bool) → cond t process.Skip process.Skip ≡ process.Skip
        same_both true = refl
        same_both false = refl
    place_other (sets {i = i} {x = x} {r = r} {e = e}) fine q other = sym (cond-false (role_eq q r) (process.Assign i x e) process.Skip other)
    place_other (reads {i = i} {x = x} {r = r}) fine q other = sym (cond-false (role_eq q r) (process.Read i x) process.Skip other)
    place_other (seq_opens {I = I} {J = J} s) fine q other = place_other s (first_fine cast I J fine) q other
    place_other (par_opens {I = I} {J = J} s) fine q other = place_other s (both_fine cast I J fine) q other
    place_other (seq_first {J = J} s) fine q other = ap (λ P. process.Seq P (projected cast J q)) (place_other s fine.0 q other)
    place_other (seq_begins {M = M} e s) fine q other = ap (process.Seq (place cast M q)) (place_other s fine.1 q other)
    place_other (seq_lags {K = K} s) fine q other = ap (λ P. process.Seq P (place cast K q)) (place_other s fine.0 q other)
    place_other (seq_goes {M = M} e s) fine q other = ap (process.Seq (place cast M q)) (place_other s fine.1 q other)
    place_other (par_left {K = K} s) fine q other = ap (λ P. process.Par P (place cast K q)) (place_other s fine.0 q other)
    place_other (par_right {M = M} s) fine q other = ap (process.Par (place cast M q)) (place_other s fine.1 q other)
    place_other (picks {i = i} {r = r} {g = g} {I = I} {J = J}) fine q other =
        place_follower cast (Branch i r g I J (is_true (eval g (stores r)))) all_wait (Still (if is_true (eval g (stores r)) then I else J)) q other
    place_other (turns {i = i} {r = r} {g = g} {I = I} e) fine q other = place_follower cast (Turning i r g I) all_wait (Still I) q other
    place_other (stops {i = i} {r = r} {g = g} {I = I} e) fine q other = place_follower cast (Stopping i r g I) all_wait (Still term.Skip) q other
    place_other (again {i = i} {r = r} {g = g} {I = I} {phases = phases} {M = M} e closed) fine q other =
        place_follower cast (Turning i r g I) all_wait (Still I) q other
        ∙ sym (closed_follows (Turning i r g I) phases M fine closed q other (projected cast (term.While i r g I) q) (λ h. refl) (λ h. refl))
    place_other (leaves {i = i} {r = r} {g = g} {I = I} {phases = phases} {M = M} e closed) fine q other =
        place_follower cast (Stopping i r g I) all_wait (Still term.Skip) q other
        ∙ sym (closed_follows (Turning i r g I) phases M fine closed q other (projected cast (term.While i r g I) q) (λ h. refl) (λ h. refl))
    place_other (tells {k = k} {phases = phases} {M = M} {q = t} {qs = ts} e) fine q other =
        phase_alike k phases M t Told q other
        (sym (ap (λ x. follows cast k t x (place cast M t)) (waits_phase (phases t) (untold_head cast k phases t ts e).0)))
    place_other (hears {k = k} {phases = phases} {M = M} {q = t} e) fine q other =
        phase_other k phases M t Inside q (sym (ap waits e)) (sym (ap gone e)) other
    place_other (works {k = k} {phases = phases} {M = M} b s) fine q other =
        ap (λ P. if role_eq q (leader k) then leads cast k phases P else follows cast k q (phases q) P) (place_other s fine.0 q other)
    place_other (arrives {k = k} {phases = phases} {M = M} {q = t} b e f) fine q other =
        phase_other k phases M t Sent q (sym (ap waits e)) (sym (ap gone e)) other
    place_other (gathers {k = k} {phases = phases} {M = M} {q = t} b e f) fine q other =
        phase_alike k phases M t Gone q other (sym (ap (λ x. follows cast k t x (place cast M t)) f))
    place_other (keeps {i = i} {r = r} {I = I} {extra = extra} {props = props} {level = level} e) fine q other =
        place_follower cast (Scoped i r I extra props level (λ q. Keep) I) all_wait (Still I) q other
    place_other (replaces {i = i} {r = r} {I = I} {extra = extra} {props = props} {level = level} {B = B} e) fine q other =
        place_follower cast (Scoped i r I extra props level (λ q. Part (suc updates) (projected cast (stamped B (suc updates) (suc level)) q))
        (stamped B (suc updates) (suc level))) all_wait (Still (stamped B (suc updates) (suc level))) q other
    place_other (frees {i = i} {r = r} {I = I} {extra = extra} {props = props} {level = level} {begin = begin} {B = B} {phases = phases} {M = M} {q = t} closed f) fine q other =
        phase_alike (Releasing i r I extra props level) all_wait (Spent (run M)) t Told q other refl
        ∙ place_follower cast (Releasing i r I extra props level) all_wait (Spent (run M)) q other
        ∙ sym (closed_follows (Scoped i r I extra props level begin B) phases M fine closed q other (before cast (Releasing i r I extra props level) q)
        (λ in_it. sym (cond-true (is_in q (term.Scope i r I extra props level)) _ process.Skip in_it))
        (λ out. cond-false (role_eq q r) _ _ other ∙ cond-false (is_in q (term.Scope i r I extra props level)) _ process.Skip out
        ∙ sym (cond-false (is_in q (term.Scope i r I extra props level)) _ process.Skip out)))
