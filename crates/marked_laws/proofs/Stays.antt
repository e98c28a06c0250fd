-- A step leaves a mark fine.
use Rattle.std.proofs.Common.{◌≡◌, ℕ, suc, List, Bool, true, false, ◌&&◌, ◌||◌, not, if◌then◌else◌, refl, sym, ap, ◌∙◌, subst, inl, inr, ⊎_elim}
use Rattle.std.proofs.lemmas.Bool.{and_parts, or_parts, both_ways, false_from_ne_true, not-true}
use Rattle.dioc_terms.specs.declared.names.Role.{Role}
use Rattle.dioc_terms.specs.declared.names.Index.{Index}
use Rattle.dioc_terms.specs.declared.values.Value.{Value}
use Rattle.dioc_terms.specs.declared.processes.ScopeHead.{ScopeHead}
use Rattle.dioc_terms.specs.Equality.{role_eq, member}
use Rattle.dioc_terms.specs.Expressions.{Expression}
use Rattle.dioc_terms.specs.Processes.{Keep, Part}
use Rattle.dioc_terms.specs.Stores.{Store}
use Rattle.dioc_terms.specs.Terms as term
use Rattle.dioc_terms.specs.Terms.{Term, is_in, others, head_of, stamped}
use Rattle.dioc_terms.specs.Values.{eval, is_true}
use Rattle.projection.specs.Projection.{projected}
use Rattle.process_steps.specs.Steps.{Deed, ended}
use Rattle.global_steps.specs.Follow.{BookChoice, TakesRule, updated}
use Rattle.marked_laws.proofs.Constructs.{Phase, Phases, Kind, Branch, Turning, Stopping, Scoped, Releasing, Waits, Told, Inside, Sent, Gone, waits, is_early, is_late, all_wait, leader, index, whole, body, Begins, Busy}
use Rattle.marked_laws.proofs.Ends.{all_over}
use Rattle.marked_laws.proofs.Gates.{untold_head, closed_ended}
use Rattle.marked_laws.proofs.Groups.{begins_light}
use Rattle.marked_laws.proofs.Keeps.{origin_step, at_step, light_step, stamped_new, index_in}
use Rattle.marked_laws.proofs.Mark.{Mark, Still, Spent, origin, run, At, place, Sound, Fine, first_fine, both_fine}
use Rattle.marked_laws.proofs.MarkSteps.{Steps, sends, lands, sets, reads, seq_opens, par_opens, seq_first, seq_begins, seq_lags, seq_goes, par_left, par_right, picks, turns, stops, again, leaves, tells, hears, works, arrives, gathers, keeps, replaces, frees, doer_of, SoundAnswers, Old}
use Rattle.marked_laws.proofs.Others.{place_other, waits_phase}
use Rattle.marked_laws.proofs.Proper.{Proper, Linked, proper_branch, proper_while, proper_scope, proper_skip}
use Rattle.marked_laws.proofs.RoleLists.{filter_member, filter_head}
use Rattle.marked_laws.proofs.Roles.{role_cases, updated_here, updated_there}

module _ (cast : List Role) where
  -- a construct that has just been begun
  begun : (k : Kind) (M : Mark) → Proper cast (whole k) → origin M ≡ body k → (At (index k) M → ⊥)
      → ((q : Role) → is_in q (whole k) ≡ false → is_in q (body k) ≡ false) → Begins cast k
      → ((q : Role) → place cast M q ≡ projected cast (origin M) q) → Sound cast k all_wait M
  begun k M proper is_body own inner begins fresh = record {
    proper = proper;
    is_body = is_body;
    own = own;
    inner = inner;
    begins = begins;
    known = λ q h. absurd (both_ways true h refl);
    fresh = λ q h other. fresh q;
    through = λ q h. absurd (both_ways false refl h);
  }

  -- a construct in which one role goes on by a phase
  rephase : (k : Kind) (phases : Phases) (M : Mark) → Sound cast k phases M → (t : Role) (p : Phase) → (role_eq t (leader k) ≡ false) × (is_in t (whole k) ≡ true)
      → (is_early p ≡ true → place cast M t ≡ projected cast (origin M) t) → (is_late p ≡ true → ended (place cast M t) ≡ true)
      → Sound cast k (updated t p phases) M
  rephase k phases M sound t p known fresh through = record {
    proper = sound.proper;
    is_body = sound.is_body;
    own = sound.own;
    inner = sound.inner;
    begins = sound.begins;
    known = λ q h. ⊎_elim
        (λ is. subst (λ y. (role_eq y (leader k) ≡ false) × (is_in y (whole k) ≡ true)) (sym is) known)
        (λ differs. sound.known q (sym (ap waits (updated_there t p phases q differs)) ∙ h)) (role_cases q t);
    fresh = λ q h other. ⊎_elim
        (λ is. subst (λ y. place cast M y ≡ projected cast (origin M) y) (sym is)
        (fresh (sym (ap is_early (updated_here t p phases)) ∙ subst (λ y. is_early (updated t p phases y) ≡ true) is h)))
        (λ differs. sound.fresh q (sym (ap is_early (updated_there t p phases q differs)) ∙ h) other) (role_cases q t);
    through = λ q h. ⊎_elim
        (λ is. subst (λ y. ended (place cast M y) ≡ true) (sym is)
        (through (sym (ap is_late (updated_here t p phases)) ∙ subst (λ y. is_late (updated t p phases y) ≡ true) is h)))
        (λ differs. sound.through q (sym (ap is_late (updated_there t p phases q differs)) ∙ h)) (role_cases q t);
  }

  inner_branch : (i : Index) (r : Role) (g : Expression) (I J : Term) (b : Bool) (q : Role) → is_in q (term.If i r g I J) ≡ false
      → is_in q (if b then I else J) ≡ false
  inner_branch i r g I J true q h = (or_parts (role_eq q r) (is_in q I) (or_parts (role_eq q r || is_in q I) (is_in q J) h).0).1
  inner_branch i r g I J false q h = (or_parts (role_eq q r || is_in q I) (is_in q J) h).1

  inner_scope : (i : Index) (r : Role) (I : Term) (extra : List Role) (props : List (List ℕ × Value)) (level : ℕ) (q : Role)
      → is_in q (term.Scope i r I extra props level) ≡ false → is_in q I ≡ false
  inner_scope i r I extra props level q h = (or_parts (role_eq q r) (is_in q I) (or_parts (role_eq q r || is_in q I) (member q extra) h).0).1

  late_waits : (p : Phase) → is_late p ≡ true → waits p ≡ false
  late_waits Sent h = refl
  late_waits Gone h = refl
  late_waits Waits h = cc
  late_waits Told h = cc
  late_waits Inside h = cc

  -- who acts inside a construct is neither early there nor late
  busy_early : (k : Kind) (phases : Phases) (q t : Role) → Busy cast k phases t → is_early (phases q) ≡ true → role_eq q (leader k) ≡ false → role_eq q t ≡ false
  busy_early k phases q t busy early other = ⊎_elim
      (λ is. ⊎_elim
      (λ lead. absurd (both_ways (role_eq q (leader k)) other (subst (λ y. role_eq y (leader k) ≡ true) (sym is) lead.0)))
      (λ follow. absurd (both_ways false refl (sym (ap is_early (subst (λ y. phases y ≡ Inside) (sym is) follow.1)) ∙ early)))
      busy)
      (λ differs. differs) (role_cases q t)

  busy_late : (k : Kind) (phases : Phases) (M : Mark) (q t : Role) → Sound cast k phases M → Busy cast k phases t → is_late (phases q) ≡ true → role_eq q t ≡ false
  busy_late k phases M q t sound busy late = ⊎_elim
      (λ is. ⊎_elim
      (λ lead. absurd (both_ways (role_eq q (leader k)) (sound.known q (late_waits (phases q) late)).0 (subst (λ y. role_eq y (leader k) ≡ true) (sym is) lead.0)))
      (λ follow. absurd (both_ways false refl (sym (ap is_late (subst (λ y. phases y ≡ Inside) (sym is) follow.1)) ∙ late)))
      busy)
      (λ differs. differs) (role_cases q t)

  module _ (stores : Role → Store) (choices : ScopeHead → BookChoice) (updates : ℕ) (sound : SoundAnswers cast choices updates) where
    -- the roles of an update's body are of the scope
    inner_update : (i : Index) (r : Role) (I : Term) (extra : List Role) (props : List (List ℕ × Value)) (level : ℕ) (name : List ℕ) (B : Term)
        → choices (head_of cast i r I extra props level) ≡ TakesRule name B → (q : Role) → is_in q (term.Scope i r I extra props level) ≡ false
        → is_in q (stamped B (suc updates) (suc level)) ≡ false
    inner_update i r I extra props level name B e q h = false_from_ne_true _ (λ in_it.
        both_ways (is_in q (term.Scope i r I extra props level)) h
        (filter_member (λ s. is_in s (term.Scope i r I extra props level)) cast q (sound.inner (head_of cast i r I extra props level) name B e q in_it)).0)

    pub fine_step : {M N : Mark} {d : Deed} → Steps cast stores choices updates M d N → Fine cast M → Old updates M → Fine cast N
    fine_step sends fine old = fine
    fine_step lands fine old = tt
    fine_step sets fine old = tt
    fine_step reads fine old = tt
    fine_step (seq_opens {I = I} {J = J} s) fine old = fine_step s (first_fine cast I J fine) old
    fine_step (par_opens {I = I} {J = J} s) fine old = fine_step s (both_fine cast I J fine) old
    fine_step (seq_first {J = J} s) fine old = (
      fine_step s fine.0 (λ n a. old n (inl a)),
      fine.1,
      λ n a b. ⊎_elim (λ at. fine.2 n at b) (λ new. old n (inr b) new) (at_step cast stores choices updates s n a),
      subst (λ I. Linked I J) (sym (origin_step cast stores choices updates s)) fine.3,
    )
    fine_step (seq_begins {M = M} e s) fine old = (
      fine.0,
      fine_step s fine.1 (λ n a. old n (inr a)),
      λ n a b. ⊎_elim (λ at. fine.2 n a at) (λ new. old n (inl a) new) (at_step cast stores choices updates s n b),
      begins_light cast stores choices updates M fine e s,
    )
    fine_step (seq_lags s) fine old = (
      fine_step s fine.0 (λ n a. old n (inl a)),
      fine.1,
      λ n a b. ⊎_elim (λ at. fine.2 n at b) (λ new. old n (inr b) new) (at_step cast stores choices updates s n a),
      light_step cast stores choices updates s fine.3,
    )
    fine_step (seq_goes e s) fine old = (
      fine.0,
      fine_step s fine.1 (λ n a. old n (inr a)),
      λ n a b. ⊎_elim (λ at. fine.2 n a at) (λ new. old n (inl a) new) (at_step cast stores choices updates s n b),
      fine.3,
    )
    fine_step (par_left s) fine old = (
      fine_step s fine.0 (λ n a. old n (inl a)),
      fine.1,
      λ n a b. ⊎_elim (λ at. fine.2 n at b) (λ new. old n (inr b) new) (at_step cast stores choices updates s n a),
    )
    fine_step (par_right s) fine old = (
      fine.0,
      fine_step s fine.1 (λ n a. old n (inr a)),
      λ n a b. ⊎_elim (λ at. fine.2 n a at) (λ new. old n (inl a) new) (at_step cast stores choices updates s n b),
    )
    fine_step (picks {i = i} {r = r} {g = g} {I = I} {J = J}) fine old =
        let b : Bool = is_true (eval g (stores r)) in
        let parts = proper_branch cast i r g I J b fine in
        (parts.0, begun (Branch i r g I J b) (Still (if b then I else J)) fine refl parts.1 (inner_branch i r g I J b) tt (λ q. refl))
    fine_step (turns {i = i} {r = r} {g = g} {I = I} e) fine old =
        let parts = proper_while cast i r g I fine in
        (parts.0, begun (Turning i r g I) (Still I) fine refl parts.1 (λ q h. (or_parts (role_eq q r) (is_in q I) h).1) tt (λ q. refl))
    fine_step (stops {i = i} {r = r} {g = g} {I = I} e) fine old =
        (proper_skip cast, begun (Stopping i r g I) (Still term.Skip) fine refl (λ h. h) (λ q h. refl) tt (λ q. refl))
    fine_step (again {i = i} {r = r} {g = g} {I = I} e c) fine old =
        let parts = proper_while cast i r g I fine.1.proper in
        (parts.0, begun (Turning i r g I) (Still I) fine.1.proper refl parts.1 (λ q h. (or_parts (role_eq q r) (is_in q I) h).1) tt (λ q. refl))
    fine_step (leaves {i = i} {r = r} {g = g} {I = I} e c) fine old =
        (proper_skip cast, begun (Stopping i r g I) (Still term.Skip) fine.1.proper refl (λ h. h) (λ q h. refl) tt (λ q. refl))
    fine_step (tells {k = k} {phases = phases} {M = M} {q = t} {qs = ts} e) fine old =
        let head = untold_head cast k phases t ts e in (
          fine.0,
          rephase k phases M fine.1 t Told (head.1, head.2)
              (λ h. fine.1.fresh t (ap is_early (waits_phase (phases t) head.0)) head.1) (λ h. absurd (both_ways false refl h)),
        )
    fine_step (hears {k = k} {phases = phases} {M = M} {q = t} e) fine old =
        (fine.0, rephase k phases M fine.1 t Inside (fine.1.known t (ap waits e)) (λ h. absurd (both_ways false refl h)) (λ h. absurd (both_ways false refl h)))
    fine_step (works {k = k} {phases = phases} {M = M} {N = N} {d = d} b s) fine old = (
      fine_step s fine.0 (λ n a. old n (inr a)),
      record {
        proper = fine.1.proper;
        is_body = origin_step cast stores choices updates s ∙ fine.1.is_body;
        own = λ a. ⊎_elim (λ at. fine.1.own at) (λ new. old (index k) (inl (index_in k)) new) (at_step cast stores choices updates s (index k) a);
        inner = fine.1.inner;
        begins = fine.1.begins;
        known = fine.1.known;
        fresh = λ q h other. place_other cast stores choices updates s fine.0 q (busy_early k phases q (doer_of d) b h other)
            ∙ fine.1.fresh q h other ∙ ap (λ I. projected cast I q) (sym (origin_step cast stores choices updates s));
        through = λ q h. ap ended (place_other cast stores choices updates s fine.0 q (busy_late k phases M q (doer_of d) fine.1 b h)) ∙ fine.1.through q h;
      },
    )
    fine_step (arrives {k = k} {phases = phases} {M = M} {q = t} b e f) fine old =
        (fine.0, rephase k phases M fine.1 t Sent (fine.1.known t (ap waits e)) (λ h. absurd (both_ways false refl h)) (λ h. f))
    fine_step (gathers {k = k} {phases = phases} {M = M} {q = t} b e f) fine old =
        (fine.0, rephase k phases M fine.1 t Gone (fine.1.known t (ap waits f)) (λ h. absurd (both_ways false refl h)) (λ h. fine.1.through t (ap is_late f)))
    fine_step (keeps {i = i} {r = r} {I = I} {extra = extra} {props = props} {level = level} e) fine old =
        let parts = proper_scope cast i r I extra props level fine in (
          parts.0,
          begun (Scoped i r I extra props level (λ q. Keep) I) (Still I) fine refl parts.1 (inner_scope i r I extra props level)
              (inl (refl, λ q. refl)) (λ q. refl),
        )
    fine_step (replaces {i = i} {r = r} {I = I} {extra = extra} {props = props} {level = level} {name = name} {B = B} e) fine old =
        let C : Term = stamped B (suc updates) (suc level) in (
          sound.proper (head_of cast i r I extra props level) name B e,
          begun (Scoped i r I extra props level (λ q. Part (suc updates) (projected cast C q)) C) (Still C) fine refl
              (λ h. old i (inl refl) (stamped_new B (suc updates) (suc level) i h)) (inner_update i r I extra props level name B e)
              (inr (suc updates, λ q. refl)) (λ q. refl),
        )
    fine_step (frees {i = i} {r = r} {I = I} {extra = extra} {props = props} {level = level} {begin = begin} {B = B} {phases = phases} {M = M} {q = t} {qs = ts} c e) fine old =
        let W : Term = term.Scope i r I extra props level in
        let who = and_parts (is_in t W) (not (role_eq t r)) (filter_head (λ q. is_in q W && not (role_eq q r)) cast t ts e).0 in (
          all_over cast M fine.0 (closed_ended cast (Scoped i r I extra props level begin B) phases M fine c),
          rephase (Releasing i r I extra props level) all_wait (Spent (run M))
              (begun (Releasing i r I extra props level) (Spent (run M)) fine.1.proper refl (λ h. h) (λ q h. refl) tt (λ q. refl)) t Told
              (not-true (role_eq t r) who.1, who.0) (λ h. refl) (λ h. refl),
        )
