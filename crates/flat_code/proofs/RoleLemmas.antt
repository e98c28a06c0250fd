-- The ops of a role's process, by those of the parts of the choreography.
use Rattle.std.proofs.Common.{◌≡◌, ℕ, suc, List, [], ◌∷◌, ◌++◌, Bool, true, false, ◌&&◌, not, cond, filter, drop, length, nat_lt, take, append_assoc, Result, refl, sym, ap, ap₂, ◌∙◌, subst}
use Rattle.std.specs.Result.{IfOk}
use Rattle.std.proofs.lemmas.Result.{IfOk-weaker}
use Rattle.std.specs.List.{list_all}
use Rattle.std.proofs.lemmas.Bool.{and_from, and_parts, cond-false, cond-true}
use Rattle.std.proofs.lemmas.List.{take-append-drop}
use Rattle.dioc_terms.specs.declared.choreographies.Choreo.{Choreo}
use Rattle.dioc_terms.specs.declared.names.Index.{Index}
use Rattle.dioc_terms.specs.declared.names.Role.{Role}
use Rattle.dioc_terms.specs.declared.processes.ScopeHead.{ScopeHead}
use Rattle.dioc_terms.specs.declared.values.Value.{Value}
use Rattle.dioc_terms.specs.Equality.{role_eq}
use Rattle.dioc_terms.specs.Expressions.{Expression}
use Rattle.dioc_terms.specs.Leaves.{is_leaf_term}
use Rattle.dioc_terms.specs.Parts.{has_body, body_of, has_two, first_of, second_of}
use Rattle.dioc_terms.specs.Processes as process
use Rattle.dioc_terms.specs.Processes.{Process, Skip}
use Rattle.dioc_terms.specs.Terms as term
use Rattle.dioc_terms.specs.Terms.{Term, term}
use Rattle.flat_code.specs.declared.ops.Op.{Op}
use Rattle.flat_code.specs.declared.ops.Op.TheVariants as op
use Rattle.flat_code.specs.declared.role_code.Added.{Added}
use Rattle.flat_code.specs.Layout.{IsLaid}
use Rattle.flat_code.specs.Parts.{with_body, with_two}
use Rattle.flat_code.specs.Places.{AreBelow, Extends, IsForm, IsProcessAt, are_placed, at, part_places}
use Rattle.flat_code.specs.RoleCode.{IsPartAdded, IsPartPushed, TwoPartsAreAdded}
use Rattle.flat_code.proofs.LayoutLemmas.{added_behind, added_laid, two_added}
use Rattle.flat_code.proofs.PartLemmas.{of_body, of_none, of_two}
use Rattle.flat_code.proofs.PlaceLemmas.{cut_back, extends_through, keeps_is_at}
use Rattle.process_steps.specs.Steps.{ended}
use Rattle.projection.specs.Leaders.{leads}
use Rattle.projection.specs.Named.{flagged, named_in, names_itself}
use Rattle.projection.specs.Projection.{projected}
use Rattle.projection.proofs.Flags.{both_named, leaf_itself}
use Rattle.projection.proofs.Leading.{follows_choice, follows_loop, follows_scope, leads_choice, leads_loop, leads_scope, out_of_leaf}
use Rattle.projection.proofs.Lemmas.{outsiders-have_ended}

-- one part behind another
pub two_parts : (old mid new : List Op) (a b : Added) (P Q : Process) → IsPartAdded old mid a P → Extends mid new → IsPartAdded mid new b Q → TwoPartsAreAdded old new a b P Q
two_parts old mid new a b P Q first more second = record {
  added = two_added old mid new a.place b.place P Q first.added more second.added;
  first_over = first.over;
  second_over = second.over;
}

-- An op behind its parts.
module _ {E : Type 0} (made : Result Added E) (old all new : List Op) (o : Op) (over : Bool) (pushed : IfOk made (λ c. IsPartPushed all new o over c)) where
  pub two_closed : (a b : Added) (P : Process) → has_two P ≡ true → TwoPartsAreAdded old all a b (first_of P) (second_of P)
      → IsForm o (a.place ∷ b.place ∷ []) (λ done. with_two P (at done a.place) (at done b.place)) → over ≡ ended P → IfOk made (λ c. IsPartAdded old new c P)
  two_closed a b P two both form is =
      IfOk-weaker made (λ c. IsPartPushed all new o over c) (λ c. IsPartAdded old new c P)
      (λ c p. record {
        added = added_behind old all new o P c.place (of_two old all a.place b.place o P two both.added form) p.pushed;
        over = p.is_over ∙ is;
      }) pushed

  pub body_closed : (a : Added) (P : Process) → has_body P ≡ true → IsPartAdded old all a (body_of P)
      → IsForm o (a.place ∷ []) (λ done. with_body P (at done a.place)) → over ≡ ended P → IfOk made (λ c. IsPartAdded old new c P)
  body_closed a P one body form is =
      IfOk-weaker made (λ c. IsPartPushed all new o over c) (λ c. IsPartAdded old new c P)
      (λ c p. record {
        added = added_behind old all new o P c.place (of_body old all a.place o P one body.added form) p.pushed;
        over = p.is_over ∙ is;
      }) pushed

pub none_closed : {E : Type 0} (made : Result Added E) (old new : List Op) (o : Op) (over : Bool) (P : Process) → has_two P ≡ false → has_body P ≡ false
    → IsForm o [] (λ done. P) → over ≡ ended P → IfOk made (λ c. IsPartPushed old new o over c) → IfOk made (λ c. IsPartAdded old new c P)
none_closed made old new o over P no_two no_body form is pushed =
    IfOk-weaker made (λ c. IsPartPushed old new o over c) (λ c. IsPartAdded old new c P)
    (λ c p. record {
      added = added_behind old old new o P c.place (of_none old o P no_two no_body form) p.pushed;
      over = p.is_over ∙ is;
    }) pushed

-- `Skip` alone
pub skip_closed : {E : Type 0} (made : Result Added E) (old new : List Op) → IfOk made (λ c. IsPartPushed old new op.Skip true c) → IfOk made (λ c. IsPartAdded old new c Skip)
skip_closed made old new pushed = none_closed made old new op.Skip true Skip refl refl (record { places_are = refl; stands = λ done. refl }) refl pushed

pub skip_closed_at : {E : Type 0} (made : Result Added E) (mid old new : List Op) → mid ≡ old → IfOk made (λ c. IsPartPushed mid new op.Skip true c) → IfOk made (λ c. IsPartAdded old new c Skip)
skip_closed_at made mid old new same pushed = subst (λ ops. IfOk made (λ c. IsPartAdded ops new c Skip)) same (skip_closed made mid new pushed)

-- The parts of an op stand among the ops.
pub none_below : (ops : List Op) (o : Op) → part_places o ≡ [] → AreBelow (length ops) (part_places o)
none_below ops o none = subst (λ ps. AreBelow (length ops) ps) (sym none) tt

pub one_below : (old all : List Op) (a : Added) (P : Process) (o : Op) → part_places o ≡ a.place ∷ [] → IsPartAdded old all a P → AreBelow (length all) (part_places o)
one_below old all a P o places part = subst (λ ps. AreBelow (length all) ps) (sym places) (part.added.stands.inside, tt)

pub two_below : (old mid all : List Op) (a b : Added) (P Q : Process) (o : Op) → part_places o ≡ a.place ∷ b.place ∷ []
    → IsPartAdded old mid a P → Extends mid all → IsPartAdded mid all b Q → AreBelow (length all) (part_places o)
two_below old mid all a b P Q o places first more second =
    let stays : IsProcessAt all a.place P = keeps_is_at mid all a.place P more first.added.stands in
    subst (λ ps. AreBelow (length all) ps) (sym places) (stays.inside, (second.added.stands.inside, tt))

-- The parts of a sequence and of a parallel, as the code finds them.
pub seq_at : {W : Term} (x y x' y' : Choreo) → W ≡ term.Seq (term x) (term y) → x' ≡ x → y' ≡ y → W ≡ term.Seq (term x') (term y')
seq_at {W} x y x' y' is first second = is ∙ ap₂ (λ (a b : Choreo). term.Seq (term a) (term b)) (sym first) (sym second)

pub par_at : {W : Term} (x y x' y' : Choreo) → W ≡ term.Par (term x) (term y) → x' ≡ x → y' ≡ y → W ≡ term.Par (term x') (term y')
par_at {W} x y x' y' is first second = is ∙ ap₂ (λ (a b : Choreo). term.Par (term a) (term b)) (sym first) (sym second)

module _ {E : Type 0} (W I J : Term) (made : Result Added E) (cast : List Role) (r : Role) (old mid all new : List Op) (a b : Added) (over : Bool)
    (first : IsPartAdded old mid a (projected cast I r)) (more : Extends mid all) (second : IsPartAdded mid all b (projected cast J r)) (both : over ≡ (a.ended && b.ended)) where
  parts : TwoPartsAreAdded old all a b (projected cast I r) (projected cast J r)
  parts = two_parts old mid all a b (projected cast I r) (projected cast J r) first more second

  is_over : over ≡ (ended (projected cast I r) && ended (projected cast J r))
  is_over = both ∙ ap (λ x. x && b.ended) first.over ∙ ap (λ x. ended (projected cast I r) && x) second.over

  pub seq_added : W ≡ term.Seq I J → IfOk made (λ c. IsPartPushed all new (op.Seq a.place b.place) over c) → IfOk made (λ c. IsPartAdded old new c (projected cast W r))
  seq_added is pushed =
      subst (λ w. IfOk made (λ c. IsPartAdded old new c (projected cast w r))) (sym is)
      (two_closed made old all new (op.Seq a.place b.place) over pushed a b (process.Seq (projected cast I r) (projected cast J r)) refl parts
      (record { places_are = refl; stands = λ done. refl }) is_over)

  pub par_added : W ≡ term.Par I J → IfOk made (λ c. IsPartPushed all new (op.Par a.place b.place) over c) → IfOk made (λ c. IsPartAdded old new c (projected cast W r))
  par_added is pushed =
      subst (λ w. IfOk made (λ c. IsPartAdded old new c (projected cast w r))) (sym is)
      (two_closed made old all new (op.Par a.place b.place) over pushed a b (process.Par (projected cast I r) (projected cast J r)) refl parts
      (record { places_are = refl; stands = λ done. refl }) is_over)

-- A construct that the role leads.
pub led_choice : {E : Type 0} {W : Term} {i : Index} {q : Role} {g : Expression} {I J : Term} (made : Result Added E) (cast : List Role) (r : Role) (told : List Role) (flags : List Bool)
    (old mid all new : List Op) (a b : Added) (o : Op)
    → W ≡ term.If i q g I J → leads r W ≡ true → told ≡ filter (λ p. not (role_eq p q)) (flagged cast flags) → flags ≡ named_in cast W
    → IsPartAdded old mid a (projected cast I r) → Extends mid all → IsPartAdded mid all b (projected cast J r)
    → IsForm o (a.place ∷ b.place ∷ []) (λ done. process.IfLead i g told (at done a.place) (at done b.place))
    → IfOk made (λ c. IsPartPushed all new o false c) → IfOk made (λ c. IsPartAdded old new c (projected cast W r))
led_choice {E} {W} {i} {q} {g} {I} {J} made cast r told flags old mid all new a b o is led picked named first more second form pushed =
    subst (λ P. IfOk made (λ c. IsPartAdded old new c P)) (leads_choice cast r told flags is led picked named refl refl)
    (two_closed made old all new o false pushed a b (process.IfLead i g told (projected cast I r) (projected cast J r)) refl
    (two_parts old mid all a b (projected cast I r) (projected cast J r) first more second) form refl)

pub led_loop : {E : Type 0} {W : Term} {i : Index} {q : Role} {g : Expression} {I : Term} (made : Result Added E) (cast : List Role) (r : Role) (told : List Role) (flags : List Bool)
    (old all new : List Op) (a : Added) (o : Op)
    → W ≡ term.While i q g I → leads r W ≡ true → told ≡ filter (λ p. not (role_eq p q)) (flagged cast flags) → flags ≡ named_in cast W
    → IsPartAdded old all a (projected cast I r) → IsForm o (a.place ∷ []) (λ done. process.WhileLead i g told (at done a.place))
    → IfOk made (λ c. IsPartPushed all new o false c) → IfOk made (λ c. IsPartAdded old new c (projected cast W r))
led_loop {E} {W} {i} {q} {g} {I} made cast r told flags old all new a o is led picked named body form pushed =
    subst (λ P. IfOk made (λ c. IsPartAdded old new c P)) (leads_loop cast r told flags is led picked named refl)
    (body_closed made old all new o false pushed a (process.WhileLead i g told (projected cast I r)) refl body form refl)

pub led_scope : {E : Type 0} {W : Term} {i : Index} {q : Role} {I : Term} {extra : List Role} {props : List (List ℕ × Value)} {level : ℕ} {head : ScopeHead} (made : Result Added E)
    (cast : List Role) (r : Role) (told : List Role) (flags : List Bool) (old all new : List Op) (a : Added) (o : Op)
    → W ≡ term.Scope i q I extra props level → leads r W ≡ true → head ≡ (record { index = i; leader = q; roles = flagged cast flags; props = props; level = level })
    → told ≡ filter (λ p. not (role_eq p q)) (flagged cast flags) → flags ≡ named_in cast W
    → IsPartAdded old all a (projected cast I r) → IsForm o (a.place ∷ []) (λ done. process.ScopeLead head told (at done a.place))
    → IfOk made (λ c. IsPartPushed all new o false c) → IfOk made (λ c. IsPartAdded old new c (projected cast W r))
led_scope {E} {W} {i} {q} {I} {extra} {props} {level} {head} made cast r told flags old all new a o is led shown picked named body form pushed =
    subst (λ P. IfOk made (λ c. IsPartAdded old new c P)) (leads_scope cast r told flags is led shown picked named refl)
    (body_closed made old all new o false pushed a (process.ScopeLead head told (projected cast I r)) refl body form refl)

-- What was added is cut off again.
pub cut_extends : (old all new : List Op) (n : ℕ) → n ≡ length old → Extends old all → Extends (take n all) new → Extends old new
cut_extends old all new n is more cut = subst (λ ops. Extends ops new) (ap (λ k. take k all) is ∙ cut_back old all more) cut

pub uncut : (ops : List Op) (n : ℕ) → Extends (take n ops) ops
uncut ops n = (drop n ops, sym (take-append-drop n ops))

pub uncut_extends : (ops new : List Op) (n : ℕ) → Extends ops new → Extends (take n ops) new
uncut_extends ops new n more =
    (drop n ops ++ more.0, more.1 ∙ ap (λ l. l ++ more.0) (sym (take-append-drop n ops)) ∙ append_assoc (take n ops) (drop n ops) more.0)

placed_front : (k : ℕ) (ops more : List Op) → are_placed k (ops ++ more) ≡ true → are_placed k ops ≡ true
placed_front k [] more placed = refl
placed_front k (o ∷ ops) more placed =
    let both = and_parts (list_all (λ p. nat_lt p k) (part_places o)) (are_placed (suc k) (ops ++ more)) placed in
    and_from (list_all (λ p. nat_lt p k) (part_places o)) (are_placed (suc k) ops) both.0 (placed_front (suc k) ops more both.1)

pub cut_placed : (ops : List Op) (n : ℕ) → are_placed 0 ops ≡ true → are_placed 0 (take n ops) ≡ true
cut_placed ops n placed = placed_front 0 (take n ops) (drop n ops) (ap (are_placed 0) (take-append-drop n ops) ∙ placed)

-- A construct that another role leads.
pub followed_choice : {E : Type 0} {W : Term} {i : Index} {q : Role} {g : Expression} {I J : Term} (made : Result Added E) (cast : List Role) (r : Role) (old mid all new : List Op) (a b : Added) (n : ℕ)
    → W ≡ term.If i q g I J → leads r W ≡ false → n ≡ length old → Extends old mid
    → IsPartAdded old mid a (projected cast I r) → Extends mid all → IsPartAdded mid all b (projected cast J r)
    → ((P Q : Process) → TwoPartsAreAdded (take n all) all a b P Q → IfOk made (λ c. IsPartAdded (take n all) new c (cond (ended P && ended Q) Skip (process.IfFollow i q P Q))))
    → IfOk made (λ c. IsPartAdded old new c (projected cast W r))
followed_choice {E} {W} {i} {q} {g} {I} {J} made cast r old mid all new a b n is led here begun first more second closed =
    let back : take n all ≡ old = ap (λ k. take k all) here ∙ cut_back old all (extends_through old mid all begun more) in
    let whole : cond (ended (projected cast I r) && ended (projected cast J r)) Skip (process.IfFollow i q (projected cast I r) (projected cast J r)) ≡ projected cast W r =
    follows_choice cast i q g I J r (sym (ap (leads r) is) ∙ led) ∙ sym (ap (λ (w : Term). projected cast w r) is) in
    subst (λ ops. IfOk made (λ c. IsPartAdded ops new c (projected cast W r))) back
    (subst (λ P. IfOk made (λ c. IsPartAdded (take n all) new c P)) whole
    (closed (projected cast I r) (projected cast J r)
    (subst (λ ops. TwoPartsAreAdded ops all a b (projected cast I r) (projected cast J r)) (sym back) (two_parts old mid all a b (projected cast I r) (projected cast J r) first more second))))

pub followed_loop : {E : Type 0} {W : Term} {i : Index} {q : Role} {g : Expression} {I : Term} (made : Result Added E) (cast : List Role) (r : Role) (old all new : List Op) (a : Added) (n : ℕ)
    → W ≡ term.While i q g I → leads r W ≡ false → n ≡ length old → Extends old all → IsPartAdded old all a (projected cast I r)
    → ((P : Process) → IsPartAdded (take n all) all a P → IfOk made (λ c. IsPartAdded (take n all) new c (cond (ended P) Skip (process.WhileFollow i q P))))
    → IfOk made (λ c. IsPartAdded old new c (projected cast W r))
followed_loop {E} {W} {i} {q} {g} {I} made cast r old all new a n is led here more body closed =
    let back : take n all ≡ old = ap (λ k. take k all) here ∙ cut_back old all more in
    let whole : cond (ended (projected cast I r)) Skip (process.WhileFollow i q (projected cast I r)) ≡ projected cast W r =
    follows_loop cast i q g I r (sym (ap (leads r) is) ∙ led) ∙ sym (ap (λ (w : Term). projected cast w r) is) in
    subst (λ ops. IfOk made (λ c. IsPartAdded ops new c (projected cast W r))) back
    (subst (λ P. IfOk made (λ c. IsPartAdded (take n all) new c P)) whole
    (closed (projected cast I r) (subst (λ ops. IsPartAdded ops all a (projected cast I r)) (sym back) body)))

pub followed_scope : {E : Type 0} {W : Term} {i : Index} {q : Role} {I : Term} {extra : List Role} {props : List (List ℕ × Value)} {level : ℕ} (made : Result Added E) (cast : List Role) (r : Role)
    (old all new : List Op) (a : Added) (n : ℕ) (itself : Bool)
    → W ≡ term.Scope i q I extra props level → leads r W ≡ false → n ≡ length old → itself ≡ names_itself r W → Extends old all → IsPartAdded old all a (projected cast I r)
    → ((P : Process) → IsPartAdded (take n all) all a P
    → IfOk made (λ c. IsPartAdded (take n all) new c (cond (not (ended P)) (process.ScopeFollow i q P) (cond itself (process.ScopeFollow i q Skip) Skip))))
    → IfOk made (λ c. IsPartAdded old new c (projected cast W r))
followed_scope {E} {W} {i} {q} {I} {extra} {props} {level} made cast r old all new a n itself is led here own more body closed =
    let back : take n all ≡ old = ap (λ k. take k all) here ∙ cut_back old all more in
    let whole : cond (not (ended (projected cast I r))) (process.ScopeFollow i q (projected cast I r)) (cond itself (process.ScopeFollow i q Skip) Skip) ≡ projected cast W r =
    ap (λ t. cond (not (ended (projected cast I r))) (process.ScopeFollow i q (projected cast I r)) (cond t (process.ScopeFollow i q Skip) Skip)) (own ∙ ap (names_itself r) is)
    ∙ follows_scope cast i q I extra props level r (sym (ap (leads r) is) ∙ led) ∙ sym (ap (λ (w : Term). projected cast w r) is) in
    subst (λ ops. IfOk made (λ c. IsPartAdded ops new c (projected cast W r))) back
    (subst (λ P. IfOk made (λ c. IsPartAdded (take n all) new c P)) whole
    (closed (projected cast I r) (subst (λ ops. IsPartAdded ops all a (projected cast I r)) (sym back) body)))

-- tests that the code turns
pub goes_on : (b : Bool) → not b ≡ true → b ≡ false
goes_on true h = cc
goes_on false h = refl

pub is_over_so : (b : Bool) → not b ≡ false → b ≡ true
is_over_so true h = refl
is_over_so false h = cc

-- What was added of the parts stays, or is cut off.
module _ {E : Type 0} (made : Result Added E) (front all new : List Op) where
  pub kept_choice : (a b : Added) (o : Op) (i : Index) (q : Role) → (a.ended && b.ended) ≡ false
      → IsForm o (a.place ∷ b.place ∷ []) (λ done. process.IfFollow i q (at done a.place) (at done b.place)) → IfOk made (λ c. IsPartPushed all new o false c)
      → (P Q : Process) → TwoPartsAreAdded front all a b P Q → IfOk made (λ c. IsPartAdded front new c (cond (ended P && ended Q) Skip (process.IfFollow i q P Q)))
  kept_choice a b o i q going form pushed P Q parts =
      let over : (ended P && ended Q) ≡ false = ap₂ (λ x y. x && y) (sym parts.first_over) (sym parts.second_over) ∙ going in
      subst (λ R. IfOk made (λ c. IsPartAdded front new c R)) (sym (cond-false (ended P && ended Q) Skip (process.IfFollow i q P Q) over))
      (two_closed made front all new o false pushed a b (process.IfFollow i q P Q) refl parts form refl)

  pub cut_choice : (a b : Added) (i : Index) (q : Role) → (a.ended && b.ended) ≡ true → IfOk made (λ c. IsPartAdded front new c Skip)
      → (P Q : Process) → TwoPartsAreAdded front all a b P Q → IfOk made (λ c. IsPartAdded front new c (cond (ended P && ended Q) Skip (process.IfFollow i q P Q)))
  cut_choice a b i q none skipped P Q parts =
      let over : (ended P && ended Q) ≡ true = ap₂ (λ x y. x && y) (sym parts.first_over) (sym parts.second_over) ∙ none in
      subst (λ R. IfOk made (λ c. IsPartAdded front new c R)) (sym (cond-true (ended P && ended Q) Skip (process.IfFollow i q P Q) over)) skipped

  pub kept_loop : (a : Added) (o : Op) (i : Index) (q : Role) → a.ended ≡ false
      → IsForm o (a.place ∷ []) (λ done. process.WhileFollow i q (at done a.place)) → IfOk made (λ c. IsPartPushed all new o false c)
      → (P : Process) → IsPartAdded front all a P → IfOk made (λ c. IsPartAdded front new c (cond (ended P) Skip (process.WhileFollow i q P)))
  kept_loop a o i q going form pushed P part =
      subst (λ R. IfOk made (λ c. IsPartAdded front new c R)) (sym (cond-false (ended P) Skip (process.WhileFollow i q P) (sym part.over ∙ going)))
      (body_closed made front all new o false pushed a (process.WhileFollow i q P) refl part form refl)

  pub cut_loop : (a : Added) (i : Index) (q : Role) → a.ended ≡ true → IfOk made (λ c. IsPartAdded front new c Skip)
      → (P : Process) → IsPartAdded front all a P → IfOk made (λ c. IsPartAdded front new c (cond (ended P) Skip (process.WhileFollow i q P)))
  cut_loop a i q none skipped P part =
      subst (λ R. IfOk made (λ c. IsPartAdded front new c R)) (sym (cond-true (ended P) Skip (process.WhileFollow i q P) (sym part.over ∙ none))) skipped

  pub kept_scope : (a : Added) (o : Op) (i : Index) (q : Role) (itself : Bool) → a.ended ≡ false
      → IsForm o (a.place ∷ []) (λ done. process.ScopeFollow i q (at done a.place)) → IfOk made (λ c. IsPartPushed all new o false c)
      → (P : Process) → IsPartAdded front all a P
      → IfOk made (λ c. IsPartAdded front new c (cond (not (ended P)) (process.ScopeFollow i q P) (cond itself (process.ScopeFollow i q Skip) Skip)))
  kept_scope a o i q itself going form pushed P part =
      subst (λ R. IfOk made (λ c. IsPartAdded front new c R))
      (sym (cond-true (not (ended P)) (process.ScopeFollow i q P) (cond itself (process.ScopeFollow i q Skip) Skip) (ap not (sym part.over ∙ going))))
      (body_closed made front all new o false pushed a (process.ScopeFollow i q P) refl part form refl)

  -- (here the body is the `Skip` that was put in its place)
  cut_scope : (a : Added) (i : Index) (q : Role) (itself : Bool) (R : Process) → a.ended ≡ true → cond itself (process.ScopeFollow i q Skip) Skip ≡ R → IfOk made (λ c. IsPartAdded front new c R)
      → (P : Process) → IsPartAdded front all a P
      → IfOk made (λ c. IsPartAdded front new c (cond (not (ended P)) (process.ScopeFollow i q P) (cond itself (process.ScopeFollow i q Skip) Skip)))
  cut_scope a i q itself R none is put P part =
      subst (λ S. IfOk made (λ c. IsPartAdded front new c S))
      (sym (cond-false (not (ended P)) (process.ScopeFollow i q P) (cond itself (process.ScopeFollow i q Skip) Skip) (ap not (sym part.over ∙ none)) ∙ is)) put

  pub unnamed_scope : (a : Added) (i : Index) (q : Role) (itself : Bool) → a.ended ≡ true → itself ≡ false → IfOk made (λ c. IsPartAdded front new c Skip)
      → (P : Process) → IsPartAdded front all a P
      → IfOk made (λ c. IsPartAdded front new c (cond (not (ended P)) (process.ScopeFollow i q P) (cond itself (process.ScopeFollow i q Skip) Skip)))
  unnamed_scope a i q itself none unnamed skipped =
      cut_scope a i q itself Skip none (cond-false itself (process.ScopeFollow i q Skip) Skip unnamed) skipped

  pub named_scope : (mid : List Op) (a b : Added) (o : Op) (i : Index) (q : Role) (itself : Bool) → a.ended ≡ true → itself ≡ true → IsPartAdded front mid b Skip
      → IsForm o (b.place ∷ []) (λ done. process.ScopeFollow i q (at done b.place)) → IfOk made (λ c. IsPartPushed mid new o false c)
      → (P : Process) → IsPartAdded front all a P
      → IfOk made (λ c. IsPartAdded front new c (cond (not (ended P)) (process.ScopeFollow i q P) (cond itself (process.ScopeFollow i q Skip) Skip)))
  named_scope mid a b o i q itself none named skipped form pushed =
      cut_scope a i q itself (process.ScopeFollow i q Skip) none (cond-true itself (process.ScopeFollow i q Skip) Skip named)
      (body_closed made front mid new o false pushed b (process.ScopeFollow i q Skip) refl skipped form refl)

-- A term with no term inside.
neither : (f : Process → Bool) (s : Bool) (P Q : Process) → f P ≡ false → f Q ≡ false → f (cond s P Q) ≡ false
neither f true P Q h k = h
neither f false P Q h k = k

leaf_one : (cast : List Role) (I : Term) (r : Role) → is_leaf_term I ≡ true → has_two (projected cast I r) ≡ false
leaf_one cast term.Skip r leaf = refl
leaf_one cast (term.Com i o a e b x) r leaf = neither has_two (role_eq r a) _ _ refl (neither has_two (role_eq r b) _ _ refl refl)
leaf_one cast (term.Set i x q e) r leaf = neither has_two (role_eq r q) _ _ refl refl
leaf_one cast (term.Input i x q) r leaf = neither has_two (role_eq r q) _ _ refl refl
leaf_one cast I r leaf = cc

leaf_alone : (cast : List Role) (I : Term) (r : Role) → is_leaf_term I ≡ true → has_body (projected cast I r) ≡ false
leaf_alone cast term.Skip r leaf = refl
leaf_alone cast (term.Com i o a e b x) r leaf = neither has_body (role_eq r a) _ _ refl (neither has_body (role_eq r b) _ _ refl refl)
leaf_alone cast (term.Set i x q e) r leaf = neither has_body (role_eq r q) _ _ refl refl
leaf_alone cast (term.Input i x q) r leaf = neither has_body (role_eq r q) _ _ refl refl
leaf_alone cast I r leaf = cc

pub leaf_added : {E : Type 0} (made : Result Added E) (cast : List Role) (I : Term) (r : Role) (old new : List Op) (o : Op) → is_leaf_term I ≡ true → names_itself r I ≡ true
    → IsForm o [] (λ done. projected cast I r) → IfOk made (λ c. IsPartPushed old new o false c) → IfOk made (λ c. IsPartAdded old new c (projected cast I r))
leaf_added made cast I r old new o leaf named form pushed =
    let left : false ≡ ended (projected cast I r) =
    sym (outsiders-have_ended cast I r ∙ ap not (sym (leaf_itself I r leaf) ∙ named)) in
    none_closed made old new o false (projected cast I r) (leaf_one cast I r leaf) (leaf_alone cast I r leaf) form left pushed

pub outsider_added : {E : Type 0} (made : Result Added E) (cast : List Role) (I : Term) (r : Role) (old new : List Op) → is_leaf_term I ≡ true → names_itself r I ≡ false
    → IfOk made (λ c. IsPartPushed old new op.Skip true c) → IfOk made (λ c. IsPartAdded old new c (projected cast I r))
outsider_added made cast I r old new leaf named pushed =
    subst (λ P. IfOk made (λ c. IsPartAdded old new c P)) (sym (out_of_leaf cast I r leaf (sym (leaf_itself I r leaf) ∙ named))) (skip_closed made old new pushed)

-- the process of a role alone is the whole of its code
pub role_laid : (ops : List Op) (part : Added) (P : Process) → IsPartAdded [] ops part P → IsLaid ops part.place
role_laid ops part P h = added_laid ops part.place P h.added

-- by these the ops of parts are added, one behind another
pub ruleset adding_rules = (extends_through, cut_extends, both_named)

-- by these they are cut off again
pub ruleset cutting_rules = (cut_placed, uncut_extends, uncut)
