-- Code that was laid out stays so as more ops come behind it, and an op behind its parts lays out
-- the whole.
use Rattle.std.proofs.Common.{◌≡◌, ◌<◌, ◌≤◌, ℕ, ◌+◌, suc, List, [], ◌∷◌, ◌++◌, true, false, get_or, length, Result, refl, sym, ap, ◌∙◌, subst, arith}
use Rattle.std.specs.Result.{IfOk}
use Rattle.std.proofs.lemmas.List.{get_or_append_left, get_or_push, length_push}
use Rattle.std.proofs.lemmas.Result.{IfOk-weaker}
use Rattle.dioc_terms.specs.Parts.{has_two, first_of, second_of, has_body, body_of}
use Rattle.dioc_terms.specs.Processes.{Process, Seq, Par, IfLead, IfFollow, WhileLead, WhileFollow, ScopeLead, ScopeFollow}
use Rattle.flat_code.specs.declared.ops.Op.{Op}
use Rattle.flat_code.specs.declared.ops.Op.TheVariants as op
use Rattle.flat_code.specs.Layout.{inner, size, parts_at, EachPart, HasOp, IsLaid, Lies, AreAdded, IsAdded, IsPushed, TwoAreAdded}
use Rattle.flat_code.specs.Places.{at, part_places, processes, Extends, IsProcessAt}
use Rattle.flat_code.proofs.PlaceLemmas.{cut_back, extends_itself, extends_longer, extends_through, keeps_at, keeps_is_at, extends_push, push_is_at}

-- what is so of each part
module _ (F G : ℕ → ℕ → Process → Type 0) (keeps : (up b : ℕ) (P : Process) → F up b P → G up b P) where
  pub each_still : (b : ℕ) (P : Process) → EachPart F b P → EachPart G b P
  each_still b (Seq P Q) h =
      ((keeps _ b P h.0.0, each_still b P h.0.1), (keeps _ (b + size P) Q h.1.0, each_still (b + size P) Q h.1.1))
  each_still b (Par P Q) h =
      ((keeps _ b P h.0.0, each_still b P h.0.1), (keeps _ (b + size P) Q h.1.0, each_still (b + size P) Q h.1.1))
  each_still b (IfLead i g others P Q) h =
      ((keeps _ b P h.0.0, each_still b P h.0.1), (keeps _ (b + size P) Q h.1.0, each_still (b + size P) Q h.1.1))
  each_still b (IfFollow i leader P Q) h =
      ((keeps _ b P h.0.0, each_still b P h.0.1), (keeps _ (b + size P) Q h.1.0, each_still (b + size P) Q h.1.1))
  each_still b (WhileLead i g others P) h = (keeps _ b P h.0, each_still b P h.1)
  each_still b (WhileFollow i leader P) h = (keeps _ b P h.0, each_still b P h.1)
  each_still b (ScopeLead head others P) h = (keeps _ b P h.0, each_still b P h.1)
  each_still b (ScopeFollow i leader P) h = (keeps _ b P h.0, each_still b P h.1)
  each_still b P h = tt

-- the parts of a process that has two, and of one that has a body
module _ (F : ℕ → ℕ → Process → Type 0) (b : ℕ) where
  pub each_of_two : (P : Process) → has_two P ≡ true
      → (F (b + inner P) b (first_of P) × EachPart F b (first_of P))
      → (F (b + inner P) (b + size (first_of P)) (second_of P) × EachPart F (b + size (first_of P)) (second_of P)) → EachPart F b P
  each_of_two (Seq P Q) h first second = (first, second)
  each_of_two (Par P Q) h first second = (first, second)
  each_of_two (IfLead i g others P Q) h first second = (first, second)
  each_of_two (IfFollow i leader P Q) h first second = (first, second)
  each_of_two P h first second = cc

  pub two_of_each : (P : Process) → has_two P ≡ true → EachPart F b P
      → (F (b + inner P) b (first_of P) × EachPart F b (first_of P))
      × (F (b + inner P) (b + size (first_of P)) (second_of P) × EachPart F (b + size (first_of P)) (second_of P))
  two_of_each (Seq P Q) h both = both
  two_of_each (Par P Q) h both = both
  two_of_each (IfLead i g others P Q) h both = both
  two_of_each (IfFollow i leader P Q) h both = both
  two_of_each P h both = cc

  pub each_of_body : (P : Process) → has_body P ≡ true → F (b + inner P) b (body_of P) × EachPart F b (body_of P) → EachPart F b P
  each_of_body (WhileLead i g others P) h body = body
  each_of_body (WhileFollow i leader P) h body = body
  each_of_body (ScopeLead head others P) h body = body
  each_of_body (ScopeFollow i leader P) h body = body
  each_of_body P h body = cc

  pub body_of_each : (P : Process) → has_body P ≡ true → EachPart F b P → F (b + inner P) b (body_of P) × EachPart F b (body_of P)
  body_of_each (WhileLead i g others P) h body = body
  body_of_each (WhileFollow i leader P) h body = body
  body_of_each (ScopeLead head others P) h body = body
  body_of_each (ScopeFollow i leader P) h body = body
  body_of_each P h body = cc

  pub each_of_none : (P : Process) → has_two P ≡ false → has_body P ≡ false → EachPart F b P
  each_of_none (Seq P Q) h g = cc
  each_of_none (Par P Q) h g = cc
  each_of_none (IfLead i g others P Q) h k = cc
  each_of_none (IfFollow i leader P Q) h g = cc
  each_of_none (WhileLead i g others P) h k = cc
  each_of_none (WhileFollow i leader P) h g = cc
  each_of_none (ScopeLead head others P) h g = cc
  each_of_none (ScopeFollow i leader P) h g = cc
  each_of_none P h g = tt

module _ (old new : List Op) (more : Extends old new) where
  op_stays : (b : ℕ) (P : Process) → HasOp old b P → HasOp new b P
  op_stays b P h =
      let same : get_or new (b + inner P) op.Skip ≡ get_or old (b + inner P) op.Skip =
      ap (λ ops. get_or ops (b + inner P) op.Skip) more.1
      ∙ get_or_append_left old more.0 op.Skip (b + inner P) h.0 in
      let longer : length old ≤ length new = extends_longer old new more in
      (omega (arith, h.0, longer), ap part_places same ∙ h.1)

  pub parts_stay : (b : ℕ) (P : Process) → EachPart (λ up. HasOp old) b P → EachPart (λ up. HasOp new) b P
  parts_stay b P h = each_still (λ up. HasOp old) (λ up. HasOp new) (λ up. op_stays) b P h

  pub lies_still : (b : ℕ) (P : Process) → Lies old b P → Lies new b P
  lies_still b P h = (op_stays b P h.0, parts_stay b P h.1)

  -- the code of the whole, where more was linked behind it
  pub laid_still : (start : ℕ) → start < length old → IsLaid old start → IsLaid new start
  laid_still start inside h =
      let same : at (processes old) start ≡ at (processes new) start = sym (keeps_at old new more start inside) in
      subst (λ P. (start ≡ inner P) × Lies new 0 P) same (h.0, lies_still 0 (at (processes old) start) h.1)

pub two_at : (b : ℕ) (P : Process) → has_two P ≡ true
    → parts_at b P ≡ (b + inner (first_of P)) ∷ (b + size (first_of P) + inner (second_of P)) ∷ []
two_at b (Seq P Q) h = refl
two_at b (Par P Q) h = refl
two_at b (IfLead i g others P Q) h = refl
two_at b (IfFollow i leader P Q) h = refl
two_at b P h = cc

pub two_inner : (P : Process) → has_two P ≡ true → inner P ≡ size (first_of P) + size (second_of P)
two_inner (Seq P Q) h = refl
two_inner (Par P Q) h = refl
two_inner (IfLead i g others P Q) h = refl
two_inner (IfFollow i leader P Q) h = refl
two_inner P h = cc

pub body_at : (b : ℕ) (P : Process) → has_body P ≡ true → parts_at b P ≡ (b + inner (body_of P)) ∷ []
body_at b (WhileLead i g others P) h = refl
body_at b (WhileFollow i leader P) h = refl
body_at b (ScopeLead head others P) h = refl
body_at b (ScopeFollow i leader P) h = refl
body_at b P h = cc

pub body_longer : (n : ℕ) (P : Process) → has_body P ≡ true → suc (n + inner (body_of P)) ≡ n + inner P
body_longer n (WhileLead i g others P) h = omega arith
body_longer n (WhileFollow i leader P) h = omega arith
body_longer n (ScopeLead head others P) h = omega arith
body_longer n (ScopeFollow i leader P) h = omega arith
body_longer n P h = cc

-- a process without parts
pub plain_at : (b : ℕ) (P : Process) → has_two P ≡ false → has_body P ≡ false → parts_at b P ≡ []
plain_at b (Seq P Q) h g = cc
plain_at b (Par P Q) h g = cc
plain_at b (IfLead i g others P Q) h k = cc
plain_at b (IfFollow i leader P Q) h g = cc
plain_at b (WhileLead i g others P) h k = cc
plain_at b (WhileFollow i leader P) h g = cc
plain_at b (ScopeLead head others P) h g = cc
plain_at b (ScopeFollow i leader P) h g = cc
plain_at b P h g = refl

pub plain_longer : (n : ℕ) (P : Process) → has_two P ≡ false → has_body P ≡ false → n ≡ n + inner P
plain_longer n (Seq P Q) h g = cc
plain_longer n (Par P Q) h g = cc
plain_longer n (IfLead i g others P Q) h k = cc
plain_longer n (IfFollow i leader P Q) h g = cc
plain_longer n (WhileLead i g others P) h k = cc
plain_longer n (WhileFollow i leader P) h g = cc
plain_longer n (ScopeLead head others P) h g = cc
plain_longer n (ScopeFollow i leader P) h g = cc
plain_longer n P h g = omega arith

-- an op behind its parts
pub added_last : (old mid : List Op) (o : Op) (P : Process) → AreAdded old mid o P
    → IsAdded old (mid ++ o ∷ []) (length mid) P
added_last old mid o P parts =
    let last : length mid ≡ length old + inner P = parts.longer in
    let at_end : IsProcessAt (mid ++ o ∷ []) (length mid) P =
    subst (λ R. IsProcessAt (mid ++ o ∷ []) (length mid) R) parts.whole.stands (push_is_at mid o) in
    record {
      stands = at_end;
      is_last = omega (arith, length_push mid o);
      place_is = last;
      lies = (
        (
          subst (λ n. n < length (mid ++ o ∷ [])) last at_end.inside,
          ap part_places (get_or_push mid o op.Skip (length old + inner P) last) ∙ parts.places,
        ),
        parts_stay mid (mid ++ o ∷ []) (extends_push mid o) (length old) P parts.lie,
      );
    }

pub added_behind : (old mid new : List Op) (o : Op) (P : Process) (place : ℕ) → AreAdded old mid o P → IsPushed mid new o place → IsAdded old new place P
added_behind old mid new o P place parts p =
    subst (λ ops. IsAdded old ops place P) (sym p.longer) (subst (λ n. IsAdded old (mid ++ o ∷ []) n P) (sym p.place_is) (added_last old mid o P parts))

pub added_pushed : {E : Type 0} (made : Result ℕ E) (old mid new : List Op) (o : Op) (P : Process) → AreAdded old mid o P
    → IfOk made (λ place. IsPushed mid new o place) → IfOk made (λ place. IsAdded old new place P)
added_pushed made old mid new o P parts pushed =
    IfOk-weaker made (λ place. IsPushed mid new o place) (λ place. IsAdded old new place P) (λ place. added_behind old mid new o P place parts) pushed

-- one part behind another
pub two_added : (old mid new : List Op) (p q : ℕ) (P Q : Process) → IsAdded old mid p P → Extends mid new → IsAdded mid new q Q
    → TwoAreAdded old new p q P Q
two_added old mid new p q P Q first more second =
    let between : length mid ≡ length old + size P = first.is_last ∙ ap suc first.place_is ∙ omega arith in
    record {
      first = keeps_is_at mid new p P more first.stands;
      second = second.stands;
      first_is = first.place_is;
      second_is = second.place_is ∙ ap (λ n. n + inner Q) between;
      longer = second.is_last ∙ ap suc (second.place_is ∙ ap (λ n. n + inner Q) between) ∙ omega arith;
      first_lies = lies_still mid new more (length old) P first.lies;
      second_lies = subst (λ n. Lies new n Q) between second.lies;
    }

-- a process alone is the whole of its code
pub added_laid : (ops : List Op) (start : ℕ) (P : Process) → IsAdded [] ops start P → IsLaid ops start
added_laid ops start P h =
    subst (λ Q. (start ≡ inner Q) × Lies ops 0 Q) (sym h.stands.stands) (omega (arith, h.place_is), h.lies)

-- by these a process is linked behind code
pub ruleset linking_rules = (cut_back, extends_itself, laid_still)

-- by these two parts are added
pub ruleset adding_rules = (two_added, extends_through)
