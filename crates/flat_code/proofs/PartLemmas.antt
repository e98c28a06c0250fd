-- A process is itself with its own parts, so an op that is made with their places stands for it.
use Rattle.std.proofs.Common.{◌≡◌, ℕ, ◌+◌, suc, List, [], ◌∷◌, true, false, Result, sym, ap, ap₂, ◌∙◌, subst, length}
use Rattle.std.specs.Result.{IfOk}
use Rattle.std.proofs.lemmas.Result.{IfOk-weaker}
use Rattle.dioc_terms.specs.Processes.{Process, Seq, Par, IfLead, IfFollow, WhileLead, WhileFollow, ScopeLead, ScopeFollow}
use Rattle.dioc_terms.specs.Parts.{has_body, body_of, has_two, first_of, second_of}
use Rattle.flat_code.specs.declared.ops.Op.{Op}
use Rattle.flat_code.specs.Parts.{with_body, with_two}
use Rattle.flat_code.specs.Layout.{AreAdded, HasOp, IsAdded, TwoAreAdded}
use Rattle.flat_code.specs.Places.{at, processes, AreBelow, IsForm}
use Rattle.flat_code.proofs.LayoutLemmas.{each_of_body, each_of_none, each_of_two, two_at, two_inner, body_at, body_longer, plain_at, plain_longer}

is_own_two : (P Q R : Process) → has_two P ≡ true → Q ≡ first_of P → R ≡ second_of P → with_two P Q R ≡ P
is_own_two (Seq P Q) R S h first second = ap₂ Seq first second
is_own_two (Par P Q) R S h first second = ap₂ Par first second
is_own_two (IfLead i g others P Q) R S h first second = ap₂ (IfLead i g others) first second
is_own_two (IfFollow i leader P Q) R S h first second = ap₂ (IfFollow i leader) first second
is_own_two P R S h first second = cc

is_own_body : (P Q : Process) → has_body P ≡ true → Q ≡ body_of P → with_body P Q ≡ P
is_own_body (WhileLead i g others P) Q h is = ap (WhileLead i g others) is
is_own_body (WhileFollow i leader P) Q h is = ap (WhileFollow i leader) is
is_own_body (ScopeLead head others P) Q h is = ap (ScopeLead head others) is
is_own_body (ScopeFollow i leader P) Q h is = ap (ScopeFollow i leader) is
is_own_body P Q h is = cc

pub of_two : (old new : List Op) (p q : ℕ) (o : Op) (P : Process) → has_two P ≡ true → TwoAreAdded old new p q (first_of P) (second_of P)
    → IsForm o (p ∷ q ∷ []) (λ done. with_two P (at done p) (at done q)) → AreAdded old new o P
of_two old new p q o P two both form = record {
  whole = record {
    earlier = subst (λ places. AreBelow (length new) places) (sym form.places_are) (both.first.inside, (both.second.inside, tt));
    stands = form.stands (processes new)
        ∙ is_own_two P (at (processes new) p) (at (processes new) q) two both.first.stands both.second.stands;
  };
  places = form.places_are ∙ ap₂ (λ x y. x ∷ y ∷ []) both.first_is both.second_is ∙ sym (two_at (length old) P two);
  longer = both.longer ∙ ap (λ n. length old + n) (sym (two_inner P two));
  lie = each_of_two (λ up. HasOp new) (length old) P two both.first_lies both.second_lies;
}

pub made_of_two : {E : Type 0} (made : Result Op E) (old new : List Op) (p q : ℕ) (P : Process)
    → has_two P ≡ true → TwoAreAdded old new p q (first_of P) (second_of P)
    → IfOk made (λ form. IsForm form (p ∷ q ∷ []) (λ done. with_two P (at done p) (at done q)))
    → IfOk made (λ o. AreAdded old new o P)
made_of_two made old new p q P two both formed =
    IfOk-weaker made (λ form. IsForm form (p ∷ q ∷ []) (λ done. with_two P (at done p) (at done q)))
    (λ o. AreAdded old new o P) (λ o. of_two old new p q o P two both) formed

pub of_body : (old new : List Op) (p : ℕ) (o : Op) (P : Process) → has_body P ≡ true → IsAdded old new p (body_of P)
    → IsForm o (p ∷ []) (λ done. with_body P (at done p)) → AreAdded old new o P
of_body old new p o P one body form = record {
  whole = record {
    earlier = subst (λ places. AreBelow (length new) places) (sym form.places_are) (body.stands.inside, tt);
    stands = form.stands (processes new) ∙ is_own_body P (at (processes new) p) one body.stands.stands;
  };
  places = form.places_are ∙ ap (λ x. x ∷ []) body.place_is ∙ sym (body_at (length old) P one);
  longer = body.is_last ∙ ap suc body.place_is ∙ body_longer (length old) P one;
  lie = each_of_body (λ up. HasOp new) (length old) P one body.lies;
}

pub made_of_body : {E : Type 0} (made : Result Op E) (old new : List Op) (p : ℕ) (P : Process)
    → has_body P ≡ true → IsAdded old new p (body_of P)
    → IfOk made (λ form. IsForm form (p ∷ []) (λ done. with_body P (at done p)))
    → IfOk made (λ o. AreAdded old new o P)
made_of_body made old new p P one body formed =
    IfOk-weaker made (λ form. IsForm form (p ∷ []) (λ done. with_body P (at done p)))
    (λ o. AreAdded old new o P) (λ o. of_body old new p o P one body) formed

pub of_none : (ops : List Op) (o : Op) (P : Process) → has_two P ≡ false → has_body P ≡ false
    → IsForm o [] (λ done. P) → AreAdded ops ops o P
of_none ops o P no_two no_body form = record {
  whole = record {
    earlier = subst (λ places. AreBelow (length ops) places) (sym form.places_are) tt;
    stands = form.stands (processes ops);
  };
  places = form.places_are ∙ sym (plain_at (length ops) P no_two no_body);
  longer = plain_longer (length ops) P no_two no_body;
  lie = each_of_none (λ up. HasOp ops) (length ops) P no_two no_body;
}

pub made_plain : {E : Type 0} (made : Result Op E) (ops : List Op) (P : Process)
    → has_two P ≡ false → has_body P ≡ false
    → IfOk made (λ form. IsForm form [] (λ done. P)) → IfOk made (λ o. AreAdded ops ops o P)
made_plain made ops P no_two no_body formed =
    IfOk-weaker made (λ form. IsForm form [] (λ done. P)) (λ o. AreAdded ops ops o P) (λ o. of_none ops o P no_two no_body) formed
