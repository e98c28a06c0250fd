-- What one entry more makes of a prompt history, and of the counts of its entries.
use Rattle.std.proofs.Common.{◌≡◌, ℕ, zero, suc, List, [], ◌∷◌, ◌++◌, length, map, drop, true, false, is_some, is_none, refl, sym, ap, ap₂, ◌∙◌, ⊎_elim, inl, inr, arith, length-append}
use Rattle.std.specs.Prelude.{◌⊎◌, filter}
use Rattle.std.proofs.lemmas.Bool.{cond-true, cond-false}
use Rattle.std.proofs.lemmas.List.Elements.{filter-append}
use Rattle.dioc_terms.specs.declared.bundles.Timed.{Timed}
use Rattle.dioc_terms.specs.declared.entries.Entry.{Entry}
use Rattle.dioc_terms.specs.Messages.{doer}
use Rattle.dioc_terms.specs.Plain.{PlainBundle, PlainRule}
use Rattle.marked_laws.proofs.Shapes.{same_head, some_nil}
use Rattle.network_steps.specs.Schedule.{change_due, changes_in, change_is_due, IsPrompt}
use Rattle.net_core.specs.MovesIn.{is_first_due}
use Rattle.net_core.specs.Standing.{due_of}

-- where an entry stands in a list with one more
split_last : {A : Type 0} (H before : List A) (e x : A) (rest : List A) → H ++ e ∷ [] ≡ before ++ x ∷ rest
    → ((before ≡ H) × (x ≡ e)) ⊎ ((more : List A) × (H ≡ before ++ x ∷ more))
split_last [] [] e x rest h = inl (refl, sym (same_head h).0)
split_last [] (y ∷ []) e x rest h = absurd (some_nil (sym (same_head h).1))
split_last [] (y ∷ z ∷ zs) e x rest h = absurd (some_nil (sym (same_head h).1))
split_last (g ∷ gs) [] e x rest h = inr (gs, ap (λ y. y ∷ gs) (same_head h).0)
split_last (g ∷ gs) (y ∷ ys) e x rest h = ⊎_elim
    (λ last. inl (ap₂ (λ a bs. a ∷ bs) (sym (same_head h).0) last.0, last.1))
    (λ inside. inr (inside.0, ap₂ (λ a bs. a ∷ bs) (same_head h).0 inside.1))
    (split_last gs ys e x rest (same_head h).1)

-- a prompt history is so with one entry more, which is a change or comes where none is due
pub prompt_more : (b : PlainBundle) (H : List Entry) (e : Entry) → IsPrompt b H → (is_some (doer e) ≡ true → change_is_due b H ≡ false) → IsPrompt b (H ++ e ∷ [])
prompt_more b H e prompt last before x rest is does = ⊎_elim
    (λ here. ap (change_is_due b) here.0 ∙ last (ap (λ y. is_some (doer y)) (sym here.1) ∙ does))
    (λ inside. prompt before x inside.0 inside.1 does)
    (split_last H before e x rest is)

pub prompt_none : (b : PlainBundle) → IsPrompt b []
prompt_none b [] x rest is does = absurd (some_nil (sym is))
prompt_none b (y ∷ ys) x rest is does = absurd (some_nil (sym is))

pub no_change_more : (H : List Entry) (e : Entry) → is_none (doer e) ≡ false → changes_in (H ++ e ∷ []) ≡ changes_in H
no_change_more H e h =
    let none : changes_in (e ∷ []) ≡ 0 = ap length (cond-false (is_none (doer e)) (e ∷ []) [] h) in
    ap length (filter-append (λ x. is_none (doer x)) H (e ∷ []))
    ∙ omega (arith, length-append (filter (λ x. is_none (doer x)) H) (filter (λ x. is_none (doer x)) (e ∷ [])), none)

pub one_change_more : (H : List Entry) (e : Entry) → is_none (doer e) ≡ true → changes_in (H ++ e ∷ []) ≡ suc (changes_in H)
one_change_more H e h =
    let one : changes_in (e ∷ []) ≡ 1 = ap length (cond-true (is_none (doer e)) (e ∷ []) [] h) in
    ap length (filter-append (λ x. is_none (doer x)) H (e ∷ []))
    ∙ omega (arith, length-append (filter (λ x. is_none (doer x)) H) (filter (λ x. is_none (doer x)) (e ∷ [])), one)

-- whether the first of the changes still to come is due
pub first_due : (rules : List PlainRule) (script : List Timed) (n seen : ℕ) → is_first_due (drop n (map (due_of rules) script)) seen ≡ change_due script n seen
first_due rules [] zero seen = refl
first_due rules (timed ∷ rest) zero seen = refl
first_due rules [] (suc n) seen = refl
first_due rules (timed ∷ rest) (suc n) seen = first_due rules rest n seen
