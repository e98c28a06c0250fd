-- What a seat keeps of its view, after each call.
use Rattle.std.proofs.Common.{◌≡◌, ℕ, List, [], ◌∷◌, ◌++◌, length, false, refl, sym, ap, ◌∙◌, subst, append-nil}
use Rattle.atomic_table.specs.Table.{Me, rest}
use Rattle.turn_lock.specs.declared.views.View.{View}
use Rattle.turn_lock.specs.declared.views.Known.{Known}
use Rattle.turn_lock.specs.Items.{claim}
use Rattle.turn_lock.specs.Views.{number, mine, IsSingle, left, left_with, left_known, left_with_known}

-- a seat that left the list as it was
pub left_none : {I B : Type 0} (v : View I B) → IsSingle v → left_with v [] ≡ left v
left_none v single =
    λ k. record {
      base = v.base;
      claims = (ap (λ l. claim (number v) l ∷ []) (append-nil (mine v)) ∙ sym single) k;
      seen = append-nil v.seen k;
      holds = false;
      made = v.made;
      others_seen = v.others_seen;
    }

pub left_none_known : {I B M : Type 0} (v : Known I B M) (m : M) → IsSingle v.view → left_with_known v [] m ≡ left_known v m
left_none_known v m single = ap (λ w. record (left_known v m) { view = w }) (left_none v.view single)

module _ {A I B M : Type 0} (me : Me A (Known I B M)) (v : Known I B M) where
  -- what was found in the slot
  pub has_slot : (x : A) → me ≡ (v, (0, x) ∷ []) → me.1 ≡ (0, x) ∷ rest me.1
  has_slot x is = ap (λ (m : Me A (Known I B M)). m.1) is ∙ ap (λ (m : Me A (Known I B M)). (0, x) ∷ rest m.1) (sym is)

  pub slot_value : (x y : A) → me ≡ (v, (0, x) ∷ []) → me.1 ≡ (0, y) ∷ rest me.1 → x ≡ y
  slot_value x y is found = ap (value_in x) (sym (ap (λ (m : Me A (Known I B M)). m.1) is) ∙ found)
    where
      value_in : A → List (ℕ × A) → A
      value_in d [] = d
      value_in d (p ∷ ps) = p.1

module _ {A I B M : Type 0} (me : Me A (Known I B M)) (v : Known I B M) (mark : M) where
  pub waits_after : (more : List I) → me ≡ (left_with_known v more mark, []) → (me.1 ≡ []) × (me.0.view.holds ≡ false)
  waits_after more is = (ap (λ (m : Me A (Known I B M)). m.1) is, ap (λ (m : Me A (Known I B M)). m.0.view.holds) is)

  pub single_after : (more : List I) → me ≡ (left_with_known v more mark, []) → IsSingle me.0.view
  single_after more is = subst (λ (m : Me A (Known I B M)). IsSingle m.0.view) (sym is) refl

  pub counts_after : (more : List I) (seen made : ℕ) → seen ≡ length (v.view.seen ++ more) → made ≡ v.view.made → me ≡ (left_with_known v more mark, [])
      → (seen ≡ length me.0.view.seen) × (made ≡ me.0.view.made)
  counts_after more seen made counted same is =
      (counted ∙ ap (λ (m : Me A (Known I B M)). length m.0.view.seen) (sym is), same ∙ ap (λ (m : Me A (Known I B M)). m.0.view.made) (sym is))

  pub view_after : (more : List I) → me ≡ (left_with_known v more mark, []) → me.0.view ≡ left_with v.view more
  view_after more is = ap (λ (m : Me A (Known I B M)). m.0.view) is

  pub known_after : (more : List I) → me ≡ (left_with_known v more mark, []) → me.0 ≡ left_with_known v more mark
  known_after more is = ap (λ (m : Me A (Known I B M)). m.0) is
