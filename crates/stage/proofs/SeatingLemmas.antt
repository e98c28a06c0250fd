-- The views of the seats of a new stage, made one after another.
use Rattle.std.proofs.Common.{◌≡◌, ℕ, zero, suc, ◌+◌, List, [], ◌∷◌, ◌++◌, sym, ap, ◌∙◌, arith}
use Rattle.dioc_terms.specs.declared.entries.Entry.{Entry}
use Rattle.turn_lock.specs.declared.views.View.{View}
use Rattle.turn_lock.specs.Views.{first_view, split_view, new_view}
use Rattle.stage.specs.Seats.{Base, later_view, later_views}

-- one seat more goes last
pub later_more : (base : Base) (n count : ℕ) → later_views base n (suc count) ≡ later_views base n count ++ later_view base (n + count) ∷ []
later_more base n zero = ap (λ k. later_view base k ∷ []) (omega arith)
later_more base n (suc count) =
    ap (λ (l : List (View Entry Base)). later_view base n ∷ l)
    (later_more base (suc n) count ∙ ap (λ k. later_views base (suc n) count ++ later_view base k ∷ []) (omega arith))

-- of the first seat, which has made so many others
abbrev pub first_of : Base → ℕ → View Entry Base
first_of base count = record (first_view base) { made = suc count }

pub splits_to : (base : Base) (count n : ℕ) (v left : View Entry Base) → v ≡ first_of base count → left ≡ split_view v → n ≡ suc count → left ≡ first_of base n
splits_to base count n v left is made same =
    made ∙ ap (λ (x : View Entry Base). split_view x) is ∙ ap (λ m. record (first_view base) { made = m }) (omega (arith, same))

pub one_seat_more : (base : Base) (count n : ℕ) (v next : View Entry Base) (views : List (View Entry Base)) → v ≡ first_of base count → next ≡ new_view v → views ≡ later_views base 1 count → n ≡ suc count
    → views ++ next ∷ [] ≡ later_views base 1 n
one_seat_more base count n v next views is made so_far same =
    let number : suc count ≡ 1 + count = omega arith in
    let last : next ≡ later_view base (1 + count) = made ∙ ap (λ (x : View Entry Base). new_view x) is ∙ ap (later_view base) number in
    (λ i. so_far i ++ last i ∷ []) ∙ sym (later_more base 1 count) ∙ ap (later_views base 1) (sym same)
