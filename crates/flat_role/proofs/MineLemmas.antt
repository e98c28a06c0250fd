-- Marks that hold updates of one role.
use Rattle.std.proofs.Common.{◌≡◌, ◌<◌, ◌≤◌, ℕ, zero, suc, List, [], ◌∷◌, arith, Bool, true, false, ◌&&◌, get_or, length, refl, sym, ap, ◌∙◌, subst, ⊎_elim}
use Rattle.std.specs.Prelude.{if◌then◌else◌, nat_le, nat_lt, replicate, set}
use Rattle.std.proofs.lemmas.Bool.{cases_eq}
use Rattle.std.proofs.lemmas.List.{get_or-set_other, get_or-set_same}
use Rattle.dioc_terms.specs.declared.names.Role.{Role}
use Rattle.flat_role.specs.declared.marks.Mark.{Mark}
use Rattle.flat_role.specs.declared.marks.Mark.TheVariants as kept
use Rattle.flat_role.specs.MovedMarks.{runs_update}
use Rattle.flat_role.specs.PlanMarks.{mark_in}
use Rattle.flat_role.specs.Progress.{AreOf, IsOf}
use Rattle.flat_role.specs.Updates.{deepest, depth_of}
use Rattle.flat_role.proofs.ClimbLemmas.{AreWiped}
use Rattle.flat_role.proofs.ProgressLemmas.{same_everywhere}

-- a mark that holds none
pub own_mine : (me : Role) (m : Mark) → runs_update m ≡ false → IsOf me m
own_mine me (kept.Became update) own = cc
own_mine me m own = tt

pub mine_fresh : (me : Role) (marks : List Mark) (n : ℕ) → marks ≡ replicate n kept.Untouched
    → AreOf me marks
mine_fresh me marks n fresh place = subst (IsOf me)
    (sym (ap (λ ms. mark_in ms place) fresh ∙ same_everywhere n place)) tt

pub mine_set : (me : Role) (marks : List Mark) (place : ℕ) (m : Mark) → place < length marks
    → AreOf me marks → IsOf me m → AreOf me (set marks place m)
mine_set me marks place m inside mine own k = ⊎_elim
    (λ here. subst (IsOf me)
    (sym (ap (λ i. mark_in (set marks place m) i) here
    ∙ get_or-set_same marks place m kept.Untouched inside)) own)
    (λ apart. subst (IsOf me)
    (sym (get_or-set_other marks place k m kept.Untouched apart)) (mine k))
    (cases_eq k place)

either_mine : (me : Role) (b : Bool) (m : Mark) → IsOf me m
    → IsOf me (if b then kept.Untouched else m)
either_mine me true m own = tt
either_mine me false m own = own

pub mine_wiped : (me : Role) (old new : List Mark) (low end : ℕ) → AreWiped old new low end
    → AreOf me old → AreOf me new
mine_wiped me old new low end wiped mine k = subst (IsOf me) (sym (wiped k))
    (either_mine me (nat_le low k && nat_lt k end) (mark_in old k) (mine k))

-- Marks of which nothing was done hold no update.

none_deep : (n : ℕ) → deepest (replicate n kept.Untouched) ≡ 0
none_deep zero = refl
none_deep (suc n) = omega (arith, none_deep n)

pub fresh_shallow : (marks : List Mark) (n : ℕ) → marks ≡ replicate n kept.Untouched
    → deepest marks ≡ 0
fresh_shallow marks n fresh = ap deepest fresh ∙ none_deep n

-- An update in a mark is less deep than all marks.

pub less_deep : (marks : List Mark) (place : ℕ) {update : _}
    → mark_in marks place ≡ kept.Became update → suc update.value.depth ≤ deepest marks
less_deep [] place is = cc
less_deep (m ∷ ms) zero {update} is =
    let here : depth_of m ≡ suc update.value.depth = ap depth_of is in omega (arith, here)
less_deep (m ∷ ms) (suc place) {update} is =
    let rest : suc update.value.depth ≤ deepest ms = less_deep ms place is in omega (arith, rest)

pub deep_at : (marks : List Mark) (i : ℕ) (m : Mark) → i < length marks → m ≡ get_or marks i m
    → depth_of m ≤ deepest marks
deep_at [] i m inside is = absurd (omega (arith, inside))
deep_at (x ∷ ms) zero m inside is =
    let here : depth_of m ≡ depth_of x = ap depth_of is in omega (arith, here)
deep_at (x ∷ ms) (suc i) m inside is =
    let rest : depth_of m ≤ deepest ms = deep_at ms i m (omega (arith, inside)) is in
    omega (arith, rest)
