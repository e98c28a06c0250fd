-- What the last pair of a name gives it, pair by pair; and that a condition joins no texts.
use Rattle.std.proofs.Common.{◌≡◌, refl, sym, ap, ◌∙◌, ◌+◌, ◌<◌, length, take, get_or, ℕ, List, [], ◌∷◌, ◌++◌, if◌then◌else◌, Bool, true, false, ◌&&◌, not}
use Rattle.std.proofs.lemmas.List.{take_more}
use Rattle.dioc_terms.specs.declared.values.Value.{Value}
use Rattle.dioc_terms.specs.declared.values.Value.TheVariants.{Nil}
use Rattle.dioc_terms.specs.Equality.{name_eq}
use Rattle.dioc_terms.specs.Values.{bound}
use Rattle.dioc_terms.specs.Bundles.{is_condition, joins}
use Rattle.dioc_terms.specs.Conditions.{has_no_join}
use Rattle.dioc_terms.specs.Expressions.{Expression, Const, Var, Prop, Env, Not, Neg, Bin}

-- `bound`, with the value so far
abbrev last_from : List ℕ → Value → List (List ℕ × Value) → Value
last_from name so_far [] = so_far
last_from name so_far (pair ∷ rest) = last_from name (if name_eq pair.0 name then pair.1 else so_far) rest

last_from-push : (name : List ℕ) (so_far : Value) (pairs : List (List ℕ × Value)) (pair : List ℕ × Value)
    → last_from name so_far (pairs ++ pair ∷ []) ≡ (if name_eq pair.0 name then pair.1 else last_from name so_far pairs)
last_from-push name so_far [] pair = refl
last_from-push name so_far (first ∷ rest) pair = last_from-push name (if name_eq first.0 name then first.1 else so_far) rest pair

pub bound-push : (name : List ℕ) (pairs : List (List ℕ × Value)) (pair : List ℕ × Value)
    → bound (pairs ++ pair ∷ []) name ≡ (if name_eq pair.0 name then pair.1 else bound pairs name)
bound-push name pairs pair = last_from-push name Nil pairs pair

-- the value once the pair at i is seen too
pub bound-more : (name : List ℕ) (pairs : List (List ℕ × Value)) (i : ℕ) (pair : List ℕ × Value) → i < length pairs → pair ≡ get_or pairs i pair
    → bound (take (i + 1) pairs) name ≡ (if name_eq pair.0 name then pair.1 else bound (take i pairs) name)
bound-more name pairs i pair h e =
    ap (λ (ps : List (List ℕ × Value)). bound ps name) (take_more pairs i pair h)
    ∙ (ap (λ (p : List ℕ × Value). bound (take i pairs ++ p ∷ []) name) (sym e) ∙ bound-push name (take i pairs) pair)

both_parts : (a b : Bool) → (a && b) ≡ true → (a ≡ true) × (b ≡ true)
both_parts true b h = (refl, h)
both_parts false b h = cc

pub conditions-join-nothing : (e : Expression) → is_condition e ≡ true → has_no_join e ≡ true
conditions-join-nothing (Const v) h = refl
conditions-join-nothing (Var x) h = refl
conditions-join-nothing (Prop x) h = refl
conditions-join-nothing (Env x) h = refl
conditions-join-nothing (Not e) h = conditions-join-nothing e h
conditions-join-nothing (Neg e) h = conditions-join-nothing e h
conditions-join-nothing (Bin op a b) h =
    let p = both_parts (not (joins op) && is_condition a) (is_condition b) h in
    let q = both_parts (not (joins op)) (is_condition a) p.0 in
    let f = q.0 in
    let g = conditions-join-nothing a q.1 in
    let k = conditions-join-nothing b p.1 in
    cc
