-- The tests of a text, part by part.
use Rattle.std.proofs.Common.{◌≡◌, ◌∙◌, List, [], ◌∷◌, Bool, true, false, cond, not, filter, map, Option, Some, None, refl, sym, ap}
use Rattle.std.specs.Prelude.{find}
use Rattle.std.proofs.lemmas.Simd.{map-map}
use Rattle.dioc_terms.specs.declared.names.Role.{Role}
use Rattle.dioc_terms.specs.Equality.{role_eq, member}
use Rattle.dioc_terms.specs.EqualityLemmas.{role_eq-decides}
use Rattle.dioc_terms.specs.Terms.{Term, first_appearances, cast_of, mentions}
use Rattle.rule_checks.specs.declared.refusals.Refusal.{Refusal}
use Rattle.rule_checks.specs.declared.refusals.Refusal.TheVariants.{UnknownRole}
use Rattle.rule_checks.specs.declared.refusals.Where.{Where}
use Rattle.rule_checks.specs.Refusals.{first_refusal, unknown_role}

-- what is refused, by what a test found
abbrev pub role_refused : Where → Option Role → Option Refusal
role_refused at None = None
role_refused at (Some q) = Some (UnknownRole at q)

-- The first role that the cast lacks is the first refusal of the tests of each role.
pub each_known : (at : Where) (cast roles : List Role) → unknown_role at cast roles ≡ first_refusal (map (λ q. unknown_role at cast (q ∷ [])) roles)
each_known at cast [] = refl
each_known at cast (r ∷ rs) = by (member r cast) refl (each_known at cast rs)
  where
    by : (b : Bool) → member r cast ≡ b → unknown_role at cast rs ≡ first_refusal (map (λ q. unknown_role at cast (q ∷ [])) rs)
        → unknown_role at cast (r ∷ rs) ≡ first_refusal (map (λ q. unknown_role at cast (q ∷ [])) (r ∷ rs))
    by true e below = rw e below
    by false e below = rw e refl

-- the same of roles that stand beside something else
pub each_known_of : {Y : Type 0} (at : Where) (cast : List Role) (given : List (Role × Y))
    → unknown_role at cast (map (λ (one : Role × Y). one.0) given) ≡ first_refusal (map (λ (one : Role × Y). unknown_role at cast (one.0 ∷ [])) given)
each_known_of {Y} at cast given =
    each_known at cast (map (λ (one : Role × Y). one.0) given)
    ∙ ap first_refusal (map-map (λ (q : Role). unknown_role at cast (q ∷ [])) (λ (one : Role × Y). one.0) given)

both_ways : true ≡ false → ⊥
both_ways e = cc

not_not : (b : Bool) → not b ≡ false → b ≡ true
not_not true h = refl
not_not false h = sym h

-- A search among the first appearances finds what a search among all finds.
module _ (p : Role → Bool) where
  find-filter : (f : Role → Bool) → ((q : Role) → f q ≡ false → p q ≡ false) → (xs : List Role) → find p (filter f xs) ≡ find p xs
  find-filter f h [] = refl
  find-filter f h (x ∷ xs) = by (f x) refl (p x) refl (find-filter f h xs)
    where
      by : (a : Bool) → f x ≡ a → (b : Bool) → p x ≡ b → find p (filter f xs) ≡ find p xs
          → find p (cond a (x ∷ filter f xs) (filter f xs)) ≡ cond b (Some x) (find p xs)
      by true e b k below = rw k (ap (λ (o : Option Role). cond b (Some x) o) below)
      by false e true k below = absurd (both_ways (sym k ∙ h x e))
      by false e false k below = below

  pub find-first_appearances : (xs : List Role) → find p (first_appearances xs) ≡ find p xs
  find-first_appearances [] = refl
  find-first_appearances (x ∷ xs) = by (p x) refl (find-first_appearances xs)
    where
      by : (b : Bool) → p x ≡ b → find p (first_appearances xs) ≡ find p xs
          → cond b (Some x) (find p (filter (λ q. not (role_eq q x)) (first_appearances xs))) ≡ cond b (Some x) (find p xs)
      by true e below = refl
      by false e below = find-filter (λ q. not (role_eq q x)) (λ q same. ap p ((role_eq-decides q x).0 (not_not (role_eq q x) same)) ∙ e) (first_appearances xs) ∙ below

pub known_cast : (at : Where) (cast : List Role) (I : Term) → unknown_role at cast (cast_of I) ≡ unknown_role at cast (mentions I)
known_cast at cast I = ap (role_refused at) (find-first_appearances (λ q. not (member q cast)) (mentions I))
