-- What is listed of each role of a cast, where that of one role changes.
use Rattle.std.proofs.Common.{◌≡◌, ℕ, zero, suc, List, [], ◌∷◌, Bool, true, false, not, Some, slice_get, map, refl, sym, ap, ap₂, ◌∙◌, subst}
use Rattle.std.specs.Prelude.{◌||◌, slice_set}
use Rattle.std.proofs.lemmas.Bool.{and_parts, both_ways, false_from_ne_true, or_left, or_right}
use Rattle.dioc_terms.specs.declared.names.Role.{Role}
use Rattle.dioc_terms.specs.Equality.{member, role_eq}
use Rattle.dioc_terms.specs.Terms.{distinct_roles}
use Rattle.marked_laws.proofs.Equality.{role_itself, role_same}
use Rattle.marked_laws.proofs.Shapes.{none_some, some_same}
use Rattle.schedule.specs.Agendas.{Shown}

neither : (s t : Bool) → (s || t) ≡ false → (s ≡ false) × (t ≡ false)
neither true t h = cc
neither false t h = (refl, h)

not_true : (t : Bool) → not t ≡ true → t ≡ false
not_true true h = cc
not_true false h = refl

-- a test of two roles, the other way round
pub apart_too : (q r : Role) → role_eq q r ≡ false → role_eq r q ≡ false
apart_too q r h = false_from_ne_true (role_eq r q)
    (λ same. both_ways (role_eq q r) h (subst (λ x. role_eq q x ≡ true) (sym (role_same r q same)) (role_itself q)))

pub same_too : (q r : Role) → role_eq q r ≡ true → role_eq r q ≡ true
same_too q r h = subst (λ x. role_eq x q ≡ true) (role_same q r h) (role_itself q)

-- a role that stands in a list, and one that doesn't
pub stands_in : (roles : List Role) (i : ℕ) (q : Role) → slice_get roles i ≡ Some q → member q roles ≡ true
stands_in [] i q h = absurd (none_some h)
stands_in (r ∷ rs) zero q h = or_left (role_eq q r) (member q rs) (subst (λ x. role_eq q x ≡ true) (sym (some_same h)) (role_itself q))
stands_in (r ∷ rs) (suc i) q h = or_right (role_eq q r) (member q rs) (stands_in rs i q h)

apart_from : (r q : Role) (rs : List Role) → member r rs ≡ false → member q rs ≡ true → role_eq r q ≡ false
apart_from r q rs none some = false_from_ne_true (role_eq r q)
    (λ same. both_ways (member r rs) none (subst (λ x. member x rs ≡ true) (sym (role_same r q same)) some))

-- where no role stands twice, one stands at one place
pub one_place : (rs : List Role) (i j : ℕ) (q r : Role) → distinct_roles rs ≡ true → slice_get rs i ≡ Some q → slice_get rs j ≡ Some r
    → role_eq r q ≡ true → i ≡ j
one_place [] i j q r once at there same = absurd (none_some at)
one_place (x ∷ rs) zero zero q r once at there same = refl
one_place (x ∷ rs) zero (suc j) q r once at there same =
    let parts = and_parts (not (member x rs)) (distinct_roles rs) once in
    absurd (both_ways (role_eq x r) (apart_from x r rs (not_true (member x rs) parts.0) (stands_in rs j r there))
    (subst (λ y. role_eq y r ≡ true) (sym (some_same at)) (same_too r q same)))
one_place (x ∷ rs) (suc i) zero q r once at there same =
    let parts = and_parts (not (member x rs)) (distinct_roles rs) once in
    absurd (both_ways (role_eq x q) (apart_from x q rs (not_true (member x rs) parts.0) (stands_in rs i q at))
    (subst (λ y. role_eq y q ≡ true) (sym (some_same there)) same))
one_place (x ∷ rs) (suc i) (suc j) q r once at there same =
    ap suc (one_place rs i j q r (and_parts (not (member x rs)) (distinct_roles rs) once).1 at there same)

module _ (f g : Role → Shown) where
  -- lists that agree on each role of the cast
  pub all_same : (rs : List Role) → ((r : Role) → member r rs ≡ true → f r ≡ g r) → map f rs ≡ map g rs
  all_same [] same = refl
  all_same (r ∷ rs) same =
      ap₂ (λ (x : Shown) xs. x ∷ xs) (same r (or_left (role_eq r r) (member r rs) (role_itself r)))
      (all_same rs (λ q h. same q (or_right (role_eq q r) (member q rs) h)))

  others_same : (q : Role) (rs : List Role) → ((r : Role) → role_eq r q ≡ false → f r ≡ g r) → member q rs ≡ false → map f rs ≡ map g rs
  others_same q [] same none = refl
  others_same q (r ∷ rs) same none =
      let parts = neither (role_eq q r) (member q rs) none in
      ap₂ (λ (x : Shown) xs. x ∷ xs) (same r (apart_too q r parts.0)) (others_same q rs same parts.1)

  -- lists that agree on all roles but one, of which that of this one is written
  pub one_set : (rs : List Role) (i : ℕ) (q : Role) → ((r : Role) → role_eq r q ≡ false → f r ≡ g r) → distinct_roles rs ≡ true
      → slice_get rs i ≡ Some q → slice_set (map f rs) i (g q) ≡ map g rs
  one_set [] i q same once at = absurd (none_some at)
  one_set (r ∷ rs) zero q same once at =
      let parts = and_parts (not (member r rs)) (distinct_roles rs) once in
      ap₂ (λ (x : Shown) xs. x ∷ xs) (ap g (sym (some_same at)))
      (others_same q rs same (subst (λ x. member x rs ≡ false) (some_same at) (not_true (member r rs) parts.0)))
  one_set (r ∷ rs) (suc i) q same once at =
      let parts = and_parts (not (member r rs)) (distinct_roles rs) once in
      ap₂ (λ (x : Shown) xs. x ∷ xs) (same r (apart_from r q rs (not_true (member r rs) parts.0) (stands_in rs i q at)))
      (one_set rs i q same parts.1 at)

-- what is listed of each role, by its name
module _ (f : Role → Shown) (named : (r : Role) → (f r).0 ≡ r) where
  pub roles_listed : (rs : List Role) → map (λ (ready : Shown). ready.0) (map f rs) ≡ rs
  roles_listed [] = refl
  roles_listed (r ∷ rs) = ap₂ (λ (x : Role) xs. x ∷ xs) (named r) (roles_listed rs)

  pub listed_at : (rs : List Role) (i : ℕ) (x : Shown) → slice_get (map f rs) i ≡ Some x → (slice_get rs i ≡ Some x.0) × (x ≡ f x.0)
  listed_at [] i x h = absurd (none_some h)
  listed_at (r ∷ rs) zero x h =
      let is : r ≡ x.0 = sym (named r) ∙ ap (λ (y : Shown). y.0) (some_same h) in
      (ap Some is, sym (some_same h) ∙ ap f is)
  listed_at (r ∷ rs) (suc i) x h = listed_at rs i x h
