-- Where a role is in the cast.
use Rattle.std.proofs.Common.{◌≡◌, ℕ, zero, suc, ◌+◌, ◌<◌, List, [], ◌∷◌, false, Some, None, slice_get, length, refl, sym, ap, ◌∙◌, subst, ⊎_elim, arith, zero-add}
use Rattle.std.proofs.lemmas.Bool.{cases_Bool, cond-true, cond-false, or_from}
use Rattle.std.proofs.lemmas.Iterator.Adapters.{position_from-zero}
use Rattle.std.specs.List.{position, position_from}
use Rattle.dioc_terms.specs.declared.names.Role.{Role}
use Rattle.dioc_terms.specs.Equality.{role_eq, member}
use Rattle.marked_laws.proofs.Equality.{role_same}
use Rattle.marked_laws.proofs.Shapes.{none_some, some_same}

some_none : {A : Type 0} {x : A} → Some x ≡ None → ⊥
some_none h = cc

-- a role stands at each place of the cast
pub role_there : (roles : List Role) (i : ℕ) → i < length roles → (q : Role) × (slice_get roles i ≡ Some q)
role_there [] i inside = absurd (omega (arith, inside))
role_there (r ∷ rs) zero inside = (r, refl)
role_there (r ∷ rs) (suc i) inside = role_there rs i (omega (arith, inside))

module _ (q : Role) where
  from_at : (roles : List Role) (n i : ℕ) → position_from (role_eq q) n roles ≡ Some i → (k : ℕ) × (i ≡ n + k) × (slice_get roles k ≡ Some q)
  from_at [] n i h = absurd (none_some h)
  from_at (r ∷ rs) n i h = ⊎_elim
      (λ here. (0, omega (arith, some_same (sym (cond-true (role_eq q r) (Some n) (position_from (role_eq q) (n + 1) rs) here) ∙ h)), ap Some (sym (role_same q r here))))
      (λ there. let later = from_at rs (n + 1) i (sym (cond-false (role_eq q r) (Some n) (position_from (role_eq q) (n + 1) rs) there) ∙ h) in
      (suc later.0, omega (arith, later.1), later.2))
      (cases_Bool (role_eq q r))

  from_none : (roles : List Role) (n : ℕ) → position_from (role_eq q) n roles ≡ None → member q roles ≡ false
  from_none [] n h = refl
  from_none (r ∷ rs) n h = ⊎_elim
      (λ here. absurd (some_none (sym (cond-true (role_eq q r) (Some n) (position_from (role_eq q) (n + 1) rs) here) ∙ h)))
      (λ there. or_from (role_eq q r) (member q rs) there (from_none rs (n + 1) (sym (cond-false (role_eq q r) (Some n) (position_from (role_eq q) (n + 1) rs) there) ∙ h)))
      (cases_Bool (role_eq q r))

  -- the role is at its place
  pub place_at : (roles : List Role) (i : ℕ) → position (role_eq q) roles ≡ Some i → slice_get roles i ≡ Some q
  place_at roles i h =
      let found = from_at roles 0 i (sym (position_from-zero (role_eq q) roles) ∙ h) in
      subst (λ k. slice_get roles k ≡ Some q) (sym (found.1 ∙ zero-add found.0)) found.2

  -- a role that has no place is none of the cast
  pub place_none : (roles : List Role) → position (role_eq q) roles ≡ None → member q roles ≡ false
  place_none roles h = from_none roles 0 (sym (position_from-zero (role_eq q) roles) ∙ h)
