-- Roles as the keys of functions: a role is another one or the same, and what an updated function gives.
use Rattle.std.proofs.Common.{◌≡◌, ◌⊎◌, true, false, subst, inl, inr, ⊎_elim}
use Rattle.std.proofs.lemmas.Bool.{cases_Bool, cond-true, cond-false, both_ways, false_from_ne_true}
use Rattle.dioc_terms.specs.declared.names.Role.{Role}
use Rattle.dioc_terms.specs.Equality.{role_eq}
use Rattle.global_steps.specs.Follow.{updated}
use Rattle.marked_laws.proofs.Equality.{role_same, role_itself}

pub role_cases : (q r : Role) → (q ≡ r) ⊎ (role_eq q r ≡ false)
role_cases q r = ⊎_elim (λ h. inl (role_same q r h)) (λ h. inr h) (cases_Bool (role_eq q r))

pub role_swap : (q r : Role) → role_eq q r ≡ false → role_eq r q ≡ false
role_swap q r h = false_from_ne_true (role_eq r q) (λ k. both_ways (role_eq q r) h (subst (λ x. role_eq x r ≡ true) (role_same r q k) (role_itself r)))

pub updated_here : {A : Type 0} (r : Role) (a : A) (f : Role → A) → updated r a f r ≡ a
updated_here r a f = cond-true (role_eq r r) a (f r) (role_itself r)

pub updated_there : {A : Type 0} (r : Role) (a : A) (f : Role → A) (q : Role) → role_eq q r ≡ false → updated r a f q ≡ f q
updated_there r a f q h = cond-false (role_eq q r) a (f q) h
