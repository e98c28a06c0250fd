-- Whom the leader of a scope tells.
use Rattle.std.proofs.Common.{◌≡◌, List, [], ◌∷◌, Bool, true, false, ◌&&◌, ◌||◌, not, filter, cond, refl, sym, ap, ap₂, ◌∙◌}
use Rattle.std.proofs.lemmas.Bool.{or_left, or_right}
use Rattle.dioc_terms.specs.declared.names.Role.{Role}
use Rattle.dioc_terms.specs.Equality.{role_eq, member}
use Rattle.dioc_terms.specs.EqualityLemmas.{equality-decides}
use Rattle.dioc_terms.specs.Terms.{Scope, is_in}
use Rattle.scope_leader.specs.Plans.{ToldAreTheOthers}

mix : (e m a b : Bool) → (e ≡ true → a ≡ b) → ((a && e) || (m && b)) ≡ ((e || m) && b)
mix true m a b h = ap (λ x. (x && true) || (m && b)) (h refl) ∙ both m b
  where
    both : (m b : Bool) → ((b && true) || (m && b)) ≡ b
    both m true = refl
    both true false = refl
    both false false = refl
mix false m true b h = refl
mix false m false b h = refl

module _ (p : Role → Bool) where
  member-kept : (t : Bool) (q x : Role) (kept : List Role) → member q (cond t (x ∷ kept) kept)
      ≡ ((t && role_eq q x) || member q kept)
  member-kept true q x kept = refl
  member-kept false q x kept = refl

  -- a role is among those that pass exactly where it is one of them and passes
  member-filter : (q : Role) (xs : List Role) → member q (filter p xs) ≡ (member q xs && p q)
  member-filter q [] = refl
  member-filter q (x ∷ xs) =
      member-kept (p x) q x (filter p xs) ∙ ap (λ m. (p x && role_eq q x) || m) (member-filter q xs)
      ∙ mix (role_eq q x) (member q xs) (p x) (p q) (λ same. ap p
      (sym ((equality-decides.role q x).0 same)))

-- two tests that agree on the roles of a list let the same ones pass
filter-same : (f g : Role → Bool) (xs : List Role) → ((q : Role) → member q xs ≡ true → f q ≡ g q)
    → filter f xs ≡ filter g xs
filter-same f g [] agree = refl
filter-same f g (x ∷ xs) agree =
    ap₂ (λ t kept. cond t (x ∷ kept) kept) (agree x
    (or_left (role_eq x x) (member x xs) ((equality-decides.role x x).1 refl)))
    (filter-same f g xs (λ q h. agree q (or_right (role_eq q x) (member q xs) h)))

pub told-are_the_others : ToldAreTheOthers
told-are_the_others cast i r I extra props level =
    filter-same _ _ cast (λ q in_cast. ap (λ b. b && not (role_eq q r))
    (member-filter (λ q. is_in q (Scope i r I extra props level)) q cast
    ∙ ap (λ m. m && is_in q (Scope i r I extra props level)) in_cast))
