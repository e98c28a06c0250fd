-- Lists of roles, and what a filter keeps of them.
use Rattle.std.proofs.Common.{◌≡◌, List, [], ◌∷◌, Bool, true, false, ◌&&◌, not, filter, cond, refl, sym, ap, ◌∙◌, subst, ⊎_elim}
use Rattle.std.proofs.lemmas.Bool.{and_parts, or_left, or_right, or_cases, both_ways, cases_Bool, cond-true, cond-false, not-true}
use Rattle.dioc_terms.specs.declared.names.Role.{Role}
use Rattle.dioc_terms.specs.Equality.{role_eq, member}
use Rattle.dioc_terms.specs.Terms.{distinct_roles}
use Rattle.marked_laws.proofs.Shapes.{same_head}
use Rattle.marked_laws.proofs.Equality.{role_same, role_itself}
use Rattle.marked_laws.proofs.Roles.{role_cases}

filter_kept : (p : Role → Bool) (x : Role) (xs : List Role) → p x ≡ true → filter p (x ∷ xs) ≡ x ∷ filter p xs
filter_kept p x xs h = cond-true (p x) (x ∷ filter p xs) (filter p xs) h

filter_left : (p : Role → Bool) (x : Role) (xs : List Role) → p x ≡ false → filter p (x ∷ xs) ≡ filter p xs
filter_left p x xs h = cond-false (p x) (x ∷ filter p xs) (filter p xs) h

pub member_here : (q : Role) (xs : List Role) → member q (q ∷ xs) ≡ true
member_here q xs = or_left (role_eq q q) (member q xs) (role_itself q)

-- a kept role passes, and is of the list
pub filter_member : (p : Role → Bool) (xs : List Role) (q : Role) → member q (filter p xs) ≡ true → (p q ≡ true) × (member q xs ≡ true)
filter_member p [] q h = absurd (both_ways false refl h)
filter_member p (x ∷ xs) q h = ⊎_elim
    (λ yes. ⊎_elim
    (λ is. (subst (λ r. p r ≡ true) (sym (role_same q x is)) yes, or_left (role_eq q x) (member q xs) is))
    (λ later. let parts = filter_member p xs q later in (parts.0, or_right (role_eq q x) (member q xs) parts.1))
    (or_cases (role_eq q x) (member q (filter p xs)) (subst (λ l. member q l ≡ true) (filter_kept p x xs yes) h)))
    (λ no. let parts = filter_member p xs q (subst (λ l. member q l ≡ true) (filter_left p x xs no) h) in
    (parts.0, or_right (role_eq q x) (member q xs) parts.1))
    (cases_Bool (p x))

-- a role of the list that passes is kept
pub filter_keeps : (p : Role → Bool) (xs : List Role) (q : Role) → p q ≡ true → member q xs ≡ true → member q (filter p xs) ≡ true
filter_keeps p [] q h k = k
filter_keeps p (x ∷ xs) q h k = ⊎_elim
    (λ yes. subst (λ l. member q l ≡ true) (sym (filter_kept p x xs yes))
    (⊎_elim (λ is. or_left (role_eq q x) (member q (filter p xs)) is)
    (λ later. or_right (role_eq q x) (member q (filter p xs)) (filter_keeps p xs q h later)) (or_cases (role_eq q x) (member q xs) k)))
    (λ no. subst (λ l. member q l ≡ true) (sym (filter_left p x xs no))
    (⊎_elim (λ is. absurd (both_ways (p x) no (subst (λ r. p r ≡ true) (role_same q x is) h)))
    (λ later. filter_keeps p xs q h later) (or_cases (role_eq q x) (member q xs) k)))
    (cases_Bool (p x))

-- the first kept role passes, and is of the list
pub filter_head : (p : Role → Bool) (xs : List Role) (q : Role) (qs : List Role) → filter p xs ≡ q ∷ qs → (p q ≡ true) × (member q xs ≡ true)
filter_head p xs q qs h = filter_member p xs q (subst (λ l. member q l ≡ true) (sym h) (member_here q qs))

-- where none is kept, none passes
pub filter_none : (p : Role → Bool) (xs : List Role) (q : Role) → filter p xs ≡ [] → member q xs ≡ true → p q ≡ false
filter_none p xs q h k = ⊎_elim
    (λ yes. absurd (both_ways false refl (subst (λ l. member q l ≡ true) h (filter_keeps p xs q yes k))))
    (λ no. no) (cases_Bool (p q))

-- tests that agree on the roles of the list keep the same
pub filter_alike : (p p' : Role → Bool) (xs : List Role) → ((q : Role) → member q xs ≡ true → p' q ≡ p q) → filter p' xs ≡ filter p xs
filter_alike p p' [] h = refl
filter_alike p p' (x ∷ xs) h =
    ap (λ b. cond b (x ∷ filter p' xs) (filter p' xs)) (h x (member_here x xs))
    ∙ ap (λ l. cond (p x) (x ∷ l) l) (filter_alike p p' xs (λ q k. h q (or_right (role_eq q x) (member q xs) k)))

-- without its first role a filter's list is kept by the test that refuses this role too
pub filter_tail : (p p' : Role → Bool) (xs : List Role) (q : Role) (qs : List Role) → distinct_roles xs ≡ true → filter p xs ≡ q ∷ qs
    → p' q ≡ false → ((r : Role) → role_eq r q ≡ false → p' r ≡ p r) → filter p' xs ≡ qs
filter_tail p p' [] q qs unique h out other = absurd (nothing_kept h)
  where
    nothing_kept : {x : Role} {l : List Role} → [] ≡ x ∷ l → ⊥
    nothing_kept e = cc
filter_tail p p' (x ∷ xs) q qs unique h out other =
    let parts = and_parts (not (member x xs)) (distinct_roles xs) unique in
    ⊎_elim
    (λ yes.
    let same = same_head (sym (filter_kept p x xs yes) ∙ h) in
    filter_left p' x xs (subst (λ r. p' r ≡ false) (sym same.0) out)
    ∙ filter_alike p p' xs (λ r k. ⊎_elim
    (λ is. absurd (both_ways (member x xs) (not-true (member x xs) parts.0) (subst (λ y. member y xs ≡ true) (is ∙ sym same.0) k)))
    (λ no. other r no) (role_cases r q))
    ∙ same.1)
    (λ no.
    ⊎_elim
    (λ is. absurd (both_ways (p x) no (subst (λ y. p y ≡ true) (sym is) (filter_head p (x ∷ xs) q qs h).0)))
    (λ differs. filter_left p' x xs (other x differs ∙ no)
    ∙ filter_tail p p' xs q qs parts.1 (sym (filter_left p x xs no) ∙ h) out other)
    (role_cases x q))
    (cases_Bool (p x))

-- a filter of distinct roles has distinct roles
pub filter_distinct : (p : Role → Bool) (xs : List Role) → distinct_roles xs ≡ true → distinct_roles (filter p xs) ≡ true
filter_distinct p [] h = refl
filter_distinct p (x ∷ xs) h =
    let parts = and_parts (not (member x xs)) (distinct_roles xs) h in
    ⊎_elim
    (λ yes. subst (λ l. distinct_roles l ≡ true) (sym (filter_kept p x xs yes))
    (and_both (not (member x (filter p xs))) (distinct_roles (filter p xs))
    (⊎_elim (λ is. absurd (both_ways (member x xs) (not-true (member x xs) parts.0) (filter_member p xs x is).1)) (λ none. ap not none)
    (cases_Bool (member x (filter p xs))))
    (filter_distinct p xs parts.1)))
    (λ no. subst (λ l. distinct_roles l ≡ true) (sym (filter_left p x xs no)) (filter_distinct p xs parts.1))
    (cases_Bool (p x))
  where
    and_both : (a b : Bool) → a ≡ true → b ≡ true → (a && b) ≡ true
    and_both a b e f = rw (e, f)
