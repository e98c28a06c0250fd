-- How long a cast without a role twice can be, and how many messages a mended term can have.
use Rattle.std.proofs.Common.{◌≡◌, ◌∙◌, ◌≤◌, ◌<◌, ◌+◌, ℕ, suc, List, [], ◌∷◌, Bool, true, false, not, if◌then◌else◌, cond, filter, length, refl, sym, ap, ap₂, arith, subst, ⊎_elim}
use Rattle.std.proofs.lemmas.Bool.{and_parts, or_cases, or_left, or_right, both_ways, cases_Bool}
use Rattle.dioc_terms.specs.declared.names.Role.{Role}
use Rattle.dioc_terms.specs.Equality.{role_eq, member}
use Rattle.dioc_terms.specs.EqualityLemmas.{equality-decides}
use Rattle.dioc_terms.specs.Terms.{Term, Skip, Com, Set, Input, Seq, Par, If, While, Scope, distinct_roles, constructs, indexed_from, nodes}
use Rattle.mend.specs.Mended.{added_messages, with_numbers, relinked, mended}
use Rattle.mend.specs.Names.{begins_sq}

-- A list of roles without one of them
abbrev without : Role → List Role → List Role
without r qs = filter (λ q. not (role_eq q r)) qs

role_same : (a b : Role) → role_eq a b ≡ true → a ≡ b
role_same a b h = (equality-decides.role a b).0 h

role_swap : (a b : Role) → role_eq a b ≡ true → role_eq b a ≡ true
role_swap a b h = (equality-decides.role b a).1 (sym (role_same a b h))

never_longer : (r : Role) (qs : List Role) → length (without r qs) ≤ length qs
never_longer r [] = omega arith
never_longer r (q ∷ qs) = by (role_eq q r) (never_longer r qs)
  where
    by : (t : Bool) → length (without r qs) ≤ length qs → length (cond (not t) (q ∷ without r qs) (without r qs)) ≤ suc (length qs)
    by true below = omega (arith, below)
    by false below = omega (arith, below)

is_shorter : (r : Role) (qs : List Role) → member r qs ≡ true → length (without r qs) < length qs
is_shorter r [] h = absurd (both_ways false refl h)
is_shorter r (q ∷ qs) h = by (role_eq q r) refl (never_longer r qs) (λ k. is_shorter r qs k)
  where
    by : (t : Bool) → role_eq q r ≡ t → length (without r qs) ≤ length qs → (member r qs ≡ true → length (without r qs) < length qs)
        → length (cond (not t) (q ∷ without r qs) (without r qs)) < suc (length qs)
    by true e most below = omega (arith, most)
    by false e most below = ⊎_elim
        (λ here. absurd (both_ways (role_eq q r) e (role_swap r q here)))
        (λ later. let less = below later in omega (arith, less))
        (or_cases (role_eq r q) (member r qs) h)

still_there : (r q : Role) (qs : List Role) → role_eq q r ≡ false → member q qs ≡ true → member q (without r qs) ≡ true
still_there r q [] differ h = h
still_there r q (s ∷ qs) differ h = by (role_eq s r) refl (λ k. still_there r q qs differ k)
  where
    by : (t : Bool) → role_eq s r ≡ t → (member q qs ≡ true → member q (without r qs) ≡ true) → member q (cond (not t) (s ∷ without r qs) (without r qs)) ≡ true
    by true e below = ⊎_elim
        (λ here. absurd (both_ways (role_eq q r) differ ((equality-decides.role q r).1 (role_same q s here ∙ role_same s r e))))
        (λ later. below later)
        (or_cases (role_eq q s) (member q qs) h)
    by false e below = ⊎_elim
        (λ here. or_left (role_eq q s) (member q (without r qs)) here)
        (λ later. or_right (role_eq q s) (member q (without r qs)) (below later))
        (or_cases (role_eq q s) (member q qs) h)

not_true : (t : Bool) → not t ≡ true → t ≡ false
not_true true h = sym h
not_true false h = refl

-- roles of a list, none of them twice, are no more than the list has
pub no_more : (rs qs : List Role) → distinct_roles rs ≡ true → ((q : Role) → member q rs ≡ true → member q qs ≡ true) → length rs ≤ length qs
no_more [] qs h among = omega arith
no_more (r ∷ rs) qs h among =
    let parts = and_parts (not (member r rs)) (distinct_roles rs) h in
    let here : member r qs ≡ true = among r (or_left (role_eq r r) (member r rs) ((equality-decides.role r r).1 refl)) in
    let less : length (without r qs) < length qs = is_shorter r qs here in
    let below : length rs ≤ length (without r qs)
    = no_more rs (without r qs) parts.1
    (λ q is. still_there r q qs (other q parts.0 is) (among q (or_right (role_eq q r) (member q rs) is))) in
    omega (arith, less, below)
  where
    other : (q : Role) → not (member r rs) ≡ true → member q rs ≡ true → role_eq q r ≡ false
    other q new is = ⊎_elim
        (λ yes. absurd (both_ways (member r rs) (not_true (member r rs) new) (subst (λ s. member s rs ≡ true) (role_same q r yes) is)))
        (λ no. no)
        (cases_Bool (role_eq q r))

-- Numbers and marks leave the size
nodes-numbered : (n : ℕ) (I : Term) → nodes (with_numbers n I) ≡ nodes I
nodes-numbered n Skip = refl
nodes-numbered n (Com i o a e b x) = refl
nodes-numbered n (Set i x r e) = refl
nodes-numbered n (Input i x r) = refl
nodes-numbered n (Seq I J) = ap₂ (λ s t. suc (s + t)) (nodes-numbered n I) (nodes-numbered (n + added_messages I) J)
nodes-numbered n (Par I J) = ap₂ (λ s t. suc (s + t)) (nodes-numbered n I) (nodes-numbered (n + added_messages I) J)
nodes-numbered n (If i r g I J) = ap₂ (λ s t. suc (s + t)) (nodes-numbered n I) (nodes-numbered (n + added_messages I) J)
nodes-numbered n (While i r g I) = ap suc (nodes-numbered n I)
nodes-numbered n (Scope i r I extra props level) = ap suc (nodes-numbered n I)

nodes-indexed : (n : ℕ) (I : Term) → nodes (indexed_from n I) ≡ nodes I
nodes-indexed n Skip = refl
nodes-indexed n (Com i o a e b x) = refl
nodes-indexed n (Set i x r e) = refl
nodes-indexed n (Input i x r) = refl
nodes-indexed n (Seq I J) = ap₂ (λ s t. suc (s + t)) (nodes-indexed n I) (nodes-indexed (n + constructs I) J)
nodes-indexed n (Par I J) = ap₂ (λ s t. suc (s + t)) (nodes-indexed n I) (nodes-indexed (n + constructs I) J)
nodes-indexed n (If i r g I J) = ap₂ (λ s t. suc (s + t)) (nodes-indexed (suc n) I) (nodes-indexed (suc n + constructs I) J)
nodes-indexed n (While i r g I) = ap suc (nodes-indexed (suc n) I)
nodes-indexed n (Scope i r I extra props level) = ap suc (nodes-indexed (suc n) I)

same_size : (cast : List Role) (I : Term) → nodes (mended cast I) ≡ nodes (relinked cast I)
same_size cast I = nodes-indexed 0 (with_numbers 0 (relinked cast I)) ∙ nodes-numbered 0 (relinked cast I)

one_or_none : (t : Bool) → (if t then 1 else 0) ≤ 1
one_or_none true = omega arith
one_or_none false = omega arith

few_added : (I : Term) → added_messages I ≤ nodes I
few_added Skip = omega arith
few_added (Com i o a e b x) = one_or_none (begins_sq o)
few_added (Set i x r e) = omega arith
few_added (Input i x r) = omega arith
few_added (Seq I J) =
    let one : added_messages I ≤ nodes I = few_added I in
    let other : added_messages J ≤ nodes J = few_added J in
    omega (arith, one, other)
few_added (Par I J) =
    let one : added_messages I ≤ nodes I = few_added I in
    let other : added_messages J ≤ nodes J = few_added J in
    omega (arith, one, other)
few_added (If i r g I J) =
    let one : added_messages I ≤ nodes I = few_added I in
    let other : added_messages J ≤ nodes J = few_added J in
    omega (arith, one, other)
few_added (While i r g I) = let one : added_messages I ≤ nodes I = few_added I in omega (arith, one)
few_added (Scope i r I extra props level) = let one : added_messages I ≤ nodes I = few_added I in omega (arith, one)

-- a mended term has no more added messages than nodes
pub added-within : (cast : List Role) (I : Term) → added_messages (relinked cast I) ≤ nodes (mended cast I)
added-within cast I = let few : added_messages (relinked cast I) ≤ nodes (relinked cast I) = few_added (relinked cast I) in rw (same_size cast I) few
