-- Roles that are put into a set one after another stand in it by their first appearances.
use Rattle.std.proofs.Common.{◌≡◌, refl, sym, ap, ◌∙◌, List, [], ◌∷◌, ◌++◌, Bool, true, false, cond, ◌&&◌, ◌||◌, not, filter, append_assoc}
use Rattle.std.proofs.lemmas.List.{append-nil}
use Rattle.std.proofs.lemmas.List.Folds.{list_any-append}
use Rattle.indexmap.specs.IndexSet.{insert_all}
use Rattle.dioc_terms.specs.declared.names.Role.{Role}
use Rattle.dioc_terms.specs.Equality.{role_eq, member}
use Rattle.dioc_terms.specs.EqualityLemmas.{role_eq-decides}
use Rattle.dioc_terms.specs.Terms.{first_appearances, cast_of, Term, mentions}

filter-head : {X : Type 0} (p : X → Bool) (x : X) (ys zs : List X) (a b c : Bool) → p x ≡ b → c ≡ (a && b) → filter p ys ≡ zs
    → filter p (cond a (x ∷ ys) ys) ≡ cond c (x ∷ zs) zs
filter-head p x ys zs true true c e h k = rw (e, h) (ap (λ l. x ∷ l) k)
filter-head p x ys zs true false c e h k = rw (e, h) k
filter-head p x ys zs false b c e h k = rw h k

-- two filters, one after the other, are one by both tests
filter-both : {X : Type 0} (p r s : X → Bool) → ((x : X) → s x ≡ (r x && p x)) → (xs : List X) → filter p (filter r xs) ≡ filter s xs
filter-both p r s h [] = refl
filter-both p r s h (x ∷ xs) = filter-head p x (filter r xs) (filter s xs) (r x) (p x) (s x) refl (h x) (filter-both p r s h xs)

-- where x is known, a role that is not known is another one
known-other : (known : List Role) (x : Role) → member x known ≡ true → (q : Role) → not (member q known) ≡ (not (role_eq q x) && not (member q known))
known-other known x there q = by (role_eq q x) refl
  where
    by : (b : Bool) → role_eq q x ≡ b → not (member q known) ≡ (not b && not (member q known))
    by true e = ap (λ (r : Role). not (member r known)) ((role_eq-decides q x).0 e) ∙ ap not there
    by false e = refl

-- a role that is new to more roles is another one than the last, and new to the first ones
more-other : (known : List Role) (x q : Role) → not (member q (known ++ x ∷ [])) ≡ (not (role_eq q x) && not (member q known))
more-other known x q = ap not (list_any-append (role_eq q) known (x ∷ [])) ∙ by (member q known) (role_eq q x)
  where
    by : (a b : Bool) → not (a || (b || false)) ≡ (not b && not a)
    by true true = refl
    by true false = refl
    by false true = refl
    by false false = refl

-- what is new to the known roles, of the first appearances in xs
abbrev newcomers : List Role → List Role → List Role
newcomers known xs = filter (λ q. not (member q known)) (first_appearances xs)

insert_key-appearances : (known : List Role) (x : Role) (xs : List Role) → ((more : List Role) → insert_all role_eq more xs ≡ more ++ newcomers more xs)
    → (b : Bool) → member x known ≡ b
    → insert_all role_eq (cond b known (known ++ x ∷ [])) xs
    ≡ known ++ cond (not b) (x ∷ filter (λ q. not (member q known)) (filter (λ q. not (role_eq q x)) (first_appearances xs))) (filter (λ q. not (member q known)) (filter (λ q. not (role_eq q x)) (first_appearances xs)))
insert_key-appearances known x xs below true e =
    below known
    ∙ ap (λ l. known ++ l) (sym (filter-both (λ q. not (member q known)) (λ q. not (role_eq q x)) (λ q. not (member q known)) (known-other known x e) (first_appearances xs)))
insert_key-appearances known x xs below false e =
    below (known ++ x ∷ [])
    ∙ (append_assoc known (x ∷ []) (newcomers (known ++ x ∷ []) xs)
    ∙ ap (λ l. known ++ (x ∷ l)) (sym (filter-both (λ q. not (member q known)) (λ q. not (role_eq q x)) (λ q. not (member q (known ++ x ∷ []))) (more-other known x) (first_appearances xs))))

insert_all-appearances : (known xs : List Role) → insert_all role_eq known xs ≡ known ++ newcomers known xs
insert_all-appearances known [] = sym (append-nil known)
insert_all-appearances known (x ∷ xs) = insert_key-appearances known x xs (λ more. insert_all-appearances more xs) (member x known) refl

filter-always : {X : Type 0} (xs : List X) → filter (λ x. true) xs ≡ xs
filter-always [] = refl
filter-always (x ∷ xs) = ap (λ l. x ∷ l) (filter-always xs)

-- a set that began empty holds the cast of the term whose mentions were put into it
pub cast_of-inserted : (I : Term) → insert_all role_eq [] (mentions I) ≡ cast_of I
cast_of-inserted I = insert_all-appearances [] (mentions I) ∙ filter-always (first_appearances (mentions I))
