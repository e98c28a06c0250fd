-- More mentions of roles that were named before change no cast.
use Rattle.std.proofs.Common.{◌≡◌, List, [], ◌∷◌, ◌++◌, Bool, true, false, ◌&&◌, ◌||◌, not, cond, filter, refl, sym, ap, ◌∙◌}
use Rattle.std.specs.List.{list_all}
use Rattle.std.proofs.lemmas.Bool.{and_parts, and_from}
use Rattle.dioc_terms.specs.declared.names.Role.{Role}
use Rattle.dioc_terms.specs.Equality.{member, role_eq}
use Rattle.dioc_terms.specs.Terms.{first_appearances}
use Rattle.dioc_terms.proofs.TermLemmas.{member-first_appearances}

-- two filters one after the other
filter_both : (p r : Role → Bool) (xs : List Role) → filter p (filter r xs) ≡ filter (λ q. r q && p q) xs
filter_both p r [] = refl
filter_both p r (x ∷ xs) = by (r x) (filter_both p r xs)
  where
    by : (t : Bool) → filter p (filter r xs) ≡ filter (λ q. r q && p q) xs
        → filter p (cond t (x ∷ filter r xs) (filter r xs))
        ≡ cond (t && p x) (x ∷ filter (λ q. r q && p q) xs) (filter (λ q. r q && p q) xs)
    by true later = ap (λ l. cond (p x) (x ∷ l) l) later
    by false later = later

-- each role that passes is among these
abbrev PassAmong : (Role → Bool) → List Role → List Role → Bool
PassAmong p xs ys = list_all (λ q. not (p q) || member q xs) ys

none_pass : (p : Role → Bool) (ys : List Role) → PassAmong p [] ys ≡ true
    → filter p (first_appearances ys) ≡ []
none_pass p [] none = refl
none_pass p (y ∷ ys) none =
    by (p y) refl (and_parts (not (p y) || false) (PassAmong p [] ys) none).0
    (filter_both p (λ q. not (role_eq q y)) (first_appearances ys)
    ∙ none_pass (λ q. not (role_eq q y) && p q) ys
    (weaker ys (and_parts (not (p y) || false) (PassAmong p [] ys) none).1))
  where
    weaker_one : (t u : Bool) → (not u || false) ≡ true → (not (t && u) || false) ≡ true
    weaker_one true u h = h
    weaker_one false u h = refl

    weaker : (zs : List Role) → PassAmong p [] zs ≡ true
        → PassAmong (λ q. not (role_eq q y) && p q) [] zs ≡ true
    weaker [] h = refl
    weaker (z ∷ zs) h =
        let both = and_parts (not (p z) || false) (PassAmong p [] zs) h in
        and_from _ _ (weaker_one (not (role_eq z y)) (p z) both.0) (weaker zs both.1)

    by : (t : Bool) → p y ≡ t → (not t || false) ≡ true
        → filter p (filter (λ q. not (role_eq q y)) (first_appearances ys)) ≡ []
        → cond t (y ∷ filter p (filter (λ q. not (role_eq q y)) (first_appearances ys)))
        (filter p (filter (λ q. not (role_eq q y)) (first_appearances ys))) ≡ []
    by true at h later = cc
    by false at h later = later

passed_more : (p : Role → Bool) (xs ys : List Role) → PassAmong p xs ys ≡ true
    → filter p (first_appearances (xs ++ ys)) ≡ filter p (first_appearances xs)
passed_more p [] ys among = none_pass p ys among
passed_more p (x ∷ xs) ys among =
    ap (λ l. cond (p x) (x ∷ l) l)
    (filter_both p (λ q. not (role_eq q x)) (first_appearances (xs ++ ys))
    ∙ passed_more (λ q. not (role_eq q x) && p q) xs ys (weaker ys among)
    ∙ sym (filter_both p (λ q. not (role_eq q x)) (first_appearances xs)))
  where
    weaker_one : (t u v : Bool) → (not u || (t || v)) ≡ true → (not (not t && u) || v) ≡ true
    weaker_one true u v h = refl
    weaker_one false u v h = h

    weaker : (zs : List Role) → PassAmong p (x ∷ xs) zs ≡ true
        → PassAmong (λ q. not (role_eq q x) && p q) xs zs ≡ true
    weaker [] h = refl
    weaker (z ∷ zs) h =
        let both = and_parts (not (p z) || member z (x ∷ xs)) (PassAmong p (x ∷ xs) zs) h in
        and_from _ _ (weaker_one (role_eq z x) (p z) (member z xs) both.0) (weaker zs both.1)

keeps_all : (xs : List Role) → filter (λ q. true) xs ≡ xs
keeps_all [] = refl
keeps_all (x ∷ xs) = ap (λ l. x ∷ l) (keeps_all xs)

no_new_roles : (xs ys : List Role) → list_all (λ q. member q xs) ys ≡ true
    → first_appearances (xs ++ ys) ≡ first_appearances xs
no_new_roles xs ys known =
    sym (keeps_all (first_appearances (xs ++ ys))) ∙ passed_more (λ q. true) xs ys known
    ∙ keeps_all (first_appearances xs)

same_members : (xs : List Role)
    → ◌≡◌ {A = Role → Bool} (λ q. member q (first_appearances xs)) (λ q. member q xs)
same_members xs j = λ q. member-first_appearances q xs j

-- the same, where the roles are of the cast so far
pub none_new : (xs ys : List Role) → list_all (λ q. member q (first_appearances xs)) ys ≡ true
    → first_appearances (xs ++ ys) ≡ first_appearances xs
none_new xs ys known =
    no_new_roles xs ys (sym (ap (λ (f : Role → Bool). list_all f ys) (same_members xs)) ∙ known)
