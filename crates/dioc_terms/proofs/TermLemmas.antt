-- The roles that a term names, its cast, and what stamping keeps.
use Rattle.std.proofs.Common.{◌≡◌, ℕ, suc, ◌+◌, List, [], ◌∷◌, ◌++◌, Bool, true, false, ◌&&◌, ◌||◌, not, if◌then◌else◌, filter, map, refl, sym, ap, ap₂, ◌∙◌, subst, ⊎_elim}
use Rattle.std.proofs.lemmas.Bool.{and_from, and_right, cond-true, cond-false, cases_Bool}
use Rattle.std.proofs.lemmas.List.{map-append}
use Rattle.std.proofs.lemmas.List.Folds.{list_any-append}
use Rattle.dioc_terms.specs.declared.names.Role.{Role}
use Rattle.dioc_terms.specs.Equality.{role_eq, member}
use Rattle.dioc_terms.specs.EqualityLemmas.{equality-decides}
use Rattle.dioc_terms.specs.Terms.{Term, Skip, Com, Set, Input, Seq, Par, If, While, Scope, empty, mentions, is_in, first_appearances, distinct_roles, at_epoch, stamped, self_messages, constructs}
use Rattle.dioc_terms.specs.TermLaws.{MentionsAreRoles, CastsAreRoles, StampedBodies}

role_same : (a b : Role) → role_eq a b ≡ true → a ≡ b
role_same a b h = (equality-decides.role a b).0 h

role_itself : (a : Role) → role_eq a a ≡ true
role_itself a = (equality-decides.role a a).1 refl

or_none : (b : Bool) → b ≡ (b || false)
or_none true = refl
or_none false = refl

or_same : (a b c : Bool) → ((a || b) || c) ≡ (a || (b || c))
or_same true b c = refl
or_same false b c = refl

pub mentions-are_roles : MentionsAreRoles
mentions-are_roles q Skip = refl
mentions-are_roles q (Com i o a e b x) = ap (λ t. role_eq q a || t) (or_none (role_eq q b))
mentions-are_roles q (Set i x r e) = or_none (role_eq q r)
mentions-are_roles q (Input i x r) = or_none (role_eq q r)
mentions-are_roles q (Seq I J) =
    ap₂ (λ s t. s || t) (mentions-are_roles q I) (mentions-are_roles q J) ∙ sym (list_any-append (role_eq q) (mentions I) (mentions J))
mentions-are_roles q (Par I J) =
    ap₂ (λ s t. s || t) (mentions-are_roles q I) (mentions-are_roles q J) ∙ sym (list_any-append (role_eq q) (mentions I) (mentions J))
mentions-are_roles q (If i r g I J) =
    or_same (role_eq q r) (is_in q I) (is_in q J)
    ∙ ap (λ t. role_eq q r || t)
    (ap₂ (λ s t. s || t) (mentions-are_roles q I) (mentions-are_roles q J) ∙ sym (list_any-append (role_eq q) (mentions I) (mentions J)))
mentions-are_roles q (While i r g I) = ap (λ t. role_eq q r || t) (mentions-are_roles q I)
mentions-are_roles q (Scope i r I extra props level) =
    or_same (role_eq q r) (is_in q I) (member q extra)
    ∙ ap (λ t. role_eq q r || t)
    (ap (λ s. s || member q extra) (mentions-are_roles q I) ∙ sym (list_any-append (role_eq q) (mentions I) extra))

-- a filter has the roles of the list that pass
pub member-filter : (p : Role → Bool) (xs : List Role) (q : Role) → member q (filter p xs) ≡ (p q && member q xs)
member-filter p [] q = sym (and_right (p q) false refl)
member-filter p (x ∷ xs) q = ⊎_elim
    (λ yes. ap (member q) (cond-true (p x) (x ∷ filter p xs) (filter p xs) yes) ∙ ap (λ t. role_eq q x || t) (member-filter p xs q)
    ∙ kept (role_eq q x) (p q) (member q xs) (λ same. subst (λ r. p r ≡ true) (sym (role_same q x same)) yes))
    (λ no. ap (member q) (cond-false (p x) (x ∷ filter p xs) (filter p xs) no) ∙ member-filter p xs q
    ∙ left (role_eq q x) (p q) (member q xs) (λ same. subst (λ r. p r ≡ false) (sym (role_same q x same)) no))
    (cases_Bool (p x))
  where
    kept : (same passes later : Bool) → (same ≡ true → passes ≡ true) → (same || (passes && later)) ≡ (passes && (same || later))
    kept true passes later h = sym (ap (λ t. t && true) (h refl))
    kept false passes later h = refl

    left : (same passes later : Bool) → (same ≡ true → passes ≡ false) → (passes && later) ≡ (passes && (same || later))
    left true passes later h = ap (λ t. t && later) (h refl) ∙ sym (ap (λ t. t && true) (h refl))
    left false passes later h = refl

-- the first appearances of roles are the roles
pub member-first_appearances : (q : Role) (xs : List Role) → member q (first_appearances xs) ≡ member q xs
member-first_appearances q [] = refl
member-first_appearances q (x ∷ xs) =
    ap (λ t. role_eq q x || t) (member-filter (λ r. not (role_eq r x)) (first_appearances xs) q)
    ∙ ap (λ t. role_eq q x || (not (role_eq q x) && t)) (member-first_appearances q xs) ∙ same_or (role_eq q x) (member q xs)
  where
    same_or : (s t : Bool) → (s || (not s && t)) ≡ (s || t)
    same_or true t = refl
    same_or false t = refl

pub distinct-filter : (p : Role → Bool) (xs : List Role) → distinct_roles xs ≡ true → distinct_roles (filter p xs) ≡ true
distinct-filter p [] h = refl
distinct-filter p (x ∷ xs) h = ⊎_elim
    (λ yes. ap distinct_roles (cond-true (p x) (x ∷ filter p xs) (filter p xs) yes)
    ∙ and_from (not (member x (filter p xs))) _
    (ap not (member-filter p xs x ∙ ap (λ t. p x && t) (absent (member x xs) (distinct_roles xs) h) ∙ and_right (p x) false refl))
    (distinct-filter p xs (rest (member x xs) (distinct_roles xs) h)))
    (λ no. ap distinct_roles (cond-false (p x) (x ∷ filter p xs) (filter p xs) no) ∙ distinct-filter p xs (rest (member x xs) (distinct_roles xs) h))
    (cases_Bool (p x))
  where
    absent : (s t : Bool) → (not s && t) ≡ true → s ≡ false
    absent true t e = sym e
    absent false t e = refl

    rest : (s t : Bool) → (not s && t) ≡ true → t ≡ true
    rest true t e = cc
    rest false t e = e

pub distinct-first_appearances : (xs : List Role) → distinct_roles (first_appearances xs) ≡ true
distinct-first_appearances [] = refl
distinct-first_appearances (x ∷ xs) = and_from (not (member x (filter (λ r. not (role_eq r x)) (first_appearances xs)))) _
    (ap not (member-filter (λ r. not (role_eq r x)) (first_appearances xs) x
    ∙ ap (λ t. not t && member x (first_appearances xs)) (role_itself x)))
    (distinct-filter (λ r. not (role_eq r x)) (first_appearances xs) (distinct-first_appearances xs))

pub casts-are_roles : CastsAreRoles
casts-are_roles = record {
  same = λ q I. member-first_appearances q (mentions I) ∙ sym (mentions-are_roles q I);
  distinct = λ I. distinct-first_appearances (mentions I);
}

mentions-stamped : (I : Term) (n level : ℕ) → mentions (stamped I n level) ≡ mentions I
mentions-stamped Skip n level = refl
mentions-stamped (Com i o a e b x) n level = refl
mentions-stamped (Set i x r e) n level = refl
mentions-stamped (Input i x r) n level = refl
mentions-stamped (Seq I J) n level = ap₂ (λ s t. s ++ t) (mentions-stamped I n level) (mentions-stamped J n level)
mentions-stamped (Par I J) n level = ap₂ (λ s t. s ++ t) (mentions-stamped I n level) (mentions-stamped J n level)
mentions-stamped (If i r g I J) n level = ap₂ (λ s t. r ∷ (s ++ t)) (mentions-stamped I n level) (mentions-stamped J n level)
mentions-stamped (While i r g I) n level = ap (λ s. r ∷ s) (mentions-stamped I n level)
mentions-stamped (Scope i r I extra props _) n level = ap (λ s. r ∷ (s ++ extra)) (mentions-stamped I n level)

empty-stamped : (I : Term) (n level : ℕ) → empty (stamped I n level) ≡ empty I
empty-stamped Skip n level = refl
empty-stamped (Com i o a e b x) n level = refl
empty-stamped (Set i x r e) n level = refl
empty-stamped (Input i x r) n level = refl
empty-stamped (Seq I J) n level = ap₂ (λ s t. s && t) (empty-stamped I n level) (empty-stamped J n level)
empty-stamped (Par I J) n level = ap₂ (λ s t. s && t) (empty-stamped I n level) (empty-stamped J n level)
empty-stamped (If i r g I J) n level = refl
empty-stamped (While i r g I) n level = refl
empty-stamped (Scope i r I extra props _) n level = refl

constructs-stamped : (I : Term) (n level : ℕ) → constructs (stamped I n level) ≡ constructs I
constructs-stamped Skip n level = refl
constructs-stamped (Com i o a e b x) n level = refl
constructs-stamped (Set i x r e) n level = refl
constructs-stamped (Input i x r) n level = refl
constructs-stamped (Seq I J) n level = ap₂ (λ s t. s + t) (constructs-stamped I n level) (constructs-stamped J n level)
constructs-stamped (Par I J) n level = ap₂ (λ s t. s + t) (constructs-stamped I n level) (constructs-stamped J n level)
constructs-stamped (If i r g I J) n level = ap₂ (λ s t. suc (s + t)) (constructs-stamped I n level) (constructs-stamped J n level)
constructs-stamped (While i r g I) n level = ap suc (constructs-stamped I n level)
constructs-stamped (Scope i r I extra props _) n level = ap suc (constructs-stamped I n level)

self_messages-stamped : (I : Term) (n level : ℕ) → self_messages (stamped I n level) ≡ map (at_epoch n) (self_messages I)
self_messages-stamped Skip n level = refl
self_messages-stamped (Com i o a e b x) n level = same_or_none (role_eq a b)
  where
    same_or_none : (t : Bool) → (if t then at_epoch n i ∷ [] else []) ≡ map (at_epoch n) (if t then i ∷ [] else [])
    same_or_none true = refl
    same_or_none false = refl
self_messages-stamped (Set i x r e) n level = refl
self_messages-stamped (Input i x r) n level = refl
self_messages-stamped (Seq I J) n level =
    ap₂ (λ s t. s ++ t) (self_messages-stamped I n level) (self_messages-stamped J n level) ∙ sym (map-append (at_epoch n) (self_messages I) (self_messages J))
self_messages-stamped (Par I J) n level =
    ap₂ (λ s t. s ++ t) (self_messages-stamped I n level) (self_messages-stamped J n level) ∙ sym (map-append (at_epoch n) (self_messages I) (self_messages J))
self_messages-stamped (If i r g I J) n level =
    ap₂ (λ s t. s ++ t) (self_messages-stamped I n level) (self_messages-stamped J n level) ∙ sym (map-append (at_epoch n) (self_messages I) (self_messages J))
self_messages-stamped (While i r g I) n level = self_messages-stamped I n level
self_messages-stamped (Scope i r I extra props _) n level = self_messages-stamped I n level

pub stamped-bodies : StampedBodies
stamped-bodies = record {
  mentioned = mentions-stamped;
  named = λ q I n level. mentions-are_roles q (stamped I n level) ∙ ap (member q) (mentions-stamped I n level) ∙ sym (mentions-are_roles q I);
  emptiness = empty-stamped;
  size = constructs-stamped;
  to_self = self_messages-stamped;
  none_to_self = λ I n level h. self_messages-stamped I n level ∙ ap (map (at_epoch n)) h;
}
