-- Dropping what was added gives the input back.
use Rattle.std.proofs.Common.{◌≡◌, ℕ, ◌+◌, List, [], ◌∷◌, ◌++◌, Bool, true, false, ◌&&◌, if◌then◌else◌, Option, Some, None, refl, sym, ap, ap₂, ◌∙◌, ⊎_elim}
use Rattle.std.specs.Prelude.{find, codes, option_map}
use Rattle.std.proofs.lemmas.Bool.{cases_Bool, cond-true, cond-false, cond_both}
use Rattle.dioc_terms.specs.declared.names.Role.{Role}
use Rattle.dioc_terms.specs.Equality.{role_eq}
use Rattle.dioc_terms.specs.Terms.{Term, Skip, Com, Set, Input, Seq, Par, If, While, Scope, empty, is_in, indexed, index_at}
use Rattle.connectedness.specs.Connected.{linked}
use Rattle.mend.specs.Names.{begins_sq, sq_name, variables_of, names_in, taken_name}
use Rattle.mend.specs.Mended.{message, told, led_in, closed, opened, first_starter, through, join, relinked, added_messages, with_numbers, mended}
use Rattle.mend.specs.Dropped.{both_kept, or_skip, kept, dropped}
use Rattle.mend.specs.Laws.{DropsToInput}
use Rattle.mend.proofs.Erased.{erased, same_name, erased-indexed, indexed-erased}

nothing_more : (m : Option Term) → both_kept m None ≡ m
nothing_more None = refl
nothing_more (Some I) = refl

-- the operations of added messages begin with `sq_`, without and with a number
pub sq_begins : begins_sq (codes "sq_") ≡ true
sq_begins = refl

pub sq_name_begins : (n : ℕ) → begins_sq (sq_name n) ≡ true
sq_name_begins n = refl

message-kept : (a b : Role) → kept (message a b) ≡ None
message-kept a b = refl

told-kept : (t : Bool) (W : Term) (r k : Role) → kept (told t W r k) ≡ kept W
told-kept true W r k = refl
told-kept false W r k = nothing_more (kept W)

asked-kept : (t : Bool) (W : Term) (r k : Role) → kept (led_in t W r k) ≡ kept W
asked-kept true W r k = refl
asked-kept false W r k = refl

closed-kept : (k : Role) (I : Term) → kept (closed k I) ≡ kept I
closed-kept k Skip = refl
closed-kept k (Com i o a e b x) = told-kept (is_in k (Com i o a e b x)) (Com i o a e b x) b k
closed-kept k (Set i x r e) = told-kept (role_eq k r) (Set i x r e) r k
closed-kept k (Input i x r) = told-kept (role_eq k r) (Input i x r) r k
closed-kept k (Seq I J) = cond_both (empty J) (Seq (closed k I) J) (Seq I (closed k J)) (λ T. kept T ≡ both_kept (kept I) (kept J))
    (λ yes. ap (λ m. both_kept m (kept J)) (closed-kept k I)) (λ no. ap (λ m. both_kept (kept I) m) (closed-kept k J))
closed-kept k (Par I J) = ap₂ (λ m n. Some (Par (or_skip m) (or_skip n))) (closed-kept k I) (closed-kept k J)
closed-kept k (If i r g I J) =
    cond_both (empty I && empty J) (told (is_in k (If i r g I J)) (If i r g I J) r k) (If i r g (closed k I) (closed k J)) (λ T. kept T ≡ kept (If i r g I J))
    (λ yes. told-kept (is_in k (If i r g I J)) (If i r g I J) r k)
    (λ no. ap₂ (λ m n. Some (If i r g (or_skip m) (or_skip n))) (closed-kept k I) (closed-kept k J))
closed-kept k (While i r g I) = told-kept (is_in k (While i r g I)) (While i r g I) r k
closed-kept k (Scope i r I extra props level) = told-kept (is_in k (Scope i r I extra props level)) (Scope i r I extra props level) r k

opened-kept : (k : Role) (I : Term) → kept (opened k I) ≡ kept I
opened-kept k Skip = refl
opened-kept k (Com i o a e b x) = asked-kept (role_eq k a) (Com i o a e b x) a k
opened-kept k (Set i x r e) = asked-kept (role_eq k r) (Set i x r e) r k
opened-kept k (Input i x r) = asked-kept (role_eq k r) (Input i x r) r k
opened-kept k (Seq I J) = cond_both (empty I) (Seq I (opened k J)) (Seq (opened k I) J) (λ T. kept T ≡ both_kept (kept I) (kept J))
    (λ yes. ap (λ m. both_kept (kept I) m) (opened-kept k J)) (λ no. ap (λ m. both_kept m (kept J)) (opened-kept k I))
opened-kept k (Par I J) = ap₂ (λ m n. Some (Par (or_skip m) (or_skip n))) (opened-kept k I) (opened-kept k J)
opened-kept k (If i r g I J) = asked-kept (role_eq k r) (If i r g I J) r k
opened-kept k (While i r g I) = asked-kept (role_eq k r) (While i r g I) r k
opened-kept k (Scope i r I extra props level) = asked-kept (role_eq k r) (Scope i r I extra props level) r k

through-kept : (m : Option Role) (I J : Term) → kept (through m I J) ≡ both_kept (kept I) (kept J)
through-kept None I J = refl
through-kept (Some k) I J = ap₂ (λ m n. both_kept m n) (closed-kept k I) (opened-kept k J)

join-kept : (cast : List Role) (I J : Term) → kept (join cast I J) ≡ both_kept (kept I) (kept J)
join-kept cast I J = cond_both (linked I J) (Seq I J) (through (first_starter cast J) I J) (λ T. kept T ≡ both_kept (kept I) (kept J))
    (λ yes. refl) (λ no. through-kept (first_starter cast J) I J)

joined-kept : (cast : List Role) (I : Term) → kept (relinked cast I) ≡ kept I
joined-kept cast Skip = refl
joined-kept cast (Com i o a e b x) = refl
joined-kept cast (Set i x r e) = refl
joined-kept cast (Input i x r) = refl
joined-kept cast (Seq I J) = join-kept cast (relinked cast I) (relinked cast J) ∙ ap₂ (λ m n. both_kept m n) (joined-kept cast I) (joined-kept cast J)
joined-kept cast (Par I J) = ap₂ (λ m n. Some (Par (or_skip m) (or_skip n))) (joined-kept cast I) (joined-kept cast J)
joined-kept cast (If i r g I J) = ap₂ (λ m n. Some (If i r g (or_skip m) (or_skip n))) (joined-kept cast I) (joined-kept cast J)
joined-kept cast (While i r g I) = ap (λ m. Some (While i r g (or_skip m))) (joined-kept cast I)
joined-kept cast (Scope i r I extra props level) = ap (λ m. Some (Scope i r (or_skip m) extra props level)) (joined-kept cast I)

numbered-kept : (n : ℕ) (I : Term) → kept (with_numbers n I) ≡ kept I
numbered-kept n Skip = refl
numbered-kept n (Com i o a e b x) = by_name (begins_sq o) refl
  where
    by_name : (t : Bool) → begins_sq o ≡ t → kept (Com i (if t then sq_name n else o) a e b x) ≡ (if t then None else Some (Com i o a e b x))
    by_name true is = refl
    by_name false is = cond-false (begins_sq o) None (Some (Com i o a e b x)) is
numbered-kept n (Set i x r e) = refl
numbered-kept n (Input i x r) = refl
numbered-kept n (Seq I J) = ap₂ (λ m k. both_kept m k) (numbered-kept n I) (numbered-kept (n + added_messages I) J)
numbered-kept n (Par I J) = ap₂ (λ m k. Some (Par (or_skip m) (or_skip k))) (numbered-kept n I) (numbered-kept (n + added_messages I) J)
numbered-kept n (If i r g I J) = ap₂ (λ m k. Some (If i r g (or_skip m) (or_skip k))) (numbered-kept n I) (numbered-kept (n + added_messages I) J)
numbered-kept n (While i r g I) = ap (λ m. Some (While i r g (or_skip m))) (numbered-kept n I)
numbered-kept n (Scope i r I extra props level) = ap (λ m. Some (Scope i r (or_skip m) extra props level)) (numbered-kept n I)

-- what is kept of a term without marks
both_kept-erased : (m n : Option Term) → both_kept (option_map (erased same_name) m) (option_map (erased same_name) n) ≡ option_map (erased same_name) (both_kept m n)
both_kept-erased None n = refl
both_kept-erased (Some I) None = refl
both_kept-erased (Some I) (Some J) = refl

or_skip-erased : (m : Option Term) → or_skip (option_map (erased same_name) m) ≡ erased same_name (or_skip m)
or_skip-erased None = refl
or_skip-erased (Some I) = refl

erased-kept : (I : Term) → kept (erased same_name I) ≡ option_map (erased same_name) (kept I)
erased-kept Skip = refl
erased-kept (Com i o a e b x) = by_name (begins_sq o)
  where
    by_name : (t : Bool) → (if t then None else Some (erased same_name (Com i o a e b x))) ≡ option_map (erased same_name) (if t then None else Some (Com i o a e b x))
    by_name true = refl
    by_name false = refl
erased-kept (Set i x r e) = refl
erased-kept (Input i x r) = refl
erased-kept (Seq I J) = ap₂ (λ m n. both_kept m n) (erased-kept I) (erased-kept J) ∙ both_kept-erased (kept I) (kept J)
erased-kept (Par I J) = ap₂ (λ s t. Some (Par s t)) (ap or_skip (erased-kept I) ∙ or_skip-erased (kept I)) (ap or_skip (erased-kept J) ∙ or_skip-erased (kept J))
erased-kept (If i r g I J) =
    ap₂ (λ s t. Some (If (index_at 0) r g s t)) (ap or_skip (erased-kept I) ∙ or_skip-erased (kept I)) (ap or_skip (erased-kept J) ∙ or_skip-erased (kept J))
erased-kept (While i r g I) = ap (λ s. Some (While (index_at 0) r g s)) (ap or_skip (erased-kept I) ∙ or_skip-erased (kept I))
erased-kept (Scope i r I extra props level) = ap (λ s. Some (Scope (index_at 0) r s extra props 0)) (ap or_skip (erased-kept I) ∙ or_skip-erased (kept I))

dropped-erased : (I : Term) → erased same_name (dropped I) ≡ dropped (erased same_name I)
dropped-erased I = sym (or_skip-erased (kept I)) ∙ ap or_skip (sym (erased-kept I))

-- A term whose names are free is kept whole
pub find_parts : (p : List ℕ → Bool) (xs ys : List (List ℕ)) → find p (xs ++ ys) ≡ None → (find p xs ≡ None) × (find p ys ≡ None)
find_parts p [] ys h = (refl, h)
find_parts p (x ∷ xs) ys h = ⊎_elim
    (λ yes. some_none (sym (cond-true (p x) (Some x) (find p (xs ++ ys)) yes) ∙ h))
    (λ no.
    let rest = find_parts p xs ys (sym (cond-false (p x) (Some x) (find p (xs ++ ys)) no) ∙ h) in
    (cond-false (p x) (Some x) (find p xs) no ∙ rest.0, rest.1))
    (cases_Bool (p x))
  where
    some_none : {A B : Type 0} {y : A} → Some y ≡ None → B
    some_none e = cc

pub first_free : (p : List ℕ → Bool) (x : List ℕ) (xs : List (List ℕ)) → find p (x ∷ xs) ≡ None → p x ≡ false
first_free p x xs h = ⊎_elim (λ yes. some_none (sym (cond-true (p x) (Some x) (find p xs) yes) ∙ h)) (λ no. no) (cases_Bool (p x))
  where
    some_none : {A B : Type 0} {y : A} → Some y ≡ None → B
    some_none e = cc

pub rest_free : (p : List ℕ → Bool) (x : List ℕ) (xs : List (List ℕ)) → find p (x ∷ xs) ≡ None → find p xs ≡ None
rest_free p x xs h = sym (cond-false (p x) (Some x) (find p xs) (first_free p x xs h)) ∙ h

pub free-kept : (I : Term) → taken_name I ≡ None → kept I ≡ Some I
free-kept Skip h = refl
free-kept (Com i o a e b x) h = cond-false (begins_sq o) None (Some (Com i o a e b x)) (first_free begins_sq o (variables_of e ++ x ∷ []) h)
free-kept (Set i x r e) h = refl
free-kept (Input i x r) h = refl
free-kept (Seq I J) h =
    let parts = find_parts begins_sq (names_in I) (names_in J) h in
    ap₂ (λ m n. both_kept m n) (free-kept I parts.0) (free-kept J parts.1)
free-kept (Par I J) h =
    let parts = find_parts begins_sq (names_in I) (names_in J) h in
    ap₂ (λ m n. Some (Par (or_skip m) (or_skip n))) (free-kept I parts.0) (free-kept J parts.1)
free-kept (If i r g I J) h =
    let parts = find_parts begins_sq (names_in I) (names_in J) (find_parts begins_sq (variables_of g) (names_in I ++ names_in J) h).1 in
    ap₂ (λ m n. Some (If i r g (or_skip m) (or_skip n))) (free-kept I parts.0) (free-kept J parts.1)
free-kept (While i r g I) h = ap (λ m. Some (While i r g (or_skip m))) (free-kept I (find_parts begins_sq (variables_of g) (names_in I) h).1)
free-kept (Scope i r I extra props level) h = ap (λ m. Some (Scope i r (or_skip m) extra props level)) (free-kept I h)

pub drops-to_input : DropsToInput
drops-to_input cast I marks free =
    sym (indexed-erased 0 (dropped (mended cast I)))
    ∙ ap indexed (dropped-erased (mended cast I) ∙ ap dropped (erased-indexed same_name 0 (with_numbers 0 (relinked cast I)))
    ∙ sym (dropped-erased (with_numbers 0 (relinked cast I)))
    ∙ ap (λ m. erased same_name (or_skip m)) (numbered-kept 0 (relinked cast I) ∙ joined-kept cast I ∙ free-kept I free))
    ∙ indexed-erased 0 I ∙ sym marks
