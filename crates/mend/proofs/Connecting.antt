-- Closing, opening and joining: who begins and ends what comes out, that it is connected, and its roles.
use Rattle.std.proofs.Common.{◌≡◌, List, [], ◌∷◌, ◌++◌, Bool, true, false, ◌&&◌, ◌||◌, if◌then◌else◌, Option, Some, None, refl, sym, ap, ap₂, ◌∙◌, subst, ⊎_elim}
use Rattle.std.specs.Prelude.{find}
use Rattle.std.specs.List.{list_all}
use Rattle.std.proofs.lemmas.Bool.{and_parts, and_from, and_cases, or_left, or_right, or_cases, or_parts, both_ways, cases_Bool, cond-true, cond-false, cond_both}
use Rattle.dioc_terms.specs.declared.names.Role.{Role}
use Rattle.dioc_terms.specs.declared.names.Index.{Index}
use Rattle.dioc_terms.specs.Equality.{role_eq, member}
use Rattle.dioc_terms.specs.EqualityLemmas.{equality-decides}
use Rattle.dioc_terms.specs.Terms.{Term, Skip, Com, Set, Input, Seq, Par, If, While, Scope, empty, is_in, self_messages, index_at}
use Rattle.dioc_terms.specs.TermLaws.{MentionsAreRoles}
use Rattle.connectedness.specs.ByCases.{begins, attends_ends}
use Rattle.connectedness.specs.Connected.{starters, linked, connected}
use Rattle.connectedness.specs.Laws.{RolesAtEnds, HasRoles}
use Rattle.mend.specs.Mended.{message, told, led_in, closed, opened, first_starter, through, join, relinked, with_numbers, mended}
use Rattle.mend.specs.Laws.{MendedConnected, StaysAsItIs}
use Rattle.mend.proofs.Erased.{erased, nameless, faceless, erased-indexed, erased-numbered, is_in-erased, connected-erased, self_messages-erased, none_faceless}

role_same : (a b : Role) → role_eq a b ≡ true → a ≡ b
role_same a b h = (equality-decides.role a b).0 h

role_itself : (a : Role) → role_eq a a ≡ true
role_itself a = (equality-decides.role a a).1 refl

role_swap : (a b : Role) → role_eq a b ≡ false → role_eq b a ≡ false
role_swap a b h = ⊎_elim
    (λ yes. absurd (both_ways (role_eq a b) h (ap (role_eq a) (role_same b a yes) ∙ role_itself a)))
    (λ no. no)
    (cases_Bool (role_eq b a))

-- What an added message changes
-- a construct, which isn't empty, and a message behind it or before it
told-empty : (t : Bool) (W : Term) (r k : Role) → empty W ≡ false → empty (told t W r k) ≡ false
told-empty true W r k h = h
told-empty false W r k h = ap (λ s. s && false) h

asked-empty : (t : Bool) (W : Term) (r k : Role) → empty W ≡ false → empty (led_in t W r k) ≡ false
asked-empty true W r k h = h
asked-empty false W r k h = refl

told-begins : (q : Role) (t : Bool) (W : Term) (r k : Role) → empty W ≡ false → begins q (told t W r k) ≡ begins q W
told-begins q true W r k h = refl
told-begins q false W r k h = cond-false (empty W) (begins q (message r k)) (begins q W) h

asked-attends : (q : Role) (t : Bool) (W : Term) (r k : Role) → empty W ≡ false → attends_ends q (led_in t W r k) ≡ attends_ends q W
asked-attends q true W r k h = refl
asked-attends q false W r k h = cond-false (empty W) (attends_ends q (message k r)) (attends_ends q W) h

told-attends : (t : Bool) (W : Term) (r k : Role) → (t ≡ true → attends_ends k W ≡ true) → attends_ends k (told t W r k) ≡ true
told-attends true W r k h = h refl
told-attends false W r k h = or_right (role_eq k r) (role_eq k k) (role_itself k)

asked-begins : (q : Role) (t : Bool) (W : Term) (r k : Role) → (t ≡ true → role_eq k r ≡ true) → (begins q W ≡ true → role_eq q r ≡ true)
    → begins q (led_in t W r k) ≡ true → q ≡ k
asked-begins q true W r k same one h = role_same q r (one h) ∙ sym (role_same k r (same refl))
asked-begins q false W r k same one h = role_same q k h

-- roles: those of the construct, and the one that is told or asks
told-roles : (q : Role) (t : Bool) (W : Term) (r k : Role) → (role_eq q r ≡ true → is_in q W ≡ true)
    → (role_eq q k || is_in q (told t W r k)) ≡ (role_eq q k || is_in q W)
told-roles q true W r k h = refl
told-roles q false W r k h = absorbed (role_eq q k) (is_in q W) (role_eq q r) h
  where
    absorbed : (c w s : Bool) → (s ≡ true → w ≡ true) → (c || (w || (s || c))) ≡ (c || w)
    absorbed true w s f = refl
    absorbed false true s f = refl
    absorbed false false true f = sym (f refl)
    absorbed false false false f = refl

asked-roles : (q : Role) (t : Bool) (W : Term) (r k : Role) → (role_eq q r ≡ true → is_in q W ≡ true)
    → (role_eq q k || is_in q (led_in t W r k)) ≡ (role_eq q k || is_in q W)
asked-roles q true W r k h = refl
asked-roles q false W r k h = absorbed (role_eq q k) (is_in q W) (role_eq q r) h
  where
    absorbed : (c w s : Bool) → (s ≡ true → w ≡ true) → (c || ((c || s) || w)) ≡ (c || w)
    absorbed true w s f = refl
    absorbed false w true f = sym (f refl)
    absorbed false w false f = refl

asked-keeps : (q : Role) (t : Bool) (W : Term) (r k : Role) → is_in q W ≡ true → is_in q (led_in t W r k) ≡ true
asked-keeps q true W r k h = h
asked-keeps q false W r k h = or_right (role_eq q k || role_eq q r) (is_in q W) h

-- Empty terms
empty-begins : (q : Role) (I : Term) → empty I ≡ true → begins q I ≡ false
empty-begins q Skip h = refl
empty-begins q (Seq I J) h =
    let parts = and_parts (empty I) (empty J) h in
    cond-true (empty I) (begins q J) (begins q I) parts.0 ∙ empty-begins q J parts.1
empty-begins q (Par I J) h =
    let parts = and_parts (empty I) (empty J) h in
    ap₂ (λ s t. s || t) (empty-begins q I parts.0) (empty-begins q J parts.1)
empty-begins q I h = cc

pub empty-attends : (q : Role) (I : Term) → empty I ≡ true → attends_ends q I ≡ true
empty-attends q Skip h = refl
empty-attends q (Seq I J) h =
    let parts = and_parts (empty I) (empty J) h in
    cond-true (empty J) (attends_ends q I) (attends_ends q J) parts.1 ∙ empty-attends q I parts.0
empty-attends q (Par I J) h =
    let parts = and_parts (empty I) (empty J) h in
    ap₂ (λ s t. s && t) (empty-attends q I parts.0) (empty-attends q J parts.1)
empty-attends q I h = cc

-- who begins a term is in it, and who is in each group that ends it, where there is one
begins-in : (q : Role) (I : Term) → begins q I ≡ true → is_in q I ≡ true
begins-in q Skip h = cc
begins-in q (Com i o a e b x) h = or_left (role_eq q a) (role_eq q b) h
begins-in q (Set i x r e) h = h
begins-in q (Input i x r) h = h
begins-in q (Seq I J) h = ⊎_elim
    (λ yes. or_right (is_in q I) (is_in q J) (begins-in q J (sym (cond-true (empty I) (begins q J) (begins q I) yes) ∙ h)))
    (λ no. or_left (is_in q I) (is_in q J) (begins-in q I (sym (cond-false (empty I) (begins q J) (begins q I) no) ∙ h)))
    (cases_Bool (empty I))
begins-in q (Par I J) h = ⊎_elim
    (λ s. or_left (is_in q I) (is_in q J) (begins-in q I s))
    (λ s. or_right (is_in q I) (is_in q J) (begins-in q J s))
    (or_cases (begins q I) (begins q J) h)
begins-in q (If i r g I J) h = or_left (role_eq q r || is_in q I) (is_in q J) (or_left (role_eq q r) (is_in q I) h)
begins-in q (While i r g I) h = or_left (role_eq q r) (is_in q I) h
begins-in q (Scope i r I extra props level) h = or_left (role_eq q r || is_in q I) (member q extra) (or_left (role_eq q r) (is_in q I) h)

attends-in : (q : Role) (I : Term) → attends_ends q I ≡ true → empty I ≡ false → is_in q I ≡ true
attends-in q Skip h full = cc
attends-in q (Com i o a e b x) h full = h
attends-in q (Set i x r e) h full = h
attends-in q (Input i x r) h full = h
attends-in q (Seq I J) h full = ⊎_elim
    (λ yes. or_left (is_in q I) (is_in q J)
    (attends-in q I (sym (cond-true (empty J) (attends_ends q I) (attends_ends q J) yes) ∙ h) (first_full (empty I) (empty J) full yes)))
    (λ no. or_right (is_in q I) (is_in q J) (attends-in q J (sym (cond-false (empty J) (attends_ends q I) (attends_ends q J) no) ∙ h) no))
    (cases_Bool (empty J))
  where
    first_full : (s t : Bool) → (s && t) ≡ false → t ≡ true → s ≡ false
    first_full true t e f = sym (sym e ∙ f)
    first_full false t e f = refl
attends-in q (Par I J) h full =
    let parts = and_parts (attends_ends q I) (attends_ends q J) h in
    ⊎_elim
    (λ first. or_left (is_in q I) (is_in q J) (attends-in q I parts.0 first))
    (λ second. or_right (is_in q I) (is_in q J) (attends-in q J parts.1 second))
    (and_cases (empty I) (empty J) full)
attends-in q (If i r g I J) h full =
    let part = (and_parts (if empty I then is_in q (If i r g I J) else attends_ends q I) _ h).0 in
    ⊎_elim
    (λ yes. sym (cond-true (empty I) (is_in q (If i r g I J)) (attends_ends q I) yes) ∙ part)
    (λ no. or_left (role_eq q r || is_in q I) (is_in q J)
    (or_right (role_eq q r) (is_in q I) (attends-in q I (sym (cond-false (empty I) (is_in q (If i r g I J)) (attends_ends q I) no) ∙ part) no)))
    (cases_Bool (empty I))
attends-in q (While i r g I) h full = h
attends-in q (Scope i r I extra props level) h full = h

-- a choice with two empty branches is ended by all its roles as one group
bare-choice : (q : Role) (i : Index) (I J : Term) (whole : Bool) → (empty I && empty J) ≡ true → whole ≡ true
    → ((if empty I then whole else attends_ends q I) && (if empty J then whole else attends_ends q J)) ≡ true
bare-choice q i I J whole none h =
    let parts = and_parts (empty I) (empty J) none in
    and_from _ _ (cond-true (empty I) whole (attends_ends q I) parts.0 ∙ h) (cond-true (empty J) whole (attends_ends q J) parts.1 ∙ h)

-- Closing
pub closed-empty : (k : Role) (I : Term) → empty (closed k I) ≡ empty I
closed-empty k Skip = refl
closed-empty k (Com i o a e b x) = told-empty (is_in k (Com i o a e b x)) (Com i o a e b x) b k refl
closed-empty k (Set i x r e) = told-empty (role_eq k r) (Set i x r e) r k refl
closed-empty k (Input i x r) = told-empty (role_eq k r) (Input i x r) r k refl
closed-empty k (Seq I J) = cond_both (empty J) (Seq (closed k I) J) (Seq I (closed k J)) (λ T. empty T ≡ (empty I && empty J))
    (λ yes. ap (λ s. s && empty J) (closed-empty k I)) (λ no. ap (λ s. empty I && s) (closed-empty k J))
closed-empty k (Par I J) = ap₂ (λ s t. s && t) (closed-empty k I) (closed-empty k J)
closed-empty k (If i r g I J) =
    cond_both (empty I && empty J) (told (is_in k (If i r g I J)) (If i r g I J) r k) (If i r g (closed k I) (closed k J)) (λ T. empty T ≡ false)
    (λ yes. told-empty (is_in k (If i r g I J)) (If i r g I J) r k refl) (λ no. refl)
closed-empty k (While i r g I) = told-empty (is_in k (While i r g I)) (While i r g I) r k refl
closed-empty k (Scope i r I extra props level) =
    told-empty (is_in k (Scope i r I extra props level)) (Scope i r I extra props level) r k refl

closed-begins : (q k : Role) (I : Term) → begins q (closed k I) ≡ begins q I
closed-begins q k Skip = refl
closed-begins q k (Com i o a e b x) = told-begins q (is_in k (Com i o a e b x)) (Com i o a e b x) b k refl
closed-begins q k (Set i x r e) = told-begins q (role_eq k r) (Set i x r e) r k refl
closed-begins q k (Input i x r) = told-begins q (role_eq k r) (Input i x r) r k refl
closed-begins q k (Seq I J) =
    cond_both (empty J) (Seq (closed k I) J) (Seq I (closed k J)) (λ T. begins q T ≡ (if empty I then begins q J else begins q I))
    (λ yes. ap₂ (λ s t. if s then begins q J else t) (closed-empty k I) (closed-begins q k I))
    (λ no. ap (λ t. if empty I then t else begins q I) (closed-begins q k J))
closed-begins q k (Par I J) = ap₂ (λ s t. s || t) (closed-begins q k I) (closed-begins q k J)
closed-begins q k (If i r g I J) =
    cond_both (empty I && empty J) (told (is_in k (If i r g I J)) (If i r g I J) r k) (If i r g (closed k I) (closed k J)) (λ T. begins q T ≡ role_eq q r)
    (λ yes. told-begins q (is_in k (If i r g I J)) (If i r g I J) r k refl) (λ no. refl)
closed-begins q k (While i r g I) = told-begins q (is_in k (While i r g I)) (While i r g I) r k refl
closed-begins q k (Scope i r I extra props level) =
    told-begins q (is_in k (Scope i r I extra props level)) (Scope i r I extra props level) r k refl

-- a branch that has become closed ends with the role, also where it is empty and the other isn't
branch-attends : (k : Role) (A : Term) (whole : Bool) → attends_ends k A ≡ true → (empty A ≡ true → whole ≡ true)
    → (if empty A then whole else attends_ends k A) ≡ true
branch-attends k A whole h f = cond_both (empty A) whole (attends_ends k A) (λ b. b ≡ true) f (λ no. h)

other_full : (s t : Bool) → (s && t) ≡ false → s ≡ true → t ≡ false
other_full true t h e = h
other_full false t h e = cc

first_full : (s t : Bool) → (s && t) ≡ false → t ≡ true → s ≡ false
first_full true t h e = sym e ∙ h
first_full false t h e = refl

choice-attends : (k : Role) (i : Index) (r : Role) (A B : Term) (whole : Bool) → (empty A && empty B) ≡ false → attends_ends k A ≡ true → attends_ends k B ≡ true
    → whole ≡ (role_eq k r || is_in k A || is_in k B)
    → ((if empty A then whole else attends_ends k A) && (if empty B then whole else attends_ends k B)) ≡ true
choice-attends k i r A B whole full h g is = and_from _ _
    (branch-attends k A whole h (λ none. is ∙ or_right (role_eq k r || is_in k A) (is_in k B) (attends-in k B g (other_full (empty A) (empty B) full none))))
    (branch-attends k B whole g (λ none. is
    ∙ or_left (role_eq k r || is_in k A) (is_in k B) (or_right (role_eq k r) (is_in k A) (attends-in k A h (first_full (empty A) (empty B) full none)))))

pub closed-attends : (k : Role) (I : Term) → attends_ends k (closed k I) ≡ true
closed-attends k Skip = refl
closed-attends k (Com i o a e b x) = told-attends (is_in k (Com i o a e b x)) (Com i o a e b x) b k (λ yes. yes)
closed-attends k (Set i x r e) = told-attends (role_eq k r) (Set i x r e) r k (λ yes. yes)
closed-attends k (Input i x r) = told-attends (role_eq k r) (Input i x r) r k (λ yes. yes)
closed-attends k (Seq I J) = cond_both (empty J) (Seq (closed k I) J) (Seq I (closed k J)) (λ T. attends_ends k T ≡ true)
    (λ yes. cond-true (empty J) (attends_ends k (closed k I)) (attends_ends k J) yes ∙ closed-attends k I)
    (λ no. cond-false (empty (closed k J)) (attends_ends k I) (attends_ends k (closed k J)) (closed-empty k J ∙ no) ∙ closed-attends k J)
closed-attends k (Par I J) = and_from _ _ (closed-attends k I) (closed-attends k J)
closed-attends k (If i r g I J) =
    cond_both (empty I && empty J) (told (is_in k (If i r g I J)) (If i r g I J) r k) (If i r g (closed k I) (closed k J)) (λ T. attends_ends k T ≡ true)
    (λ yes. told-attends (is_in k (If i r g I J)) (If i r g I J) r k (bare-choice k i I J (is_in k (If i r g I J)) yes))
    (λ no. choice-attends k i r (closed k I) (closed k J) (is_in k (If i r g (closed k I) (closed k J)))
    (ap₂ (λ s t. s && t) (closed-empty k I) (closed-empty k J) ∙ no) (closed-attends k I) (closed-attends k J) refl)
closed-attends k (While i r g I) = told-attends (is_in k (While i r g I)) (While i r g I) r k (λ yes. yes)
closed-attends k (Scope i r I extra props level) =
    told-attends (is_in k (Scope i r I extra props level)) (Scope i r I extra props level) r k (λ yes. yes)

-- roles of two parts, one beside the other, and of a choice
parts-roles : (c s t u v : Bool) → (c || s) ≡ (c || t) → (c || u) ≡ (c || v) → (c || (s || u)) ≡ (c || (t || v))
parts-roles true s t u v h g = refl
parts-roles false s t u v h g = ap₂ (λ x y. x || y) h g

choice-roles : (c r s t u v : Bool) → (c || s) ≡ (c || t) → (c || u) ≡ (c || v) → (c || (r || s || u)) ≡ (c || (r || t || v))
choice-roles true r s t u v h g = refl
choice-roles false r s t u v h g = ap₂ (λ x y. r || x || y) h g

closed-roles : (q k : Role) (I : Term) → (role_eq q k || is_in q (closed k I)) ≡ (role_eq q k || is_in q I)
closed-roles q k Skip = refl
closed-roles q k (Com i o a e b x) = told-roles q (is_in k (Com i o a e b x)) (Com i o a e b x) b k (or_right (role_eq q a) (role_eq q b))
closed-roles q k (Set i x r e) = told-roles q (role_eq k r) (Set i x r e) r k (λ s. s)
closed-roles q k (Input i x r) = told-roles q (role_eq k r) (Input i x r) r k (λ s. s)
closed-roles q k (Seq I J) =
    cond_both (empty J) (Seq (closed k I) J) (Seq I (closed k J)) (λ T. (role_eq q k || is_in q T) ≡ (role_eq q k || (is_in q I || is_in q J)))
    (λ yes. parts-roles (role_eq q k) (is_in q (closed k I)) (is_in q I) (is_in q J) (is_in q J) (closed-roles q k I) refl)
    (λ no. parts-roles (role_eq q k) (is_in q I) (is_in q I) (is_in q (closed k J)) (is_in q J) refl (closed-roles q k J))
closed-roles q k (Par I J) =
    parts-roles (role_eq q k) (is_in q (closed k I)) (is_in q I) (is_in q (closed k J)) (is_in q J) (closed-roles q k I) (closed-roles q k J)
closed-roles q k (If i r g I J) =
    cond_both (empty I && empty J) (told (is_in k (If i r g I J)) (If i r g I J) r k) (If i r g (closed k I) (closed k J))
    (λ T. (role_eq q k || is_in q T) ≡ (role_eq q k || is_in q (If i r g I J)))
    (λ yes. told-roles q (is_in k (If i r g I J)) (If i r g I J) r k (λ s. or_left (role_eq q r || is_in q I) (is_in q J) (or_left (role_eq q r) (is_in q I) s)))
    (λ no. choice-roles (role_eq q k) (role_eq q r) (is_in q (closed k I)) (is_in q I) (is_in q (closed k J)) (is_in q J) (closed-roles q k I) (closed-roles q k J))
closed-roles q k (While i r g I) = told-roles q (is_in k (While i r g I)) (While i r g I) r k (or_left (role_eq q r) (is_in q I))
closed-roles q k (Scope i r I extra props level) =
    told-roles q (is_in k (Scope i r I extra props level)) (Scope i r I extra props level) r k
    (λ s. or_left (role_eq q r || is_in q I) (member q extra) (or_left (role_eq q r) (is_in q I) s))

-- Opening
pub opened-empty : (k : Role) (I : Term) → empty (opened k I) ≡ empty I
opened-empty k Skip = refl
opened-empty k (Com i o a e b x) = asked-empty (role_eq k a) (Com i o a e b x) a k refl
opened-empty k (Set i x r e) = asked-empty (role_eq k r) (Set i x r e) r k refl
opened-empty k (Input i x r) = asked-empty (role_eq k r) (Input i x r) r k refl
opened-empty k (Seq I J) = cond_both (empty I) (Seq I (opened k J)) (Seq (opened k I) J) (λ T. empty T ≡ (empty I && empty J))
    (λ yes. ap (λ s. empty I && s) (opened-empty k J)) (λ no. ap (λ s. s && empty J) (opened-empty k I))
opened-empty k (Par I J) = ap₂ (λ s t. s && t) (opened-empty k I) (opened-empty k J)
opened-empty k (If i r g I J) = asked-empty (role_eq k r) (If i r g I J) r k refl
opened-empty k (While i r g I) = asked-empty (role_eq k r) (While i r g I) r k refl
opened-empty k (Scope i r I extra props level) = asked-empty (role_eq k r) (Scope i r I extra props level) r k refl

opened-attends : (q k : Role) (I : Term) → attends_ends q (opened k I) ≡ attends_ends q I
opened-attends q k Skip = refl
opened-attends q k (Com i o a e b x) = asked-attends q (role_eq k a) (Com i o a e b x) a k refl
opened-attends q k (Set i x r e) = asked-attends q (role_eq k r) (Set i x r e) r k refl
opened-attends q k (Input i x r) = asked-attends q (role_eq k r) (Input i x r) r k refl
opened-attends q k (Seq I J) =
    cond_both (empty I) (Seq I (opened k J)) (Seq (opened k I) J) (λ T. attends_ends q T ≡ (if empty J then attends_ends q I else attends_ends q J))
    (λ yes. ap₂ (λ s t. if s then attends_ends q I else t) (opened-empty k J) (opened-attends q k J))
    (λ no. ap (λ t. if empty J then t else attends_ends q J) (opened-attends q k I))
opened-attends q k (Par I J) = ap₂ (λ s t. s && t) (opened-attends q k I) (opened-attends q k J)
opened-attends q k (If i r g I J) = asked-attends q (role_eq k r) (If i r g I J) r k refl
opened-attends q k (While i r g I) = asked-attends q (role_eq k r) (While i r g I) r k refl
opened-attends q k (Scope i r I extra props level) = asked-attends q (role_eq k r) (Scope i r I extra props level) r k refl

pub opened-begins : (q k : Role) (I : Term) → begins q (opened k I) ≡ true → q ≡ k
opened-begins q k Skip h = cc
opened-begins q k (Com i o a e b x) h = asked-begins q (role_eq k a) (Com i o a e b x) a k (λ s. s) (λ s. s) h
opened-begins q k (Set i x r e) h = asked-begins q (role_eq k r) (Set i x r e) r k (λ s. s) (λ s. s) h
opened-begins q k (Input i x r) h = asked-begins q (role_eq k r) (Input i x r) r k (λ s. s) (λ s. s) h
opened-begins q k (Seq I J) h = cond_both (empty I) (Seq I (opened k J)) (Seq (opened k I) J) (λ T. begins q T ≡ true → q ≡ k)
    (λ yes g. opened-begins q k J (sym (cond-true (empty I) (begins q (opened k J)) (begins q I) yes) ∙ g))
    (λ no g. opened-begins q k I (sym (cond-false (empty (opened k I)) (begins q J) (begins q (opened k I)) (opened-empty k I ∙ no)) ∙ g)) h
opened-begins q k (Par I J) h =
    ⊎_elim (λ s. opened-begins q k I s) (λ s. opened-begins q k J s) (or_cases (begins q (opened k I)) (begins q (opened k J)) h)
opened-begins q k (If i r g I J) h = asked-begins q (role_eq k r) (If i r g I J) r k (λ s. s) (λ s. s) h
opened-begins q k (While i r g I) h = asked-begins q (role_eq k r) (While i r g I) r k (λ s. s) (λ s. s) h
opened-begins q k (Scope i r I extra props level) h = asked-begins q (role_eq k r) (Scope i r I extra props level) r k (λ s. s) (λ s. s) h

opened-roles : (q k : Role) (I : Term) → (role_eq q k || is_in q (opened k I)) ≡ (role_eq q k || is_in q I)
opened-roles q k Skip = refl
opened-roles q k (Com i o a e b x) = asked-roles q (role_eq k a) (Com i o a e b x) a k (or_left (role_eq q a) (role_eq q b))
opened-roles q k (Set i x r e) = asked-roles q (role_eq k r) (Set i x r e) r k (λ s. s)
opened-roles q k (Input i x r) = asked-roles q (role_eq k r) (Input i x r) r k (λ s. s)
opened-roles q k (Seq I J) =
    cond_both (empty I) (Seq I (opened k J)) (Seq (opened k I) J) (λ T. (role_eq q k || is_in q T) ≡ (role_eq q k || (is_in q I || is_in q J)))
    (λ yes. parts-roles (role_eq q k) (is_in q I) (is_in q I) (is_in q (opened k J)) (is_in q J) refl (opened-roles q k J))
    (λ no. parts-roles (role_eq q k) (is_in q (opened k I)) (is_in q I) (is_in q J) (is_in q J) (opened-roles q k I) refl)
opened-roles q k (Par I J) =
    parts-roles (role_eq q k) (is_in q (opened k I)) (is_in q I) (is_in q (opened k J)) (is_in q J) (opened-roles q k I) (opened-roles q k J)
opened-roles q k (If i r g I J) = asked-roles q (role_eq k r) (If i r g I J) r k
    (λ s. or_left (role_eq q r || is_in q I) (is_in q J) (or_left (role_eq q r) (is_in q I) s))
opened-roles q k (While i r g I) = asked-roles q (role_eq k r) (While i r g I) r k (or_left (role_eq q r) (is_in q I))
opened-roles q k (Scope i r I extra props level) = asked-roles q (role_eq k r) (Scope i r I extra props level) r k
    (λ s. or_left (role_eq q r || is_in q I) (member q extra) (or_left (role_eq q r) (is_in q I) s))

opened-keeps : (q k : Role) (I : Term) → is_in q I ≡ true → is_in q (opened k I) ≡ true
opened-keeps q k Skip h = h
opened-keeps q k (Com i o a e b x) h = asked-keeps q (role_eq k a) (Com i o a e b x) a k h
opened-keeps q k (Set i x r e) h = asked-keeps q (role_eq k r) (Set i x r e) r k h
opened-keeps q k (Input i x r) h = asked-keeps q (role_eq k r) (Input i x r) r k h
opened-keeps q k (Seq I J) h = cond_both (empty I) (Seq I (opened k J)) (Seq (opened k I) J) (λ T. is_in q T ≡ true)
    (λ yes. ⊎_elim (λ s. or_left (is_in q I) (is_in q (opened k J)) s) (λ s. or_right (is_in q I) (is_in q (opened k J)) (opened-keeps q k J s))
    (or_cases (is_in q I) (is_in q J) h))
    (λ no. ⊎_elim (λ s. or_left (is_in q (opened k I)) (is_in q J) (opened-keeps q k I s)) (λ s. or_right (is_in q (opened k I)) (is_in q J) s)
    (or_cases (is_in q I) (is_in q J) h))
opened-keeps q k (Par I J) h =
    ⊎_elim (λ s. or_left (is_in q (opened k I)) (is_in q (opened k J)) (opened-keeps q k I s))
    (λ s. or_right (is_in q (opened k I)) (is_in q (opened k J)) (opened-keeps q k J s))
    (or_cases (is_in q I) (is_in q J) h)
opened-keeps q k (If i r g I J) h = asked-keeps q (role_eq k r) (If i r g I J) r k h
opened-keeps q k (While i r g I) h = asked-keeps q (role_eq k r) (While i r g I) r k h
opened-keeps q k (Scope i r I extra props level) h = asked-keeps q (role_eq k r) (Scope i r I extra props level) r k h

-- Messages of a role to itself
none_of : {A : Type 0} (xs ys : List A) → (xs ++ ys) ≡ [] → (xs ≡ []) × (ys ≡ [])
none_of [] ys h = (refl, h)
none_of (x ∷ xs) ys h = cc

told-self : (t : Bool) (W : Term) (r k : Role) → self_messages W ≡ [] → (t ≡ false → role_eq r k ≡ false) → self_messages (told t W r k) ≡ []
told-self true W r k h f = h
told-self false W r k h f = ap₂ (λ s t. s ++ t) h (cond-false (role_eq r k) (index_at 0 ∷ []) [] (f refl))

asked-self : (t : Bool) (W : Term) (r k : Role) → self_messages W ≡ [] → (t ≡ false → role_eq k r ≡ false) → self_messages (led_in t W r k) ≡ []
asked-self true W r k h f = h
asked-self false W r k h f = ap₂ (λ s t. s ++ t) (cond-false (role_eq k r) (index_at 0 ∷ []) [] (f refl)) h

closed-self : (k : Role) (I : Term) → self_messages I ≡ [] → self_messages (closed k I) ≡ []
closed-self k Skip h = h
closed-self k (Com i o a e b x) h =
    told-self (is_in k (Com i o a e b x)) (Com i o a e b x) b k h (λ no. role_swap k b (or_parts (role_eq k a) (role_eq k b) no).1)
closed-self k (Set i x r e) h = told-self (role_eq k r) (Set i x r e) r k h (role_swap k r)
closed-self k (Input i x r) h = told-self (role_eq k r) (Input i x r) r k h (role_swap k r)
closed-self k (Seq I J) h =
    let parts = none_of (self_messages I) (self_messages J) h in
    cond_both (empty J) (Seq (closed k I) J) (Seq I (closed k J)) (λ T. self_messages T ≡ [])
    (λ yes. ap₂ (λ s t. s ++ t) (closed-self k I parts.0) parts.1) (λ no. ap₂ (λ s t. s ++ t) parts.0 (closed-self k J parts.1))
closed-self k (Par I J) h =
    let parts = none_of (self_messages I) (self_messages J) h in
    ap₂ (λ s t. s ++ t) (closed-self k I parts.0) (closed-self k J parts.1)
closed-self k (If i r g I J) h =
    let parts = none_of (self_messages I) (self_messages J) h in
    cond_both (empty I && empty J) (told (is_in k (If i r g I J)) (If i r g I J) r k) (If i r g (closed k I) (closed k J)) (λ T. self_messages T ≡ [])
    (λ yes. told-self (is_in k (If i r g I J)) (If i r g I J) r k h
    (λ no. role_swap k r (or_parts (role_eq k r) (is_in k I) (or_parts (role_eq k r || is_in k I) (is_in k J) no).0).0))
    (λ no. ap₂ (λ s t. s ++ t) (closed-self k I parts.0) (closed-self k J parts.1))
closed-self k (While i r g I) h =
    told-self (is_in k (While i r g I)) (While i r g I) r k h (λ no. role_swap k r (or_parts (role_eq k r) (is_in k I) no).0)
closed-self k (Scope i r I extra props level) h =
    told-self (is_in k (Scope i r I extra props level)) (Scope i r I extra props level) r k h
    (λ no. role_swap k r (or_parts (role_eq k r) (is_in k I) (or_parts (role_eq k r || is_in k I) (member k extra) no).0).0)

opened-self : (k : Role) (I : Term) → self_messages I ≡ [] → self_messages (opened k I) ≡ []
opened-self k Skip h = h
opened-self k (Com i o a e b x) h = asked-self (role_eq k a) (Com i o a e b x) a k h (λ no. no)
opened-self k (Set i x r e) h = asked-self (role_eq k r) (Set i x r e) r k h (λ no. no)
opened-self k (Input i x r) h = asked-self (role_eq k r) (Input i x r) r k h (λ no. no)
opened-self k (Seq I J) h =
    let parts = none_of (self_messages I) (self_messages J) h in
    cond_both (empty I) (Seq I (opened k J)) (Seq (opened k I) J) (λ T. self_messages T ≡ [])
    (λ yes. ap₂ (λ s t. s ++ t) parts.0 (opened-self k J parts.1)) (λ no. ap₂ (λ s t. s ++ t) (opened-self k I parts.0) parts.1)
opened-self k (Par I J) h =
    let parts = none_of (self_messages I) (self_messages J) h in
    ap₂ (λ s t. s ++ t) (opened-self k I parts.0) (opened-self k J parts.1)
opened-self k (If i r g I J) h = asked-self (role_eq k r) (If i r g I J) r k h (λ no. no)
opened-self k (While i r g I) h = asked-self (role_eq k r) (While i r g I) r k h (λ no. no)
opened-self k (Scope i r I extra props level) h = asked-self (role_eq k r) (Scope i r I extra props level) r k h (λ no. no)

-- The first role of the cast that begins a term
found : (p : Role → Bool) (xs : List Role) (m : Option Role) → find p xs ≡ m → (q : Role) → member q xs ≡ true → p q ≡ true
    → (k : Role) × (m ≡ Some k) × (p k ≡ true)
found p [] m is q there h = cc
found p (x ∷ xs) m is q there h = ⊎_elim
    (λ yes. (x, sym is ∙ cond-true (p x) (Some x) (find p xs) yes, yes))
    (λ no. ⊎_elim
    (λ same. absurd (both_ways (p x) no (subst (λ r. p r ≡ true) (role_same q x same) h)))
    (λ later. found p xs m (sym (cond-false (p x) (Some x) (find p xs) no) ∙ is) q later h)
    (or_cases (role_eq q x) (member q xs) there))
    (cases_Bool (p x))

passes : (p : Role → Bool) (xs : List Role) (k : Role) → find p xs ≡ Some k → p k ≡ true
passes p [] k h = cc
passes p (x ∷ xs) k h = ⊎_elim
    (λ yes. subst (λ r. p r ≡ true) (some_same (sym (cond-true (p x) (Some x) (find p xs) yes) ∙ h)) yes)
    (λ no. passes p xs k (sym (cond-false (p x) (Some x) (find p xs) no) ∙ h))
    (cases_Bool (p x))
  where
    some_same : {A : Type 0} {x y : A} → Some x ≡ Some y → x ≡ y
    some_same e = cc

-- Lists whose roles all pass
pub all-pass : (p : Role → Bool) (xs : List Role) → ((q : Role) → member q xs ≡ true → p q ≡ true) → list_all p xs ≡ true
all-pass p [] h = refl
all-pass p (x ∷ xs) h = and_from (p x) (list_all p xs) (h x (or_left (role_eq x x) (member x xs) (role_itself x)))
    (all-pass p xs (λ q s. h q (or_right (role_eq q x) (member q xs) s)))

pub each-passes : (p : Role → Bool) (xs : List Role) → list_all p xs ≡ true → (q : Role) → member q xs ≡ true → p q ≡ true
each-passes p [] h q s = cc
each-passes p (x ∷ xs) h q s =
    let parts = and_parts (p x) (list_all p xs) h in
    ⊎_elim (λ is. subst (λ r. p r ≡ true) (sym (role_same q x is)) parts.0) (λ later. each-passes p xs parts.1 q later) (or_cases (role_eq q x) (member q xs) s)

module _ (ends : RolesAtEnds) where
  -- Connectedness
  told-connected : (t : Bool) (W : Term) (r k : Role) → connected W ≡ true → attends_ends r W ≡ true → connected (told t W r k) ≡ true
  told-connected true W r k h at = h
  told-connected false W r k h at = and_from _ _
      (and_from _ _ (ends.linked W (message r k) (λ q b. subst (λ s. attends_ends s W ≡ true) (sym (role_same q r b)) at)) h) refl

  asked-connected : (t : Bool) (W : Term) (r k : Role) → connected W ≡ true → ((q : Role) → begins q W ≡ true → role_eq q r ≡ true) → connected (led_in t W r k) ≡ true
  asked-connected true W r k h one = h
  asked-connected false W r k h one = and_from _ _
      (and_from _ _ (ends.linked (message k r) W (λ q b. or_right (role_eq q k) (role_eq q r) (one q b))) refl) h

  closed-connected : (k : Role) (I : Term) → connected I ≡ true → connected (closed k I) ≡ true
  closed-connected k Skip h = h
  closed-connected k (Com i o a e b x) h = told-connected (is_in k (Com i o a e b x)) (Com i o a e b x) b k h (or_right (role_eq b a) (role_eq b b) (role_itself b))
  closed-connected k (Set i x r e) h = told-connected (role_eq k r) (Set i x r e) r k h (role_itself r)
  closed-connected k (Input i x r) h = told-connected (role_eq k r) (Input i x r) r k h (role_itself r)
  closed-connected k (Seq I J) h =
      let parts = and_parts (linked I J && connected I) (connected J) h in
      let first = and_parts (linked I J) (connected I) parts.0 in
      cond_both (empty J) (Seq (closed k I) J) (Seq I (closed k J)) (λ T. connected T ≡ true)
      (λ yes. and_from _ _ (and_from _ _
      (ends.linked (closed k I) J (λ q b. absurd (both_ways (begins q J) (empty-begins q J yes) b)))
      (closed-connected k I first.1)) parts.1)
      (λ no. and_from _ _ (and_from _ _
      (ends.linked I (closed k J) (λ q b. ends.links I J first.0 q (sym (closed-begins q k J) ∙ b)))
      first.1) (closed-connected k J parts.1))
  closed-connected k (Par I J) h =
      let parts = and_parts (connected I) (connected J) h in
      and_from _ _ (closed-connected k I parts.0) (closed-connected k J parts.1)
  closed-connected k (If i r g I J) h =
      let parts = and_parts (connected I) (connected J) h in
      cond_both (empty I && empty J) (told (is_in k (If i r g I J)) (If i r g I J) r k) (If i r g (closed k I) (closed k J)) (λ T. connected T ≡ true)
      (λ yes. told-connected (is_in k (If i r g I J)) (If i r g I J) r k h (bare-choice r i I J (is_in r (If i r g I J)) yes
      (or_left (role_eq r r || is_in r I) (is_in r J) (or_left (role_eq r r) (is_in r I) (role_itself r)))))
      (λ no. and_from _ _ (closed-connected k I parts.0) (closed-connected k J parts.1))
  closed-connected k (While i r g I) h = told-connected (is_in k (While i r g I)) (While i r g I) r k h (or_left (role_eq r r) (is_in r I) (role_itself r))
  closed-connected k (Scope i r I extra props level) h =
      told-connected (is_in k (Scope i r I extra props level)) (Scope i r I extra props level) r k h
      (or_left (role_eq r r || is_in r I) (member r extra) (or_left (role_eq r r) (is_in r I) (role_itself r)))

  opened-connected : (k : Role) (I : Term) → connected I ≡ true → connected (opened k I) ≡ true
  opened-connected k Skip h = h
  opened-connected k (Com i o a e b x) h = asked-connected (role_eq k a) (Com i o a e b x) a k h (λ q s. s)
  opened-connected k (Set i x r e) h = asked-connected (role_eq k r) (Set i x r e) r k h (λ q s. s)
  opened-connected k (Input i x r) h = asked-connected (role_eq k r) (Input i x r) r k h (λ q s. s)
  opened-connected k (Seq I J) h =
      let parts = and_parts (linked I J && connected I) (connected J) h in
      let first = and_parts (linked I J) (connected I) parts.0 in
      cond_both (empty I) (Seq I (opened k J)) (Seq (opened k I) J) (λ T. connected T ≡ true)
      (λ yes. and_from _ _ (and_from _ _ (ends.linked I (opened k J) (λ q b. empty-attends q I yes)) first.1) (opened-connected k J parts.1))
      (λ no. and_from _ _ (and_from _ _
      (ends.linked (opened k I) J (λ q b. opened-attends q k I ∙ ends.links I J first.0 q b))
      (opened-connected k I first.1)) parts.1)
  opened-connected k (Par I J) h =
      let parts = and_parts (connected I) (connected J) h in
      and_from _ _ (opened-connected k I parts.0) (opened-connected k J parts.1)
  opened-connected k (If i r g I J) h = asked-connected (role_eq k r) (If i r g I J) r k h (λ q s. s)
  opened-connected k (While i r g I) h = asked-connected (role_eq k r) (While i r g I) r k h (λ q s. s)
  opened-connected k (Scope i r I extra props level) h = asked-connected (role_eq k r) (Scope i r I extra props level) r k h (λ q s. s)

  -- Joining
  -- the first role of the cast that begins the second part is in it
  first-in : (cast : List Role) (J : Term) (k : Role) → first_starter cast J ≡ Some k → is_in k J ≡ true
  first-in cast J k is = begins-in k J (sym (ends.starter k J) ∙ passes (λ q. member q (starters J)) cast k is)

  through-connected : (cast : List Role) (I J : Term) (m : Option Role) → HasRoles cast J → connected I ≡ true → connected J ≡ true → linked I J ≡ false
      → first_starter cast J ≡ m → connected (through m I J) ≡ true
  through-connected cast I J None has h g gap is = absurd (both_ways (linked I J) gap (ends.linked I J (λ q b.
      none_some (found (λ r. member r (starters J)) cast None is q (has q (begins-in q J b)) (ends.starter q J ∙ b)).1)))
    where
      none_some : {A : Type 0} {B : Type 0} {x : A} → None ≡ Some x → B
      none_some e = cc
  through-connected cast I J (Some k) has h g gap is = and_from _ _ (and_from _ _
      (ends.linked (closed k I) (opened k J) (λ q b. subst (λ s. attends_ends s (closed k I) ≡ true) (sym (opened-begins q k J b)) (closed-attends k I)))
      (closed-connected k I h)) (opened-connected k J g)

  join-connected : (cast : List Role) (I J : Term) → HasRoles cast J → connected I ≡ true → connected J ≡ true → connected (join cast I J) ≡ true
  join-connected cast I J has h g = cond_both (linked I J) (Seq I J) (through (first_starter cast J) I J) (λ T. connected T ≡ true)
      (λ yes. and_from _ _ (and_from _ _ yes h) g)
      (λ no. through-connected cast I J (first_starter cast J) has h g no refl)

  through-roles : (cast : List Role) (I J : Term) (m : Option Role) (q : Role) → first_starter cast J ≡ m → is_in q (through m I J) ≡ (is_in q I || is_in q J)
  through-roles cast I J None q is = refl
  through-roles cast I J (Some k) q is =
      same (role_eq q k) (is_in q (closed k I)) (is_in q (opened k J)) (is_in q I) (is_in q J) (closed-roles q k I) (opened-roles q k J) (opened-keeps q k J)
      (λ s. subst (λ r. is_in r J ≡ true) (sym (role_same q k s)) (first-in cast J k is))
    where
      same : (c s t u v : Bool) → (c || s) ≡ (c || u) → (c || t) ≡ (c || v) → (v ≡ true → t ≡ true) → (c ≡ true → v ≡ true) → (s || t) ≡ (u || v)
      same true s t u v h g keeps has = or_right s t (keeps (has refl)) ∙ sym (or_right u v (has refl))
      same false s t u v h g keeps has = ap₂ (λ x y. x || y) h g

  join-roles : (cast : List Role) (I J : Term) (q : Role) → is_in q (join cast I J) ≡ (is_in q I || is_in q J)
  join-roles cast I J q = cond_both (linked I J) (Seq I J) (through (first_starter cast J) I J) (λ T. is_in q T ≡ (is_in q I || is_in q J))
      (λ yes. refl) (λ no. through-roles cast I J (first_starter cast J) q refl)

  pub joined-roles : (cast : List Role) (I : Term) (q : Role) → is_in q (relinked cast I) ≡ is_in q I
  joined-roles cast Skip q = refl
  joined-roles cast (Com i o a e b x) q = refl
  joined-roles cast (Set i x r e) q = refl
  joined-roles cast (Input i x r) q = refl
  joined-roles cast (Seq I J) q = join-roles cast (relinked cast I) (relinked cast J) q ∙ ap₂ (λ s t. s || t) (joined-roles cast I q) (joined-roles cast J q)
  joined-roles cast (Par I J) q = ap₂ (λ s t. s || t) (joined-roles cast I q) (joined-roles cast J q)
  joined-roles cast (If i r g I J) q = ap₂ (λ s t. role_eq q r || s || t) (joined-roles cast I q) (joined-roles cast J q)
  joined-roles cast (While i r g I) q = ap (λ s. role_eq q r || s) (joined-roles cast I q)
  joined-roles cast (Scope i r I extra props level) q = ap (λ s. role_eq q r || s || member q extra) (joined-roles cast I q)

  joined-connected : (cast : List Role) (I : Term) → HasRoles cast I → connected (relinked cast I) ≡ true
  joined-connected cast Skip has = refl
  joined-connected cast (Com i o a e b x) has = refl
  joined-connected cast (Set i x r e) has = refl
  joined-connected cast (Input i x r) has = refl
  joined-connected cast (Seq I J) has =
      let second = λ (q : Role) (s : is_in q J ≡ true). has q (or_right (is_in q I) (is_in q J) s) in
      join-connected cast (relinked cast I) (relinked cast J) (λ q s. second q (sym (joined-roles cast J q) ∙ s))
      (joined-connected cast I (λ q s. has q (or_left (is_in q I) (is_in q J) s))) (joined-connected cast J second)
  joined-connected cast (Par I J) has = and_from _ _
      (joined-connected cast I (λ q s. has q (or_left (is_in q I) (is_in q J) s)))
      (joined-connected cast J (λ q s. has q (or_right (is_in q I) (is_in q J) s)))
  joined-connected cast (If i r g I J) has = and_from _ _
      (joined-connected cast I (λ q s. has q (or_left (role_eq q r || is_in q I) (is_in q J) (or_right (role_eq q r) (is_in q I) s))))
      (joined-connected cast J (λ q s. has q (or_right (role_eq q r || is_in q I) (is_in q J) s)))
  joined-connected cast (While i r g I) has = joined-connected cast I (λ q s. has q (or_right (role_eq q r) (is_in q I) s))
  joined-connected cast (Scope i r I extra props level) has =
      joined-connected cast I (λ q s. has q (or_left (role_eq q r || is_in q I) (member q extra) (or_right (role_eq q r) (is_in q I) s)))

  through-self : (I J : Term) (m : Option Role) → self_messages I ≡ [] → self_messages J ≡ [] → self_messages (through m I J) ≡ []
  through-self I J None h g = ap₂ (λ s t. s ++ t) h g
  through-self I J (Some k) h g = ap₂ (λ s t. s ++ t) (closed-self k I h) (opened-self k J g)

  joined-self : (cast : List Role) (I : Term) → self_messages I ≡ [] → self_messages (relinked cast I) ≡ []
  joined-self cast Skip h = h
  joined-self cast (Com i o a e b x) h = h
  joined-self cast (Set i x r e) h = h
  joined-self cast (Input i x r) h = h
  joined-self cast (Seq I J) h =
      let parts = none_of (self_messages I) (self_messages J) h in
      cond_both (linked (relinked cast I) (relinked cast J)) (Seq (relinked cast I) (relinked cast J)) (through (first_starter cast (relinked cast J)) (relinked cast I) (relinked cast J))
      (λ T. self_messages T ≡ [])
      (λ yes. ap₂ (λ s t. s ++ t) (joined-self cast I parts.0) (joined-self cast J parts.1))
      (λ no. through-self (relinked cast I) (relinked cast J) (first_starter cast (relinked cast J)) (joined-self cast I parts.0) (joined-self cast J parts.1))
  joined-self cast (Par I J) h =
      let parts = none_of (self_messages I) (self_messages J) h in
      ap₂ (λ s t. s ++ t) (joined-self cast I parts.0) (joined-self cast J parts.1)
  joined-self cast (If i r g I J) h =
      let parts = none_of (self_messages I) (self_messages J) h in
      ap₂ (λ s t. s ++ t) (joined-self cast I parts.0) (joined-self cast J parts.1)
  joined-self cast (While i r g I) h = joined-self cast I h
  joined-self cast (Scope i r I extra props level) h = joined-self cast I h

  -- Numbers and marks change nothing of this
  pub erased-mended : (cast : List Role) (I : Term) → erased nameless (mended cast I) ≡ erased nameless (relinked cast I)
  erased-mended cast I = erased-indexed nameless 0 (with_numbers 0 (relinked cast I)) ∙ erased-numbered 0 (relinked cast I)

  pub mended-connected : MentionsAreRoles → MendedConnected
  mended-connected mentioned = record {
    links = λ cast I has. sym (connected-erased nameless (mended cast I)) ∙ ap connected (erased-mended cast I)
        ∙ connected-erased nameless (relinked cast I) ∙ joined-connected cast I has;
    same_roles = λ cast I q. sym (is_in-erased mentioned nameless q (mended cast I)) ∙ ap (is_in q) (erased-mended cast I)
        ∙ is_in-erased mentioned nameless q (relinked cast I) ∙ joined-roles cast I q;
    no_self_message = λ cast I h. none_faceless (self_messages (mended cast I)) (sym (self_messages-erased nameless (mended cast I))
        ∙ ap self_messages (erased-mended cast I) ∙ self_messages-erased nameless (relinked cast I) ∙ ap faceless (joined-self cast I h));
  }

  -- What closing and opening leave alone
  closed-stays : (k : Role) (I : Term) → attends_ends k I ≡ true → closed k I ≡ I
  closed-stays k Skip h = refl
  closed-stays k (Com i o a e b x) h = cond-true (is_in k (Com i o a e b x)) (Com i o a e b x) (Seq (Com i o a e b x) (message b k)) h
  closed-stays k (Set i x r e) h = cond-true (role_eq k r) (Set i x r e) (Seq (Set i x r e) (message r k)) h
  closed-stays k (Input i x r) h = cond-true (role_eq k r) (Input i x r) (Seq (Input i x r) (message r k)) h
  closed-stays k (Seq I J) h = cond_both (empty J) (Seq (closed k I) J) (Seq I (closed k J)) (λ T. T ≡ Seq I J)
      (λ yes. ap (λ s. Seq s J) (closed-stays k I (sym (cond-true (empty J) (attends_ends k I) (attends_ends k J) yes) ∙ h)))
      (λ no. ap (λ s. Seq I s) (closed-stays k J (sym (cond-false (empty J) (attends_ends k I) (attends_ends k J) no) ∙ h)))
  closed-stays k (Par I J) h =
      let parts = and_parts (attends_ends k I) (attends_ends k J) h in
      ap₂ (λ s t. Par s t) (closed-stays k I parts.0) (closed-stays k J parts.1)
  closed-stays k (If i r g I J) h =
      let parts = and_parts (if empty I then is_in k (If i r g I J) else attends_ends k I) (if empty J then is_in k (If i r g I J) else attends_ends k J) h in
      cond_both (empty I && empty J) (told (is_in k (If i r g I J)) (If i r g I J) r k) (If i r g (closed k I) (closed k J)) (λ T. T ≡ If i r g I J)
      (λ yes. cond-true (is_in k (If i r g I J)) (If i r g I J) (Seq (If i r g I J) (message r k)) (attends-in k (If i r g I J) h refl))
      (λ no. ap₂ (λ s t. If i r g s t) (closed-stays k I (branch-of k I (is_in k (If i r g I J)) parts.0)) (closed-stays k J (branch-of k J (is_in k (If i r g I J)) parts.1)))
    where
      branch-of : (q : Role) (A : Term) (whole : Bool) → (if empty A then whole else attends_ends q A) ≡ true → attends_ends q A ≡ true
      branch-of q A whole e = ⊎_elim (λ yes. empty-attends q A yes) (λ no. sym (cond-false (empty A) whole (attends_ends q A) no) ∙ e) (cases_Bool (empty A))
  closed-stays k (While i r g I) h = cond-true (is_in k (While i r g I)) (While i r g I) (Seq (While i r g I) (message r k)) h
  closed-stays k (Scope i r I extra props level) h =
      cond-true (is_in k (Scope i r I extra props level)) (Scope i r I extra props level) (Seq (Scope i r I extra props level) (message r k)) h

  opened-stays : (k : Role) (I : Term) → ((q : Role) → begins q I ≡ true → q ≡ k) → opened k I ≡ I
  opened-stays k Skip h = refl
  opened-stays k (Com i o a e b x) h = cond-true (role_eq k a) (Com i o a e b x) (Seq (message k a) (Com i o a e b x)) (only k a h)
    where
      only : (k r : Role) → ((q : Role) → role_eq q r ≡ true → q ≡ k) → role_eq k r ≡ true
      only k r f = subst (λ s. role_eq s r ≡ true) (f r (role_itself r)) (role_itself r)
  opened-stays k (Set i x r e) h = cond-true (role_eq k r) (Set i x r e) (Seq (message k r) (Set i x r e)) (subst (λ s. role_eq s r ≡ true) (h r (role_itself r)) (role_itself r))
  opened-stays k (Input i x r) h = cond-true (role_eq k r) (Input i x r) (Seq (message k r) (Input i x r)) (subst (λ s. role_eq s r ≡ true) (h r (role_itself r)) (role_itself r))
  opened-stays k (Seq I J) h = cond_both (empty I) (Seq I (opened k J)) (Seq (opened k I) J) (λ T. T ≡ Seq I J)
      (λ yes. ap (λ s. Seq I s) (opened-stays k J (λ q b. h q (cond-true (empty I) (begins q J) (begins q I) yes ∙ b))))
      (λ no. ap (λ s. Seq s J) (opened-stays k I (λ q b. h q (cond-false (empty I) (begins q J) (begins q I) no ∙ b))))
  opened-stays k (Par I J) h = ap₂ (λ s t. Par s t)
      (opened-stays k I (λ q b. h q (or_left (begins q I) (begins q J) b))) (opened-stays k J (λ q b. h q (or_right (begins q I) (begins q J) b)))
  opened-stays k (If i r g I J) h = cond-true (role_eq k r) (If i r g I J) (Seq (message k r) (If i r g I J)) (subst (λ s. role_eq s r ≡ true) (h r (role_itself r)) (role_itself r))
  opened-stays k (While i r g I) h = cond-true (role_eq k r) (While i r g I) (Seq (message k r) (While i r g I)) (subst (λ s. role_eq s r ≡ true) (h r (role_itself r)) (role_itself r))
  opened-stays k (Scope i r I extra props level) h =
      cond-true (role_eq k r) (Scope i r I extra props level) (Seq (message k r) (Scope i r I extra props level)) (subst (λ s. role_eq s r ≡ true) (h r (role_itself r)) (role_itself r))

  pub stays-as_it_is : StaysAsItIs
  stays-as_it_is = record {
    closing = λ k I. (
      λ same. ends.in_groups k I ∙ ap (attends_ends k) (sym same) ∙ closed-attends k I,
      λ h. closed-stays k I (sym (ends.in_groups k I) ∙ h),
    );
    opening = λ k I. (
      λ same. all-pass (role_eq k) (starters I) (λ q s.
          let b : begins q (opened k I) ≡ true = ap (begins q) same ∙ sym (ends.starter q I) ∙ s in
          ap (role_eq k) (opened-begins q k I b) ∙ role_itself k),
      λ h. opened-stays k I (λ q b. sym (role_same k q (each-passes (role_eq k) (starters I) h q (ends.starter q I ∙ b)))),
    );
  }
