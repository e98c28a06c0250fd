-- Starters and groups of one role, gaps, and what stamping keeps of them.
use Rattle.std.proofs.Common.{◌≡◌, ℕ, List, [], ◌∷◌, ◌++◌, Bool, true, false, ◌&&◌, ◌||◌, not, if◌then◌else◌, Option, Some, None, refl, sym, ap, ap₂, ◌∙◌, subst, ⊎_elim}
use Rattle.std.specs.Prelude.{find}
use Rattle.std.specs.List.{list_all}
use Rattle.std.proofs.lemmas.Bool.{and_parts, and_from, or_left, or_right, or_cases, both_ways, cases_Bool, cond-true, cond-false, not_from_false}
use Rattle.std.proofs.lemmas.List.Folds.{list_any-append, list_all-append}
use Rattle.dioc_terms.specs.declared.names.Role.{Role}
use Rattle.dioc_terms.specs.declared.names.Index.{Index}
use Rattle.dioc_terms.specs.Equality.{role_eq, member}
use Rattle.dioc_terms.specs.EqualityLemmas.{equality-decides}
use Rattle.dioc_terms.specs.Terms.{Term, Skip, Com, Set, Input, Seq, Par, If, While, Scope, empty, mentions, is_in, stamped}
use Rattle.dioc_terms.specs.TermLaws.{MentionsAreRoles, StampedBodies}
use Rattle.connectedness.specs.ByCases.{begins, attends_ends}
use Rattle.connectedness.specs.Connected.{Gap, starters, groups, in_each_group, linked, connected, first_index, gap_at, earlier, first_gap}
use Rattle.connectedness.specs.Laws.{RolesAtEnds, HasRoles, GapsAreFound, StampedConnected}

role_same : (a b : Role) → role_eq a b ≡ true → a ≡ b
role_same a b h = (equality-decides.role a b).0 h

role_itself : (a : Role) → role_eq a a ≡ true
role_itself a = (equality-decides.role a a).1 refl

or_none : (b : Bool) → (b || false) ≡ b
or_none true = refl
or_none false = refl

and_true : (b : Bool) → (b && true) ≡ b
and_true true = refl
and_true false = refl

either_list : {A B : Type 0} (f : A → B) (t : Bool) (x y : A) → f (if t then x else y) ≡ (if t then f x else f y)
either_list f true x y = refl
either_list f false x y = refl

-- a list whose items don't all pass has one that fails
fails : (p : Role → Bool) (xs : List Role) → list_all p xs ≡ false → (q : Role) × (member q xs ≡ true) × (p q ≡ false)
fails p [] h = absurd (both_ways true h refl)
fails p (x ∷ xs) h = ⊎_elim
    (λ yes. let later = fails p xs (sym (ap (λ t. t && list_all p xs) yes) ∙ h) in
    (later.0, or_right (role_eq later.0 x) (member later.0 xs) later.1, later.2))
    (λ no. (x, or_left (role_eq x x) (member x xs) (role_itself x), no))
    (cases_Bool (p x))

passes : (p : Role → Bool) (xs : List Role) → list_all p xs ≡ true → (q : Role) → member q xs ≡ true → p q ≡ true
passes p [] h q k = absurd (both_ways false refl k)
passes p (x ∷ xs) h q k =
    let parts = and_parts (p x) (list_all p xs) h in
    ⊎_elim (λ is. subst (λ r. p r ≡ true) (sym (role_same q x is)) parts.0) (λ later. passes p xs parts.1 q later) (or_cases (role_eq q x) (member q xs) k)

all_pass : (p : Role → Bool) (xs : List Role) → ((q : Role) → member q xs ≡ true → p q ≡ true) → list_all p xs ≡ true
all_pass p [] h = refl
all_pass p (x ∷ xs) h = and_from (p x) (list_all p xs) (h x (or_left (role_eq x x) (member x xs) (role_itself x)))
    (all_pass p xs (λ q k. h q (or_right (role_eq q x) (member q xs) k)))

not_found : (p : Role → Bool) (xs : List Role) → ((q : Role) → p q ≡ false) → find p xs ≡ None
not_found p [] h = refl
not_found p (x ∷ xs) h = cond-false (p x) (Some x) (find p xs) (h x) ∙ not_found p xs h

is_found : (p : Role → Bool) (xs : List Role) (q : Role) → member q xs ≡ true → p q ≡ true → (r : Role) × (find p xs ≡ Some r)
is_found p [] q h k = absurd (both_ways false refl h)
is_found p (x ∷ xs) q h k = ⊎_elim
    (λ yes. (x, cond-true (p x) (Some x) (find p xs) yes))
    (λ no. ⊎_elim
    (λ is. absurd (both_ways (p x) no (subst (λ r. p r ≡ true) (role_same q x is) k)))
    (λ later. let found = is_found p xs q later k in (found.0, cond-false (p x) (Some x) (find p xs) no ∙ found.1))
    (or_cases (role_eq q x) (member q xs) h))
    (cases_Bool (p x))

starter_by_cases : (q : Role) (I : Term) → member q (starters I) ≡ begins q I
starter_by_cases q Skip = refl
starter_by_cases q (Com i o a e b x) = or_none (role_eq q a)
starter_by_cases q (Set i x r e) = or_none (role_eq q r)
starter_by_cases q (Input i x r) = or_none (role_eq q r)
starter_by_cases q (Seq I J) =
    either_list (member q) (empty I) (starters J) (starters I) ∙ ap₂ (λ s t. if empty I then s else t) (starter_by_cases q J) (starter_by_cases q I)
starter_by_cases q (Par I J) = list_any-append (role_eq q) (starters I) (starters J) ∙ ap₂ (λ s t. s || t) (starter_by_cases q I) (starter_by_cases q J)
starter_by_cases q (If i r g I J) = or_none (role_eq q r)
starter_by_cases q (While i r g I) = or_none (role_eq q r)
starter_by_cases q (Scope i r I extra props level) = or_none (role_eq q r)

module _ (mentioned : MentionsAreRoles) where
  -- a group that is all roles of a term
  whole_group : (q : Role) (I : Term) → list_all (member q) (mentions I ∷ []) ≡ is_in q I
  whole_group q I = and_true (member q (mentions I)) ∙ sym (mentioned q I)

  groups_by_cases : (q : Role) (I : Term) → in_each_group I q ≡ attends_ends q I
  groups_by_cases q Skip = refl
  groups_by_cases q (Com i o a e b x) = and_true _ ∙ ap (λ t. role_eq q a || t) (or_none (role_eq q b))
  groups_by_cases q (Set i x r e) = and_true _ ∙ or_none (role_eq q r)
  groups_by_cases q (Input i x r) = and_true _ ∙ or_none (role_eq q r)
  groups_by_cases q (Seq I J) =
      either_list (list_all (member q)) (empty J) (groups I) (groups J) ∙ ap₂ (λ s t. if empty J then s else t) (groups_by_cases q I) (groups_by_cases q J)
  groups_by_cases q (Par I J) = list_all-append (member q) (groups I) (groups J) ∙ ap₂ (λ s t. s && t) (groups_by_cases q I) (groups_by_cases q J)
  groups_by_cases q (If i r g I J) =
      list_all-append (member q) (if empty I then mentions (If i r g I J) ∷ [] else groups I) (if empty J then mentions (If i r g I J) ∷ [] else groups J)
      ∙ ap₂ (λ s t. s && t)
      (either_list (list_all (member q)) (empty I) (mentions (If i r g I J) ∷ []) (groups I)
      ∙ ap₂ (λ s t. if empty I then s else t) (whole_group q (If i r g I J)) (groups_by_cases q I))
      (either_list (list_all (member q)) (empty J) (mentions (If i r g I J) ∷ []) (groups J)
      ∙ ap₂ (λ s t. if empty J then s else t) (whole_group q (If i r g I J)) (groups_by_cases q J))
  groups_by_cases q (While i r g I) = whole_group q (While i r g I)
  groups_by_cases q (Scope i r I extra props level) = whole_group q (Scope i r I extra props level)

  pub roles-at_ends : RolesAtEnds
  roles-at_ends = record {
    starter = starter_by_cases;
    in_groups = groups_by_cases;
    links = λ I J h q k. sym (groups_by_cases q I) ∙ passes (in_each_group I) (starters J) h q (starter_by_cases q J ∙ k);
    linked = λ I J h. all_pass (in_each_group I) (starters J) (λ q k. groups_by_cases q I ∙ h q (sym (starter_by_cases q J) ∙ k));
  }

-- Gaps
-- an empty term is ended by no group and begun by nobody
empty_groups : (I : Term) → empty I ≡ true → groups I ≡ []
empty_groups Skip h = refl
empty_groups (Seq I J) h =
    let parts = and_parts (empty I) (empty J) h in
    cond-true (empty J) (groups I) (groups J) parts.1 ∙ empty_groups I parts.0
empty_groups (Par I J) h =
    let parts = and_parts (empty I) (empty J) h in
    ap₂ (λ s t. s ++ t) (empty_groups I parts.0) (empty_groups J parts.1)
empty_groups I h = cc

empty_starters : (I : Term) → empty I ≡ true → starters I ≡ []
empty_starters Skip h = refl
empty_starters (Seq I J) h =
    let parts = and_parts (empty I) (empty J) h in
    cond-true (empty I) (starters J) (starters I) parts.0 ∙ empty_starters J parts.1
empty_starters (Par I J) h =
    let parts = and_parts (empty I) (empty J) h in
    ap₂ (λ s t. s ++ t) (empty_starters I parts.0) (empty_starters J parts.1)
empty_starters I h = cc

-- the first index of two terms is the first one's, or the second one's where the first has none
seq_index : (I J : Term) (n : Option Index) → first_index I ≡ n → (n ≡ None → (j : Index) × (first_index J ≡ Some j))
    → (i : Index) × (first_index (Seq I J) ≡ Some i)
seq_index I J (Some i) e later = (i, rw e)
seq_index I J None e later = let found = later refl in (found.0, rw e found.1)

par_index : (I J : Term) (n : Option Index) → first_index I ≡ n → (n ≡ None → (j : Index) × (first_index J ≡ Some j))
    → (i : Index) × (first_index (Par I J) ≡ Some i)
par_index I J (Some i) e later = (i, rw e)
par_index I J None e later = let found = later refl in (found.0, rw e found.1)

some_none : {i : Index} → Some i ≡ None → ⊥
some_none h = cc

-- a term that isn't empty has a first index
pub has_index : (I : Term) → empty I ≡ false → (i : Index) × (first_index I ≡ Some i)
has_index Skip h = absurd (both_ways true h refl)
has_index (Com i o a e b x) h = (i, refl)
has_index (Set i x r e) h = (i, refl)
has_index (Input i x r) h = (i, refl)
has_index (Seq I J) h = seq_index I J (first_index I) refl (λ none. ⊎_elim
    (λ yes. has_index J (sym (ap (λ t. t && empty J) yes) ∙ h))
    (λ no. absurd (some_none (sym (has_index I no).1 ∙ none)))
    (cases_Bool (empty I)))
has_index (Par I J) h = par_index I J (first_index I) refl (λ none. ⊎_elim
    (λ yes. has_index J (sym (ap (λ t. t && empty J) yes) ∙ h))
    (λ no. absurd (some_none (sym (has_index I no).1 ∙ none)))
    (cases_Bool (empty I)))
has_index (If i r g I J) h = (i, refl)
has_index (While i r g I) h = (i, refl)
has_index (Scope i r I extra props level) h = (i, refl)

-- the roles of a gap
abbrev pub missing : Term → Term → Role → Bool
missing I J q = member q (starters J) && not (in_each_group I q)

pub no_gap_at : (cast : List Role) (I J : Term) (n m : Option Index) → first_index I ≡ n → first_index J ≡ m → find (missing I J) cast ≡ None
    → gap_at cast I J ≡ None
no_gap_at cast I J (Some i) (Some j) e f h = rw (e, f, h)
no_gap_at cast I J (Some i) None e f h = rw (e, f)
no_gap_at cast I J None m e f h = rw e

-- a linked sequence has no gap
linked_gap : (cast : List Role) (I J : Term) → linked I J ≡ true → gap_at cast I J ≡ None
linked_gap cast I J h = no_gap_at cast I J (first_index I) (first_index J) refl refl (not_found (missing I J) cast (λ q. ⊎_elim
    (λ yes. ap₂ (λ s t. s && not t) yes (passes (in_each_group I) (starters J) h q yes))
    (λ no. ap (λ s. s && not (in_each_group I q)) no)
    (cases_Bool (member q (starters J)))))

-- who begins a term is in it
starter_in : (q : Role) (I : Term) → begins q I ≡ true → is_in q I ≡ true
starter_in q Skip h = absurd (both_ways false refl h)
starter_in q (Com i o a e b x) h = or_left (role_eq q a) (role_eq q b) h
starter_in q (Set i x r e) h = h
starter_in q (Input i x r) h = h
starter_in q (Seq I J) h = ⊎_elim
    (λ yes. or_right (is_in q I) (is_in q J) (starter_in q J (sym (cond-true (empty I) (begins q J) (begins q I) yes) ∙ h)))
    (λ no. or_left (is_in q I) (is_in q J) (starter_in q I (sym (cond-false (empty I) (begins q J) (begins q I) no) ∙ h)))
    (cases_Bool (empty I))
starter_in q (Par I J) h = ⊎_elim
    (λ k. or_left (is_in q I) (is_in q J) (starter_in q I k))
    (λ k. or_right (is_in q I) (is_in q J) (starter_in q J k))
    (or_cases (begins q I) (begins q J) h)
starter_in q (If i r g I J) h = or_left (role_eq q r || is_in q I) (is_in q J) (or_left (role_eq q r) (is_in q I) h)
starter_in q (While i r g I) h = or_left (role_eq q r) (is_in q I) h
starter_in q (Scope i r I extra props level) h = or_left (role_eq q r || is_in q I) (member q extra) (or_left (role_eq q r) (is_in q I) h)

pub gap_some : (cast : List Role) (I J : Term) (i j : Index) (q : Role) → first_index I ≡ Some i → first_index J ≡ Some j → find (missing I J) cast ≡ Some q
    → gap_at cast I J ≡ Some (record { first = i; second = j; role = q })
gap_some cast I J i j q e f h = rw (e, f, h)

-- a sequence without a gap is linked
gap_linked : (cast : List Role) (I J : Term) → ((q : Role) → is_in q J ≡ true → member q cast ≡ true) → gap_at cast I J ≡ None → linked I J ≡ true
gap_linked cast I J has none = ⊎_elim (λ yes. yes)
    (λ no.
    let who = fails (in_each_group I) (starters J) no in
    let found = is_found (missing I J) cast who.0 (has who.0 (starter_in who.0 J (sym (starter_by_cases who.0 J) ∙ who.1)))
    (and_from (member who.0 (starters J)) (not (in_each_group I who.0)) who.1 (not_from_false (in_each_group I who.0) who.2)) in
    let first = has_index I (full I who.0 who.2) in
    let second = has_index J (begun J who.0 who.1) in
    absurd (no_gap (sym (gap_some cast I J first.0 second.0 found.0 first.1 second.1 found.1) ∙ none)))
    (cases_Bool (linked I J))
  where
    no_gap : {gap : Gap} → Some gap ≡ None → ⊥
    no_gap h = cc

    full : (I : Term) (q : Role) → in_each_group I q ≡ false → empty I ≡ false
    full I q h = ⊎_elim (λ yes. absurd (both_ways true (sym (ap (list_all (member q)) (empty_groups I yes)) ∙ h) refl)) (λ no. no) (cases_Bool (empty I))

    begun : (J : Term) (q : Role) → member q (starters J) ≡ true → empty J ≡ false
    begun J q h = ⊎_elim (λ yes. absurd (both_ways false refl (sym (ap (member q) (empty_starters J yes)) ∙ h))) (λ no. no) (cases_Bool (empty J))

earlier_none : (g h : Option Gap) → earlier g h ≡ None → (g ≡ None) × (h ≡ None)
earlier_none None h e = (refl, e)
earlier_none (Some gap) h e = cc

connected_gap : (cast : List Role) (I : Term) → connected I ≡ true → first_gap cast I ≡ None
connected_gap cast (Seq I J) h =
    let parts = and_parts (linked I J && connected I) (connected J) h in
    let first = and_parts (linked I J) (connected I) parts.0 in
    ap₂ earlier (linked_gap cast I J first.0) (ap₂ earlier (connected_gap cast I first.1) (connected_gap cast J parts.1))
connected_gap cast (Par I J) h =
    let parts = and_parts (connected I) (connected J) h in
    ap₂ earlier (connected_gap cast I parts.0) (connected_gap cast J parts.1)
connected_gap cast (If i r g I J) h =
    let parts = and_parts (connected I) (connected J) h in
    ap₂ earlier (connected_gap cast I parts.0) (connected_gap cast J parts.1)
connected_gap cast (While i r g I) h = connected_gap cast I h
connected_gap cast (Scope i r I extra props level) h = connected_gap cast I h
connected_gap cast Skip h = refl
connected_gap cast (Com i o a e b x) h = refl
connected_gap cast (Set i x r e) h = refl
connected_gap cast (Input i x r) h = refl

gap_connected : (cast : List Role) (I : Term) → HasRoles cast I → first_gap cast I ≡ None → connected I ≡ true
gap_connected cast (Seq I J) has h =
    let parts = earlier_none (gap_at cast I J) _ h in
    let rest = earlier_none (first_gap cast I) (first_gap cast J) parts.1 in
    let second = λ (q : Role) (k : is_in q J ≡ true). has q (or_right (is_in q I) (is_in q J) k) in
    and_from _ _ (and_from _ _ (gap_linked cast I J second parts.0) (gap_connected cast I (λ q k. has q (or_left (is_in q I) (is_in q J) k)) rest.0))
    (gap_connected cast J second rest.1)
gap_connected cast (Par I J) has h =
    let rest = earlier_none (first_gap cast I) (first_gap cast J) h in
    and_from _ _ (gap_connected cast I (λ q k. has q (or_left (is_in q I) (is_in q J) k)) rest.0)
    (gap_connected cast J (λ q k. has q (or_right (is_in q I) (is_in q J) k)) rest.1)
gap_connected cast (If i r g I J) has h =
    let rest = earlier_none (first_gap cast I) (first_gap cast J) h in
    and_from _ _ (gap_connected cast I (λ q k. has q (or_left (role_eq q r || is_in q I) (is_in q J) (or_right (role_eq q r) (is_in q I) k))) rest.0)
    (gap_connected cast J (λ q k. has q (or_right (role_eq q r || is_in q I) (is_in q J) k)) rest.1)
gap_connected cast (While i r g I) has h = gap_connected cast I (λ q k. has q (or_right (role_eq q r) (is_in q I) k)) h
gap_connected cast (Scope i r I extra props level) has h =
    gap_connected cast I (λ q k. has q (or_left (role_eq q r || is_in q I) (member q extra) (or_right (role_eq q r) (is_in q I) k))) h
gap_connected cast Skip has h = refl
gap_connected cast (Com i o a e b x) has h = refl
gap_connected cast (Set i x r e) has h = refl
gap_connected cast (Input i x r) has h = refl

pub gaps-are_found : GapsAreFound
gaps-are_found = record { none = connected_gap; found = gap_connected }

-- Stamped bodies
module _ (bodies : StampedBodies) where
  stamped_starters : (I : Term) (n level : ℕ) → starters (stamped I n level) ≡ starters I
  stamped_starters Skip n level = refl
  stamped_starters (Com i o a e b x) n level = refl
  stamped_starters (Set i x r e) n level = refl
  stamped_starters (Input i x r) n level = refl
  stamped_starters (Seq I J) n level = λ k. if bodies.emptiness I n level k then stamped_starters J n level k else stamped_starters I n level k
  stamped_starters (Par I J) n level = ap₂ (λ s t. s ++ t) (stamped_starters I n level) (stamped_starters J n level)
  stamped_starters (If i r g I J) n level = refl
  stamped_starters (While i r g I) n level = refl
  stamped_starters (Scope i r I extra props _) n level = refl

  stamped_groups : (I : Term) (n level : ℕ) → groups (stamped I n level) ≡ groups I
  stamped_groups Skip n level = refl
  stamped_groups (Com i o a e b x) n level = refl
  stamped_groups (Set i x r e) n level = refl
  stamped_groups (Input i x r) n level = refl
  stamped_groups (Seq I J) n level = λ k. if bodies.emptiness J n level k then stamped_groups I n level k else stamped_groups J n level k
  stamped_groups (Par I J) n level = ap₂ (λ s t. s ++ t) (stamped_groups I n level) (stamped_groups J n level)
  stamped_groups (If i r g I J) n level = λ k.
      (if bodies.emptiness I n level k then bodies.mentioned (If i r g I J) n level k ∷ [] else stamped_groups I n level k)
      ++ (if bodies.emptiness J n level k then bodies.mentioned (If i r g I J) n level k ∷ [] else stamped_groups J n level k)
  stamped_groups (While i r g I) n level = ap (λ rs. rs ∷ []) (bodies.mentioned (While i r g I) n level)
  stamped_groups (Scope i r I extra props l) n level = ap (λ rs. rs ∷ []) (bodies.mentioned (Scope i r I extra props l) n level)

  stamped_connected : (I : Term) (n level : ℕ) → connected (stamped I n level) ≡ connected I
  stamped_connected Skip n level = refl
  stamped_connected (Com i o a e b x) n level = refl
  stamped_connected (Set i x r e) n level = refl
  stamped_connected (Input i x r) n level = refl
  stamped_connected (Seq I J) n level = λ k.
      list_all (λ q. list_all (member q) (stamped_groups I n level k)) (stamped_starters J n level k) && stamped_connected I n level k && stamped_connected J n level k
  stamped_connected (Par I J) n level = ap₂ (λ s t. s && t) (stamped_connected I n level) (stamped_connected J n level)
  stamped_connected (If i r g I J) n level = ap₂ (λ s t. s && t) (stamped_connected I n level) (stamped_connected J n level)
  stamped_connected (While i r g I) n level = stamped_connected I n level
  stamped_connected (Scope i r I extra props _) n level = stamped_connected I n level

  pub stamped-connected : StampedConnected
  stamped-connected = record { same_starters = stamped_starters; same_groups = stamped_groups; as_connected = stamped_connected }
