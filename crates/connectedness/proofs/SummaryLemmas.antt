-- What the check keeps of a construct, from what it keeps of its parts.
use Rattle.std.proofs.Common.{◌≡◌, ℕ, suc, ◌+◌, ◌<◌, List, [], ◌∷◌, Bool, true, false, cond, ◌&&◌, ◌||◌, not, if◌then◌else◌, Option, Some, None, is_none, map, zip, position, find, length, slice_get, nat_lt, refl, sym, ap, ap₂, ◌∙◌, subst, ⊎_elim}
use Rattle.std.specs.Option.{option_or}
use Rattle.std.specs.List.{prefix_len, position_or_len}
use Rattle.std.proofs.lemmas.Bool.{and_parts, both_ways, cases_Bool, ltb-false, le-ltb}
use Rattle.std.proofs.lemmas.List.Folds.{find_at}
use Rattle.std.proofs.lemmas.Option.{cond_some, slice_get_within, slice_get_past, slice_get_cases}
use Rattle.dioc_terms.specs.declared.names.Role.{Role}
use Rattle.dioc_terms.specs.declared.names.Index.{Index}
use Rattle.dioc_terms.specs.declared.values.Value.{Value}
use Rattle.dioc_terms.specs.Equality.{role_eq, member}
use Rattle.dioc_terms.specs.Expressions.{Expression}
use Rattle.dioc_terms.specs.Terms.{Term, Skip, Com, Set, Seq, Par, If, While, Scope, empty, is_in}
use Rattle.connectedness.specs.ByCases.{begins, attends_ends}
use Rattle.connectedness.specs.Connected.{Gap, first_index, gap_at, earlier}
use Rattle.connectedness.specs.Laws.{RolesAtEnds}
use Rattle.connectedness.specs.Summaries.{presence_in, in_act, in_sequence, in_parallel, in_choice, in_block, IsGapOf, IsSummary}
use Rattle.connectedness.specs.declared.summaries.FoundGap.{FoundGap}
use Rattle.connectedness.specs.declared.summaries.Presence.{Presence}
use Rattle.connectedness.specs.declared.summaries.Summary.{Summary}
use Rattle.connectedness.proofs.Lemmas.{has_index, missing, gap_some, no_gap_at}

-- Lists
zip_maps : {A B C D : Type 0} (f : A → B) (g : A → C) (h : B × C → D) (k : A → D) → ((x : A) → h (f x, g x) ≡ k x) → (xs : List A) → map h (zip (map f xs) (map g xs)) ≡ map k xs
zip_maps f g h k e [] = refl
zip_maps f g h k e (x ∷ xs) = ap₂ (λ d ds. d ∷ ds) (e x) (zip_maps f g h k e xs)

zip_map : {A B D : Type 0} (g : A → B) (h : A × B → D) (k : A → D) → ((x : A) → h (x, g x) ≡ k x) → (xs : List A) → map h (zip xs (map g xs)) ≡ map k xs
zip_map g h k e [] = refl
zip_map g h k e (x ∷ xs) = ap₂ (λ d ds. d ∷ ds) (e x) (zip_map g h k e xs)

map_same : {A D : Type 0} (h k : A → D) → ((x : A) → h x ≡ k x) → (xs : List A) → map h xs ≡ map k xs
map_same h k e [] = refl
map_same h k e (x ∷ xs) = ap₂ (λ d ds. d ∷ ds) (e x) (map_same h k e xs)

find_same : {A : Type 0} (p r : A → Bool) → ((x : A) → p x ≡ r x) → (xs : List A) → find p xs ≡ find r xs
find_same p r e [] = refl
find_same p r e (x ∷ xs) = ap₂ (λ b o. cond b (Some x) o) (e x) (find_same p r e xs)

prefix_len-zip : {A B C : Type 0} (f : A → B) (g : A → C) (p : B × C → Bool) (xs : List A)
    → prefix_len p (zip (map f xs) (map g xs)) ≡ prefix_len (λ x. p (f x, g x)) xs
prefix_len-zip f g p [] = refl
prefix_len-zip f g p (x ∷ xs) = ap (λ n. cond (p (f x, g x)) (1 + n) 0) (prefix_len-zip f g p xs)

length-zip_maps : {A B C : Type 0} (f : A → B) (g : A → C) (xs : List A) → length (zip (map f xs) (map g xs)) ≡ length xs
length-zip_maps f g [] = refl
length-zip_maps f g (x ∷ xs) = ap (λ n. suc n) (length-zip_maps f g xs)

position-zip : {A B C : Type 0} (f : A → B) (g : A → C) (p : B × C → Bool) (xs : List A)
    → position p (zip (map f xs) (map g xs)) ≡ position (λ x. p (f x, g x)) xs
position-zip f g p xs = ap₂ (λ n l. cond (nat_lt n l) (Some n) None) (prefix_len-zip f g (λ y. not (p y)) xs) (length-zip_maps f g xs)

-- where there is no place, nothing is found
none_found : {A : Type 0} (p : A → Bool) (xs : List A) → position p xs ≡ None → find p xs ≡ None
none_found p xs h = find_at p xs ∙ slice_get_past xs (position_or_len p xs) (ltb-false (position_or_len p xs) (length xs) (by (nat_lt (position_or_len p xs) (length xs)) (position_or_len p xs) h))
  where
    by : (b : Bool) (n : ℕ) → cond b (Some n) None ≡ None → b ≡ false
    by true n k = cc
    by false n k = refl

-- what stands at the place is found
place_found : {A : Type 0} (p : A → Bool) (xs : List A) (k : ℕ) → position p xs ≡ Some k → (x : A) × (slice_get xs k ≡ Some x) × (find p xs ≡ Some x)
place_found p xs k h =
    let parts = cond_some (nat_lt (position_or_len p xs) (length xs)) (position_or_len p xs) k h in
    ⊎_elim
    (λ here. (here.0, subst (λ n. slice_get xs n ≡ Some here.0) parts.1 here.2, find_at p xs ∙ here.2))
    (λ past. absurd (both_ways (nat_lt (position_or_len p xs) (length xs)) (le-ltb (position_or_len p xs) (length xs) past.0) parts.0))
    (slice_get_cases xs (position_or_len p xs)).1

-- Empty terms
empty_index : (I : Term) → empty I ≡ true → first_index I ≡ None
empty_index Skip h = refl
empty_index (Seq I J) h = let parts = and_parts (empty I) (empty J) h in rw (empty_index I parts.0, empty_index J parts.1)
empty_index (Par I J) h = let parts = and_parts (empty I) (empty J) h in rw (empty_index I parts.0, empty_index J parts.1)
empty_index I h = cc

none_empty : (I : Term) → is_none (first_index I) ≡ empty I
none_empty I = ⊎_elim
    (λ yes. ap is_none (empty_index I yes) ∙ sym yes)
    (λ no. ap is_none (has_index I no).1 ∙ sym no)
    (cases_Bool (empty I))

-- no group ends an empty term, so each role is in each
empty_attends : (q : Role) (I : Term) → empty I ≡ true → attends_ends q I ≡ true
empty_attends q Skip h = refl
empty_attends q (Seq I J) h =
    let parts = and_parts (empty I) (empty J) h in
    ap (λ b. if b then attends_ends q I else attends_ends q J) parts.1 ∙ empty_attends q I parts.0
empty_attends q (Par I J) h =
    let parts = and_parts (empty I) (empty J) h in
    ap₂ (λ s t. s && t) (empty_attends q I parts.0) (empty_attends q J parts.1)
empty_attends q I h = cc

-- First indices
pub seq_first : (I J : Term) (n : Option Index) → first_index I ≡ n → option_or n (first_index J) ≡ first_index (Seq I J)
seq_first I J None e = rw e refl
seq_first I J (Some i) e = rw e refl

pub par_first : (I J : Term) (n : Option Index) → first_index I ≡ n → option_or n (first_index J) ≡ first_index (Par I J)
par_first I J None e = rw e refl
par_first I J (Some i) e = rw e refl

-- How a role takes part
or_false : (b : Bool) → (b || false) ≡ b
or_false true = refl
or_false false = refl

or_same : (b : Bool) → (b || b) ≡ b
or_same true = refl
or_same false = refl

or_assoc : (a b c : Bool) → (a || (b || c)) ≡ ((a || b) || c)
or_assoc true b c = refl
or_assoc false b c = refl

presence : {a b x y m n : Bool} → a ≡ b → x ≡ y → m ≡ n
    → ◌≡◌ {A = Presence} (record { starts = a; attends = x; named = m }) (record { starts = b; attends = y; named = n })
presence p q r = λ i. record { starts = p i; attends = q i; named = r i }

-- both branches, an empty one counting as the whole choice
branches : (no_left no_right left right all : Bool) → (no_left ≡ true → left ≡ true) → (no_right ≡ true → right ≡ true)
    → ((left && right) && (all || not (no_left || no_right))) ≡ ((if no_left then all else left) && (if no_right then all else right))
branches true s false t all h k = absurd (both_ways false refl (h refl))
branches s true t false all h k = absurd (both_ways false refl (k refl))
branches true true true true true h k = refl
branches true true true true false h k = refl
branches true false true true true h k = refl
branches true false true true false h k = refl
branches true false true false true h k = refl
branches true false true false false h k = refl
branches false true true true true h k = refl
branches false true true true false h k = refl
branches false true false true all h k = refl
branches false false true true true h k = refl
branches false false true true false h k = refl
branches false false true false all h k = refl
branches false false false t all h k = refl

choice_presence : (q : Role) (i : Index) (r : Role) (g : Expression) (I J : Term)
    → in_choice (empty I || empty J) (role_eq q r) (presence_in (Par I J) q) ≡ presence_in (If i r g I J) q
choice_presence q i r g I J =
    let all = or_assoc (role_eq q r) (is_in q I) (is_in q J) in
    presence refl
    (ap (λ n. (attends_ends q I && attends_ends q J) && (n || not (empty I || empty J))) all
    ∙ branches (empty I) (empty J) (attends_ends q I) (attends_ends q J) (is_in q (If i r g I J)) (empty_attends q I) (empty_attends q J))
    all

-- Roles of the constructs
pub com_roles : (cast : List Role) (i : Index) (o : List ℕ) (a : Role) (e : Expression) (b : Role) (x : List ℕ)
    → map (λ q. in_act (role_eq q a) (role_eq q b)) cast ≡ map (presence_in (Com i o a e b x)) cast
com_roles cast i o a e b x = refl

pub set_roles : (cast : List Role) (i : Index) (x : List ℕ) (r b : Role) (e : Expression) → r ≡ b
    → map (λ q. in_act (role_eq q r) (role_eq q b)) cast ≡ map (presence_in (Set i x r e)) cast
set_roles cast i x r b e same = ap (λ (b : Role). map (λ q. in_act (role_eq q r) (role_eq q b)) cast) (sym same)
    ∙ map_same (λ q. in_act (role_eq q r) (role_eq q r)) (presence_in (Set i x r e)) (λ q. presence refl (or_same (role_eq q r)) (or_same (role_eq q r))) cast

pub seq_roles : (cast : List Role) (I J : Term) (s t : Summary) → IsSummary cast I s → IsSummary cast J t
    → map (λ pair. in_sequence (is_none s.first) (is_none t.first) pair.0 pair.1) (zip s.roles.items t.roles.items) ≡ map (presence_in (Seq I J)) cast
seq_roles cast I J s t a b =
    (λ j. map (λ (pair : Presence × Presence). in_sequence (is_none (a.first j)) (is_none (b.first j)) pair.0 pair.1) (zip (a.roles j) (b.roles j)))
    ∙ zip_maps (presence_in I) (presence_in J) (λ (pair : Presence × Presence). in_sequence (is_none (first_index I)) (is_none (first_index J)) pair.0 pair.1) (presence_in (Seq I J))
    (λ q. ap₂ (λ m n. in_sequence m n (presence_in I q) (presence_in J q)) (none_empty I) (none_empty J)) cast

pub par_roles : (cast : List Role) (I J : Term) (s t : Summary) → IsSummary cast I s → IsSummary cast J t
    → map (λ pair. in_parallel pair.0 pair.1) (zip s.roles.items t.roles.items) ≡ map (presence_in (Par I J)) cast
par_roles cast I J s t a b =
    (λ j. map (λ (pair : Presence × Presence). in_parallel pair.0 pair.1) (zip (a.roles j) (b.roles j)))
    ∙ zip_maps (presence_in I) (presence_in J) (λ (pair : Presence × Presence). in_parallel pair.0 pair.1) (presence_in (Par I J)) (λ q. refl) cast

pub if_roles : (cast : List Role) (i : Index) (r : Role) (g : Expression) (I J : Term) (s t both : Summary) → IsSummary cast I s → IsSummary cast J t → IsSummary cast (Par I J) both
    → map (λ pair. in_choice (is_none s.first || is_none t.first) (role_eq pair.0 r) pair.1) (zip cast both.roles.items) ≡ map (presence_in (If i r g I J)) cast
if_roles cast i r g I J s t both a b c =
    (λ j. map (λ (pair : Role × Presence). in_choice (is_none (a.first j) || is_none (b.first j)) (role_eq pair.0 r) pair.1) (zip cast (c.roles j)))
    ∙ zip_map (presence_in (Par I J)) (λ (pair : Role × Presence). in_choice (is_none (first_index I) || is_none (first_index J)) (role_eq pair.0 r) pair.1) (presence_in (If i r g I J))
    (λ q. ap₂ (λ m n. in_choice (m || n) (role_eq q r) (presence_in (Par I J) q)) (none_empty I) (none_empty J) ∙ choice_presence q i r g I J) cast

pub scope_roles : (cast : List Role) (i : Index) (r : Role) (I : Term) (extra : List Role) (props : List (List ℕ × Value)) (level : ℕ) (s : Summary) → IsSummary cast I s
    → map (λ pair. in_block (role_eq pair.0 r) (member pair.0 extra) pair.1) (zip cast s.roles.items) ≡ map (presence_in (Scope i r I extra props level)) cast
scope_roles cast i r I extra props level s a =
    ap (λ (ps : List Presence). map (λ (pair : Role × Presence). in_block (role_eq pair.0 r) (member pair.0 extra) pair.1) (zip cast ps)) a.roles
    ∙ zip_map (presence_in I) (λ (pair : Role × Presence). in_block (role_eq pair.0 r) (member pair.0 extra) pair.1) (presence_in (Scope i r I extra props level)) (λ q. refl) cast

pub while_roles : (cast : List Role) (i : Index) (r : Role) (g : Expression) (I : Term) (extra : List Role) (s : Summary) → extra ≡ [] → IsSummary cast I s
    → map (λ pair. in_block (role_eq pair.0 r) (member pair.0 extra) pair.1) (zip cast s.roles.items) ≡ map (presence_in (While i r g I)) cast
while_roles cast i r g I extra s none a =
    (λ j. map (λ (pair : Role × Presence). in_block (role_eq pair.0 r) (member pair.0 (none j)) pair.1) (zip cast (a.roles j)))
    ∙ zip_map (presence_in I) (λ (pair : Role × Presence). in_block (role_eq pair.0 r) false pair.1) (presence_in (While i r g I))
    (λ q. presence refl (or_false (role_eq q r || is_in q I)) (or_false (role_eq q r || is_in q I))) cast

-- Gaps
-- the earlier one of two kept gaps
pub kept_or : (cast : List Role) (a b : Option FoundGap) (g h : Option Gap) → IsGapOf cast a g → IsGapOf cast b h → IsGapOf cast (option_or a b) (earlier g h)
kept_or cast None b None h k l = l
kept_or cast (Some a) b (Some g) h k l = k
kept_or cast None b (Some g) h k l = absurd k
kept_or cast (Some a) b None h k l = absurd k

pub kept_within : (cast : List Role) (found : FoundGap) (g : Option Gap) → IsGapOf cast (Some found) g → found.role < length cast
kept_within cast found None k = absurd k
kept_within cast found (Some gap) k = slice_get_within cast found.role gap.role k.2

module _ (laws : RolesAtEnds) where
  missing_by_cases : (q : Role) (I J : Term) → missing I J q ≡ (begins q J && not (attends_ends q I))
  missing_by_cases q I J = ap₂ (λ s t. s && not t) (laws.starter q J) (laws.in_groups q I)

  find_missing : (cast : List Role) (I J : Term) → find (missing I J) cast ≡ find (λ q. begins q J && not (attends_ends q I)) cast
  find_missing cast I J = find_same (missing I J) (λ q. begins q J && not (attends_ends q I)) (λ q. missing_by_cases q I J) cast

  place_of_missing : (cast : List Role) (I J : Term) (s t : Summary) → IsSummary cast I s → IsSummary cast J t
      → position (λ pair. pair.1.starts && not pair.0.attends) (zip s.roles.items t.roles.items) ≡ position (λ q. begins q J && not (attends_ends q I)) cast
  place_of_missing cast I J s t a b =
      (λ j. position (λ (pair : Presence × Presence). pair.1.starts && not pair.0.attends) (zip (a.roles j) (b.roles j)))
      ∙ position-zip (presence_in I) (presence_in J) (λ (pair : Presence × Presence). pair.1.starts && not pair.0.attends) cast

  -- nobody is missing
  pub none_missing : (cast : List Role) (I J : Term) (s t : Summary) → IsSummary cast I s → IsSummary cast J t
      → position (λ pair. pair.1.starts && not pair.0.attends) (zip s.roles.items t.roles.items) ≡ None → IsGapOf cast None (gap_at cast I J)
  none_missing cast I J s t a b h =
      let found = none_found (λ q. begins q J && not (attends_ends q I)) cast (sym (place_of_missing cast I J s t a b) ∙ h) in
      subst (IsGapOf cast None) (sym (no_gap_at cast I J (first_index I) (first_index J) refl refl (find_missing cast I J ∙ found))) tt

  -- the first one that is missing
  pub one_missing : (cast : List Role) (I J : Term) (s t : Summary) (i j : Index) (k : ℕ) → IsSummary cast I s → IsSummary cast J t → s.first ≡ Some i → t.first ≡ Some j
      → position (λ pair. pair.1.starts && not pair.0.attends) (zip s.roles.items t.roles.items) ≡ Some k
      → IsGapOf cast (Some (record { first = i; second = j; role = k })) (gap_at cast I J)
  one_missing cast I J s t i j k a b e f h =
      let found = place_found (λ q. begins q J && not (attends_ends q I)) cast k (sym (place_of_missing cast I J s t a b) ∙ h) in
      subst (IsGapOf cast (Some (record { first = i; second = j; role = k })))
      (sym (gap_some cast I J i j found.0 (sym a.first ∙ e) (sym b.first ∙ f) (find_missing cast I J ∙ found.2)))
      (refl, refl, found.1)
