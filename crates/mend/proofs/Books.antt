-- The book of the mended bundle and the input's: the same numbers in the same order, the same answers; and no two rules of a book have one name.
use Rattle.std.proofs.Common.{◌≡◌, ℕ, zero, suc, List, [], ◌∷◌, Bool, true, false, ◌&&◌, not, if◌then◌else◌, filter, map, Option, Some, None, refl, sym, ap, ap₂, ◌∙◌, subst, ⊎_elim}
use Rattle.std.specs.Prelude.{◌==◌, find, slice_get, option_map, nat_lt, unwrap_or}
use Rattle.std.specs.List.{list_all, list_any}
use Rattle.std.proofs.lemmas.Bool.{or_cases, or_left, or_right, or_parts, or_from, both_ways, cases_Bool, cond-true, cond-false, cond_both, eqb-true, eq-eqb}
use Rattle.std.proofs.lemmas.Option.{slice_get-map}
use Rattle.dioc_terms.specs.declared.names.Role.{Role}
use Rattle.dioc_terms.specs.declared.values.Value.{Value}
use Rattle.dioc_terms.specs.declared.values.Value.TheVariants.{Nil}
use Rattle.dioc_terms.specs.declared.processes.ScopeHead.{ScopeHead}
use Rattle.dioc_terms.specs.declared.bundles.Change.{Change}
use Rattle.dioc_terms.specs.declared.bundles.Change.TheVariants as change
use Rattle.dioc_terms.specs.declared.entries.Entry.{Entry}
use Rattle.dioc_terms.specs.Equality.{member}
use Rattle.dioc_terms.specs.EqualityLemmas.{equality-decides}
use Rattle.dioc_terms.specs.Expressions.{Expression, Const, Var, Prop, Env, Not, Neg, Bin}
use Rattle.limits.specs.Limits.{top_level}
use Rattle.dioc_terms.specs.Plain.{PlainRule}
use Rattle.dioc_terms.specs.Rules.{Book, is_named, add_rule, added, apply, fits, no_lower, first_greatest, choose, opening_order, opening_book}
use Rattle.dioc_terms.specs.Stores.{Store, variable}
use Rattle.dioc_terms.specs.TermLaws.{MentionsAreRoles}
use Rattle.dioc_terms.specs.Terms.{Term, is_in, mentions}
use Rattle.dioc_terms.specs.Values.{value_in, operate, negated, denied, is_true, bound, holds}
use Rattle.global_steps.specs.Follow.{shows}
use Rattle.mend.specs.Names.{begins_sq, variables_of, taken_variable}
use Rattle.mend.specs.Mended.{mended}
use Rattle.mend.specs.Traces.{IsMendableRule, mended_rule, body_named}
use Rattle.mend.proofs.Connecting.{all-pass, each-passes}
use Rattle.mend.proofs.Dropping.{find_parts, first_free}

some_same : {A : Type 0} {x y : A} → Some x ≡ Some y → x ≡ y
some_same h = cc

-- Values where the free variables agree
pub value_same : (v w properties environment : List ℕ → Value) (e : Expression) → ((x : List ℕ) → begins_sq x ≡ false → v x ≡ w x) → taken_variable e ≡ None
    → value_in v properties environment e ≡ value_in w properties environment e
value_same v w p n (Const k) h free = refl
value_same v w p n (Var x) h free = h x (first_free begins_sq x [] free)
value_same v w p n (Prop x) h free = refl
value_same v w p n (Env x) h free = refl
value_same v w p n (Not e) h free = ap denied (value_same v w p n e h free)
value_same v w p n (Neg e) h free = ap negated (value_same v w p n e h free)
value_same v w p n (Bin op a b) h free =
    let parts = find_parts begins_sq (variables_of a) (variables_of b) free in
    ap₂ (λ x y. operate op x y) (value_same v w p n a h parts.0) (value_same v w p n b h parts.1)

-- Lists with the same roles
pub all_same : (p r : Role → Bool) (xs ys : List Role) → ((q : Role) → p q ≡ r q) → ((q : Role) → member q xs ≡ member q ys) → list_all p xs ≡ list_all r ys
all_same p r xs ys alike same = both (list_all p xs) (list_all r ys)
    (λ h. all-pass r ys (λ q s. sym (alike q) ∙ each-passes p xs h q (same q ∙ s)))
    (λ h. all-pass p xs (λ q s. alike q ∙ each-passes r ys h q (sym (same q) ∙ s)))
  where
    both : (s t : Bool) → (s ≡ true → t ≡ true) → (t ≡ true → s ≡ true) → s ≡ t
    both true t f g = sym (f refl)
    both false true f g = g refl
    both false false f g = refl

any_filter : (p q : ℕ → Bool) (ms : List ℕ) → list_any p (filter q ms) ≡ true → list_any p ms ≡ true
any_filter p q [] h = h
any_filter p q (m ∷ ms) h = ⊎_elim
    (λ yes. ⊎_elim (λ here. or_left (p m) (list_any p ms) here) (λ later. or_right (p m) (list_any p ms) (any_filter p q ms later))
    (or_cases (p m) (list_any p (filter q ms)) (sym (ap (list_any p) (cond-true (q m) (m ∷ filter q ms) (filter q ms) yes)) ∙ h)))
    (λ no. or_right (p m) (list_any p ms) (any_filter p q ms (sym (ap (list_any p) (cond-false (q m) (m ∷ filter q ms) (filter q ms) no)) ∙ h)))
    (cases_Bool (q m))

none_filter : (p q : ℕ → Bool) (ms : List ℕ) → list_any p ms ≡ false → list_any p (filter q ms) ≡ false
none_filter p q ms h = ⊎_elim (λ yes. absurd (both_ways (list_any p ms) h (any_filter p q ms yes))) (λ no. no) (cases_Bool (list_any p (filter q ms)))

any_there : (p : ℕ → Bool) (n : ℕ) → p n ≡ true → (ms : List ℕ) → list_any (λ k. n == k) ms ≡ true → list_any p ms ≡ true
any_there p n h [] s = s
any_there p n h (m ∷ ms) s = ⊎_elim
    (λ here. or_left (p m) (list_any p ms) (subst (λ k. p k ≡ true) (eqb-true n m here) h))
    (λ later. or_right (p m) (list_any p ms) (any_there p n h ms later))
    (or_cases (n == m) (list_any (λ k. n == k) ms) s)

module _ (rules : List PlainRule) where
  -- No two rules of a book have one name
  abbrev pub Unique : List ℕ → Type 0
  Unique [] = Unit {0}
  Unique (m ∷ ms) = ((name : List ℕ) → is_named rules name m ≡ true → list_any (is_named rules name) ms ≡ false) × Unique ms

  pub unique_filter : (q : ℕ → Bool) (ms : List ℕ) → Unique ms → Unique (filter q ms)
  unique_filter q [] h = h
  unique_filter q (m ∷ ms) h = cond_both (q m) (m ∷ filter q ms) (filter q ms) Unique
      (λ yes. (λ name s. none_filter (is_named rules name) q ms (h.0 name s), unique_filter q ms h.1)) (λ no. unique_filter q ms h.1)

  one_name : (a b : List ℕ) (m : ℕ) → is_named rules a m ≡ true → is_named rules b m ≡ true → a ≡ b
  one_name a b m h k = by_rule (slice_get rules m) refl
    where
      by_rule : (found : Option PlainRule) → slice_get rules m ≡ found → a ≡ b
      by_rule None e = absurd (both_ways false refl (rw e at h))
      by_rule (Some rule) e = sym ((equality-decides.name rule.name a).0 (rw e at h)) ∙ (equality-decides.name rule.name b).0 (rw e at k)

  -- an added rule has its name alone
  none_added : (m : ℕ) (name other : List ℕ) (ns : List ℕ) → is_named rules other m ≡ false → list_any (is_named rules other) ns ≡ false
      → list_any (is_named rules other) (add_rule rules m name ns) ≡ false
  none_added m name other [] h k = or_from (is_named rules other m) false h refl
  none_added m name other (n ∷ ns) h k =
      let parts = or_parts (is_named rules other n) (list_any (is_named rules other) ns) k in
      cond_both (is_named rules name n) (m ∷ ns) (n ∷ add_rule rules m name ns) (λ l. list_any (is_named rules other) l ≡ false)
      (λ yes. or_from (is_named rules other m) (list_any (is_named rules other) ns) h parts.1)
      (λ no. or_from (is_named rules other n) (list_any (is_named rules other) (add_rule rules m name ns)) parts.0 (none_added m name other ns h parts.1))

  unique_add : (m : ℕ) (name : List ℕ) (ns : List ℕ) → is_named rules name m ≡ true → Unique ns → Unique (add_rule rules m name ns)
  unique_add m name [] own h = (λ other s. refl, tt)
  unique_add m name (n ∷ ns) own h = cond_both (is_named rules name n) (m ∷ ns) (n ∷ add_rule rules m name ns) Unique
      (λ yes. (λ other s. h.0 other (subst (λ a. is_named rules a n ≡ true) (one_name name other m own s) yes), h.1))
      (λ no. (
        λ other s. none_added m name other ns
            (⊎_elim (λ same. absurd (both_ways (is_named rules name n) no (subst (λ a. is_named rules a n ≡ true) (sym (one_name name other m own same)) s)))
            (λ different. different) (cases_Bool (is_named rules other m)))
            (h.0 other s),
        unique_add m name ns own h.1,
      ))

  unique_added : (m : ℕ) (ns : List ℕ) → Unique ns → Unique (added rules m ns)
  unique_added m ns h = by_rule (slice_get rules m) refl
    where
      by_rule : (found : Option PlainRule) → slice_get rules m ≡ found → Unique (added rules m ns)
      by_rule None e = rw e h
      by_rule (Some rule) e = rw e (unique_add m rule.name ns (rw e ((equality-decides.name rule.name rule.name).1 refl)) h)

  pub unique_opening : (n : ℕ) → Unique (opening_order rules n)
  unique_opening zero = tt
  unique_opening (suc n) = unique_added n (opening_order rules n) (unique_opening n)

  pub unique_apply : (book : Book) (c : Change) → Unique book.order → Unique (apply rules book c).order
  unique_apply book (change.Add m) h = unique_added m book.order h
  unique_apply book (change.Drop name) h = unique_filter (λ m. not (is_named rules name m)) book.order h
  unique_apply book (change.Env key v) h = h

  -- so the rule that the book chooses is found by its name
  find_named : (n : ℕ) (name : List ℕ) → is_named rules name n ≡ true → (ms : List ℕ) → list_any (λ k. n == k) ms ≡ true → Unique ms
      → find (is_named rules name) ms ≡ Some n
  find_named n name own [] there h = absurd (both_ways false refl there)
  find_named n name own (m ∷ ms) there h = ⊎_elim
      (λ here. let same : n ≡ m = eqb-true n m here in
      cond-true (is_named rules name m) (Some m) (find (is_named rules name) ms) (subst (λ k. is_named rules name k ≡ true) same own) ∙ ap Some (sym same))
      (λ later. cond-false (is_named rules name m) (Some m) (find (is_named rules name) ms)
      (⊎_elim (λ yes. absurd (both_ways (list_any (is_named rules name) ms) (h.0 name yes) (any_there (is_named rules name) n own ms later))) (λ no. no)
      (cases_Bool (is_named rules name m)))
      ∙ find_named n name own ms later h.1)
      (or_cases (n == m) (list_any (λ k. n == k) ms) there)

  best_there : (ms : List ℕ) (n : ℕ) → first_greatest rules ms ≡ Some n → list_any (λ k. n == k) ms ≡ true
  best_there [] n h = cc
  best_there (m ∷ ms) n h = by_rest (first_greatest rules ms) refl (λ k e. best_there ms k e)
    where
      by_rest : (best : Option ℕ) → first_greatest rules ms ≡ best → ((k : ℕ) → first_greatest rules ms ≡ Some k → list_any (λ j. k == j) ms ≡ true)
          → list_any (λ k. n == k) (m ∷ ms) ≡ true
      by_rest None e later = let same : Some m ≡ Some n = rw e at h in or_left (n == m) _ (eq-eqb n m (sym (some_same same)))
      by_rest (Some k) e later = let either : (if no_lower rules m k then Some m else Some k) ≡ Some n = rw e at h in ⊎_elim
          (λ yes. or_left (n == m) _ (eq-eqb n m (sym (some_same (sym (cond-true (no_lower rules m k) (Some m) (Some k) yes) ∙ either)))))
          (λ no. or_right (n == m) _ (later n (e ∙ sym (cond-false (no_lower rules m k) (Some m) (Some k) no) ∙ either)))
          (cases_Bool (no_lower rules m k))

  pub chosen_body : (book : Book) (head : ScopeHead) (s : Store) (n : ℕ) (rule : PlainRule) → Unique book.order → choose rules book head s ≡ Some n
      → slice_get rules n ≡ Some rule → body_named rules book rule.name ≡ rule.body
  chosen_body book head s n rule unique is there =
      let found : find (is_named rules rule.name) book.order ≡ Some n = find_named n rule.name (rw there ((equality-decides.name rule.name rule.name).1 refl)) book.order
      (any_filter (λ k. n == k) (fits rules book head s) book.order (best_there (filter (fits rules book head s) book.order) n is)) unique in
      rw (found, there) refl

-- The two books
module _ (cast : List Role) (rules : List PlainRule) where
  abbrev pub the_mended : List PlainRule
  the_mended = map (mended_rule cast) rules

  pub mended_at : (m : ℕ) → slice_get the_mended m ≡ option_map (mended_rule cast) (slice_get rules m)
  mended_at m = slice_get-map (mended_rule cast) rules m

  pub none_at : (m : ℕ) → slice_get rules m ≡ None → slice_get the_mended m ≡ None
  none_at m e = mended_at m ∙ ap (option_map (mended_rule cast)) e

  pub some_at : (m : ℕ) (rule : PlainRule) → slice_get rules m ≡ Some rule → slice_get the_mended m ≡ Some (mended_rule cast rule)
  some_at m rule e = mended_at m ∙ ap (option_map (mended_rule cast)) e

  same_named : (name : List ℕ) (m : ℕ) → is_named the_mended name m ≡ is_named rules name m
  same_named name m = by_rule (slice_get rules m) refl
    where
      by_rule : (found : Option PlainRule) → slice_get rules m ≡ found → is_named the_mended name m ≡ is_named rules name m
      by_rule None e = rw (none_at m e, e) refl
      by_rule (Some rule) e = rw (some_at m rule e, e) refl

  same_add : (m : ℕ) (name : List ℕ) (ns : List ℕ) → add_rule the_mended m name ns ≡ add_rule rules m name ns
  same_add m name [] = refl
  same_add m name (n ∷ ns) = ap₂ (λ t l. if t then m ∷ ns else n ∷ l) (same_named name n) (same_add m name ns)

  same_added : (m : ℕ) (ns : List ℕ) → added the_mended m ns ≡ added rules m ns
  same_added m ns = by_rule (slice_get rules m) refl
    where
      by_rule : (found : Option PlainRule) → slice_get rules m ≡ found → added the_mended m ns ≡ added rules m ns
      by_rule None e = rw (none_at m e, e) refl
      by_rule (Some rule) e = rw (some_at m rule e, e) (same_add m rule.name ns)

  same_order : (n : ℕ) → opening_order the_mended n ≡ opening_order rules n
  same_order zero = refl
  same_order (suc n) = ap (added the_mended n) (same_order n) ∙ same_added n (opening_order rules n)

  pub same_opening : (n : ℕ) (env : List (List ℕ × Value)) → opening_book the_mended n env ≡ opening_book rules n env
  same_opening n env = ap (λ order. record { order = order; environment = bound env }) (same_order n)

  pub same_apply : (book : Book) (c : Change) → apply the_mended book c ≡ apply rules book c
  same_apply book (change.Add m) = ap (λ order. record { order = order; environment = book.environment }) (same_added m book.order)
  same_apply book (change.Drop name) = λ i. record { order = filter (λ m. not (same_named name m i)) book.order; environment = book.environment }
  same_apply book (change.Env key v) = refl

  pub same_shows : (e : Entry) (c : Change) → shows the_mended e c ≡ shows rules e c
  same_shows e (change.Add m) = by_rule (slice_get rules m) refl
    where
      by_rule : (found : Option PlainRule) → slice_get rules m ≡ found → shows the_mended e (change.Add m) ≡ shows rules e (change.Add m)
      by_rule None h = rw (none_at m h, h) refl
      by_rule (Some rule) h = rw (some_at m rule h, h) refl
  same_shows e (change.Drop name) = refl
  same_shows e (change.Env key v) = refl

  same_lower : (m n : ℕ) → no_lower the_mended m n ≡ no_lower rules m n
  same_lower m n = by_rules (slice_get rules m) (slice_get rules n) refl refl
    where
      by_rules : (one other : Option PlainRule) → slice_get rules m ≡ one → slice_get rules n ≡ other → no_lower the_mended m n ≡ no_lower rules m n
      by_rules None other e h = rw (none_at m e, e) refl
      by_rules (Some a) None e h = rw (some_at m a e, e, none_at n h, h) refl
      by_rules (Some a) (Some b) e h = rw (some_at m a e, e, some_at n b h, h) refl

  same_greatest : (ms : List ℕ) → first_greatest the_mended ms ≡ first_greatest rules ms
  same_greatest [] = refl
  same_greatest (m ∷ ms) = by_rest (first_greatest rules ms) refl (same_greatest ms)
    where
      by_rest : (best : Option ℕ) → first_greatest rules ms ≡ best → first_greatest the_mended ms ≡ first_greatest rules ms
          → first_greatest the_mended (m ∷ ms) ≡ first_greatest rules (m ∷ ms)
      by_rest None e same = let other : first_greatest the_mended ms ≡ None = same ∙ e in rw (other, e) refl
      by_rest (Some n) e same = let other : first_greatest the_mended ms ≡ Some n = same ∙ e in
          rw (other, e) (ap (λ t. if t then Some m else Some n) (same_lower m n))

  -- what a leader shows each book, and its store on each side
  pub record Alike (head other : ScopeHead) (s t : Store) : Type 0 where
    pub roles : (q : Role) → member q head.roles ≡ member q other.roles
    pub props : head.props ≡ other.props
    pub level : head.level ≡ other.level
    pub variables : (x : List ℕ) → begins_sq x ≡ false → s.variables x ≡ t.variables x

  module _ (mentioned : MentionsAreRoles) (same_roles : (I : Term) (q : Role) → is_in q (mended cast I) ≡ is_in q I)
      (mendable : (m : ℕ) (rule : PlainRule) → slice_get rules m ≡ Some rule → IsMendableRule rule) where
    pub variable_same : (s t : Store) → ((x : List ℕ) → begins_sq x ≡ false → s.variables x ≡ t.variables x) → (x : List ℕ) → begins_sq x ≡ false
        → variable s x ≡ variable t x
    variable_same s t h x free = ap (λ v. unwrap_or v Nil) (h x free)

    same_fits : (book : Book) (head other : ScopeHead) (s t : Store) → Alike head other s t → (m : ℕ) → fits the_mended book head s m ≡ fits rules book other t m
    same_fits book head other s t alike m = by_rule (slice_get rules m) refl
      where
        by_rule : (found : Option PlainRule) → slice_get rules m ≡ found → fits the_mended book head s m ≡ fits rules book other t m
        by_rule None e = rw (none_at m e, e) refl
        by_rule (Some rule) e = rw (some_at m rule e, e)
            (ap₂ (λ a b. a && b)
            (ap₂ (λ a b. a && b)
            (ap (λ p. holds rule.cond s (bound p) book.environment) alike.props
            ∙ ap is_true (value_same (variable s) (variable t) (bound other.props) book.environment rule.cond (variable_same s t alike.variables) (mendable m rule e).condition))
            (all_same (λ q. member q head.roles) (λ q. member q other.roles) (mentions (mended cast rule.body)) (mentions rule.body) alike.roles
            (λ q. sym (mentioned q (mended cast rule.body)) ∙ same_roles rule.body q ∙ mentioned q rule.body)))
            (ap (λ l. nat_lt l top_level) alike.level))

    pub same_choice : (book : Book) (head other : ScopeHead) (s t : Store) → Alike head other s t → choose the_mended book head s ≡ choose rules book other t
    same_choice book head other s t alike =
        same_greatest (filter (fits the_mended book head s) book.order)
        ∙ ap (first_greatest rules) (λ i. filter (λ m. same_fits book head other s t alike m i) book.order)
