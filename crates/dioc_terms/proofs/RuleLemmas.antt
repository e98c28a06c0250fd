-- What the book chooses, and what an add makes of its order, from left to right.
use Rattle.std.proofs.Common.{◌≡◌, ℕ, List, [], ◌∷◌, ◌++◌, ℤ, Bool, true, false, if◌then◌else◌, filter, Option, Some, None, is_some, slice_get, int_le, arith, refl, sym, ap, ◌∙◌, subst, ⊎_elim}
use Rattle.std.specs.List.{list_any, list_all}
use Rattle.std.proofs.lemmas.Bool.{both_ways, cases_Bool, cond-true, cond-false, or_parts, and_parts, and_from}
use borrow.Author.Differences.{le-true, le-false}
use Rattle.std.proofs.lemmas.Int.{ints}
use Rattle.std.proofs.lemmas.List.Elements.{filter-append}
use Rattle.dioc_terms.specs.declared.processes.ScopeHead.{ScopeHead}
use Rattle.dioc_terms.specs.Plain.{PlainRule}
use Rattle.dioc_terms.specs.RuleLaws.{greater_of, chosen_among, ChoicesGoOn, AddsGoOn}
use Rattle.dioc_terms.specs.Rules.{Book, is_named, add_rule, fits, no_lower, first_greatest, choose}
use Rattle.dioc_terms.specs.Stores.{Store}

le_chain : (a b c : ℤ) → int_le a b ≡ true → int_le b c ≡ true → int_le a c ≡ true
le_chain a b c h k = ⊎_elim (λ yes. yes)
    (λ no.
    let first = le-true a b h in
    let second = le-true b c k in
    let over = le-false a c no in
    absurd (omega (arith, ints)))
    (cases_Bool (int_le a c))

-- of three in falling order of tests the outer two are so too
le_break : (a b c : ℤ) → int_le a b ≡ false → int_le b c ≡ false → int_le a c ≡ false
le_break a b c h k = ⊎_elim
    (λ yes.
    let first = le-false a b h in
    let second = le-false b c k in
    let under = le-true a c yes in
    absurd (omega (arith, ints)))
    (λ no. no)
    (cases_Bool (int_le a c))

le_other : (a b : ℤ) → int_le a b ≡ false → int_le b a ≡ true
le_other a b h = ⊎_elim (λ yes. yes)
    (λ no.
    let first = le-false a b h in
    let second = le-false b a no in
    absurd (omega (arith, ints)))
    (cases_Bool (int_le b a))

le_itself : (a : ℤ) → int_le a a ≡ true
le_itself a = ⊎_elim (λ yes. yes)
    (λ no.
    let over = le-false a a no in
    absurd (omega (arith, ints)))
    (cases_Bool (int_le a a))

some_same : {A : Type 0} {x y : A} → Some x ≡ Some y → x ≡ y
some_same h = cc

none_some : {A : Type 0} {x : A} → None ≡ Some x → ⊥
none_some h = cc

-- one test of three priorities decides which of three is the best, whichever two are compared first
best_of_three : {A : Type 0} (ab bc ac : Bool) (a b c : A) → (ab ≡ true → bc ≡ true → ac ≡ true) → (ab ≡ false → bc ≡ false → ac ≡ false)
    → (if bc then (if ab then a else b) else (if ac then a else c)) ≡ (if ab then (if ac then a else c) else (if bc then b else c))
best_of_three true true ac a b c up down = sym (cond-true ac a c (up refl refl))
best_of_three true false ac a b c up down = refl
best_of_three false true ac a b c up down = refl
best_of_three false false ac a b c up down = cond-false ac a c (down refl refl)

module _ (rules : List PlainRule) where
  -- the best of one and what comes after
  abbrev ahead : ℕ → Option ℕ → Option ℕ
  ahead m None = Some m
  ahead m (Some n) = if no_lower rules m n then Some m else Some n

  greatest_ahead : (m : ℕ) (ms : List ℕ) → first_greatest rules (m ∷ ms) ≡ ahead m (first_greatest rules ms)
  greatest_ahead m ms = by_rest (first_greatest rules ms) refl
    where
      by_rest : (best : Option ℕ) → first_greatest rules ms ≡ best → first_greatest rules (m ∷ ms) ≡ ahead m best
      by_rest None e = rw e
      by_rest (Some n) e = rw e

  abbrev pub is_rule : ℕ → Bool
  is_rule m = is_some (slice_get rules m)

  there : (m : ℕ) → is_rule m ≡ true → (rule : PlainRule) × (slice_get rules m ≡ Some rule)
  there m h = known (slice_get rules m) h
    where
      known : (found : Option PlainRule) → is_some found ≡ true → (rule : PlainRule) × (found ≡ Some rule)
      known (Some rule) k = (rule, refl)
      known None k = cc

  compares : (m n : ℕ) (a b : PlainRule) → slice_get rules m ≡ Some a → slice_get rules n ≡ Some b → no_lower rules m n ≡ int_le b.priority a.priority
  compares m n a b e f = rw (e, f)

  -- comparisons of rules that are there go in chains, both ways, and are total
  chain : (m n k : ℕ) → is_rule m ≡ true → is_rule n ≡ true → is_rule k ≡ true → no_lower rules m n ≡ true → no_lower rules n k ≡ true
      → no_lower rules m k ≡ true
  chain m n k h i j up down =
      let a = there m h in
      let b = there n i in
      let c = there k j in
      compares m k a.0 c.0 a.1 c.1
      ∙ le_chain (c.0).priority (b.0).priority (a.0).priority (sym (compares n k b.0 c.0 b.1 c.1) ∙ down) (sym (compares m n a.0 b.0 a.1 b.1) ∙ up)

  break : (m n k : ℕ) → is_rule m ≡ true → is_rule n ≡ true → is_rule k ≡ true → no_lower rules m n ≡ false → no_lower rules n k ≡ false
      → no_lower rules m k ≡ false
  break m n k h i j up down =
      let a = there m h in
      let b = there n i in
      let c = there k j in
      compares m k a.0 c.0 a.1 c.1
      ∙ le_break (c.0).priority (b.0).priority (a.0).priority (sym (compares n k b.0 c.0 b.1 c.1) ∙ down) (sym (compares m n a.0 b.0 a.1 b.1) ∙ up)

  one_way : (m n : ℕ) → is_rule m ≡ true → is_rule n ≡ true → no_lower rules m n ≡ false → no_lower rules n m ≡ true
  one_way m n h i down =
      let a = there m h in
      let b = there n i in
      compares n m b.0 a.0 b.1 a.1 ∙ le_other (b.0).priority (a.0).priority (sym (compares m n a.0 b.0 a.1 b.1) ∙ down)

  itself : (m : ℕ) → is_rule m ≡ true → no_lower rules m m ≡ true
  itself m h = let a = there m h in compares m m a.0 a.0 a.1 a.1 ∙ le_itself (a.0).priority

  -- what holds of all rules of a list holds of the best of them
  pub best_passes : (p : ℕ → Bool) (ms : List ℕ) → list_all p ms ≡ true → (n : ℕ) → first_greatest rules ms ≡ Some n → p n ≡ true
  best_passes p [] all n h = absurd (none_some h)
  best_passes p (m ∷ ms) all n h =
      let parts = and_parts (p m) (list_all p ms) all in
      with_rest (first_greatest rules ms) refl parts.0 (λ k e. best_passes p ms parts.1 k e) (sym (greatest_ahead m ms) ∙ h)
    where
      with_rest : (best : Option ℕ) → first_greatest rules ms ≡ best → p m ≡ true → ((k : ℕ) → first_greatest rules ms ≡ Some k → p k ≡ true)
          → ahead m best ≡ Some n → p n ≡ true
      with_rest None e here later g = subst (λ k. p k ≡ true) (some_same g) here
      with_rest (Some k) e here later g = ⊎_elim
          (λ yes. subst (λ j. p j ≡ true) (some_same (sym (cond-true (no_lower rules m k) (Some m) (Some k) yes) ∙ g)) here)
          (λ no. subst (λ j. p j ≡ true) (some_same (sym (cond-false (no_lower rules m k) (Some m) (Some k) no) ∙ g)) (later k e))
          (cases_Bool (no_lower rules m k))

  ahead_if : (m n k : ℕ) (t : Bool) → ahead m (if t then Some n else Some k) ≡ (if t then ahead m (Some n) else ahead m (Some k))
  ahead_if m n k true = refl
  ahead_if m n k false = refl

  better_if : (m n k : ℕ) (t : Bool) → greater_of rules (if t then Some m else Some n) k ≡ (if t then greater_of rules (Some m) k else greater_of rules (Some n) k)
  better_if m n k true = refl
  better_if m n k false = refl

  -- the best of a list and one more, from left to right
  pub best_after : (ms : List ℕ) (m : ℕ) → list_all is_rule ms ≡ true → is_rule m ≡ true
      → first_greatest rules (ms ++ m ∷ []) ≡ greater_of rules (first_greatest rules ms) m
  best_after [] m all h = refl
  best_after (x ∷ ms) m all h =
      let parts = and_parts (is_rule x) (list_all is_rule ms) all in
      greatest_ahead x (ms ++ m ∷ []) ∙ ap (ahead x) (best_after ms m parts.1 h)
      ∙ with_rest (first_greatest rules ms) parts.0 (λ n e. best_passes is_rule ms parts.1 n e)
      ∙ ap (λ best. greater_of rules best m) (sym (greatest_ahead x ms))
    where
      with_rest : (best : Option ℕ) → is_rule x ≡ true → ((n : ℕ) → best ≡ Some n → is_rule n ≡ true) → ahead x (greater_of rules best m) ≡ greater_of rules (ahead x best) m
      with_rest None here later = refl
      with_rest (Some n) here later =
          ahead_if x n m (no_lower rules n m)
          ∙ best_of_three (no_lower rules x n) (no_lower rules n m) (no_lower rules x m) (Some x) (Some n) (Some m)
          (λ up down. chain x n m here (later n refl) h up down) (λ up down. break x n m here (later n refl) h up down)
          ∙ sym (better_if x n m (no_lower rules x n))

  all_through : (p r : ℕ → Bool) (js : List ℕ) → list_all is_rule js ≡ true → ((j : ℕ) → is_rule j ≡ true → p j ≡ true → r j ≡ true)
      → list_all p js ≡ true → list_all r js ≡ true
  all_through p r [] are f g = refl
  all_through p r (j ∷ js) are f g =
      let parts = and_parts (p j) (list_all p js) g in
      let known = and_parts (is_rule j) (list_all is_rule js) are in
      and_from (r j) (list_all r js) (f j known.0 parts.0) (all_through p r js known.1 f parts.1)

  none_best : (ms : List ℕ) → first_greatest rules ms ≡ None → ms ≡ []
  none_best [] h = refl
  none_best (m ∷ ms) h = absurd (with_rest (first_greatest rules ms) (sym (greatest_ahead m ms) ∙ h))
    where
      with_rest : (best : Option ℕ) → ahead m best ≡ None → ⊥
      with_rest None g = none_some (sym g)
      with_rest (Some k) g = ⊎_elim
          (λ yes. none_some (sym g ∙ cond-true (no_lower rules m k) (Some m) (Some k) yes))
          (λ no. none_some (sym g ∙ cond-false (no_lower rules m k) (Some m) (Some k) no))
          (cases_Bool (no_lower rules m k))

  -- the best has no lower priority than any
  pub best_of_all : (ms : List ℕ) → list_all is_rule ms ≡ true → (n : ℕ) → first_greatest rules ms ≡ Some n → list_all (no_lower rules n) ms ≡ true
  best_of_all [] all n h = refl
  best_of_all (m ∷ ms) all n h =
      let parts = and_parts (is_rule m) (list_all is_rule ms) all in
      with_rest (first_greatest rules ms) refl parts.0 parts.1 (λ k e. best_of_all ms parts.1 k e) (λ e. none_best ms e) (sym (greatest_ahead m ms) ∙ h)
    where
      with_rest : (best : Option ℕ) → first_greatest rules ms ≡ best → is_rule m ≡ true → list_all is_rule ms ≡ true
          → ((k : ℕ) → first_greatest rules ms ≡ Some k → list_all (no_lower rules k) ms ≡ true)
          → (first_greatest rules ms ≡ None → ms ≡ []) → ahead m best ≡ Some n → list_all (no_lower rules n) (m ∷ ms) ≡ true
      with_rest None e here rest later empty g =
          subst (λ k. list_all (no_lower rules k) (m ∷ ms) ≡ true) (some_same g)
          (and_from (no_lower rules m m) _ (itself m here) (ap (list_all (no_lower rules m)) (empty e)))
      with_rest (Some k) e here rest later empty g = ⊎_elim
          (λ yes. subst (λ j. list_all (no_lower rules j) (m ∷ ms) ≡ true) (some_same (sym (cond-true (no_lower rules m k) (Some m) (Some k) yes) ∙ g))
          (and_from (no_lower rules m m) _ (itself m here)
          (all_through (no_lower rules k) (no_lower rules m) ms rest
          (λ j there_j down. chain m k j here (best_passes is_rule ms rest k e) there_j yes down) (later k e))))
          (λ no. subst (λ j. list_all (no_lower rules j) (m ∷ ms) ≡ true) (some_same (sym (cond-false (no_lower rules m k) (Some m) (Some k) no) ∙ g))
          (and_from (no_lower rules k m) _ (one_way m k here (best_passes is_rule ms rest k e) no) (later k e)))
          (cases_Bool (no_lower rules m k))

  -- The choice of the book
  -- a rule that fits is there
  pub fits_there : (book : Book) (head : ScopeHead) (s : Store) (m : ℕ) → fits rules book head s m ≡ true → is_rule m ≡ true
  fits_there book head s m h = ⊎_elim (λ yes. yes)
      (λ no. absurd (both_ways (fits rules book head s m) (missing (slice_get rules m) refl no) h))
      (cases_Bool (is_rule m))
    where
      missing : (found : Option PlainRule) → slice_get rules m ≡ found → is_some found ≡ false → fits rules book head s m ≡ false
      missing None e k = rw e
      missing (Some rule) e k = cc

  all_kept : (p r : ℕ → Bool) (ms : List ℕ) → ((m : ℕ) → p m ≡ true → r m ≡ true) → list_all r (filter p ms) ≡ true
  all_kept p r [] f = refl
  all_kept p r (m ∷ ms) f = ⊎_elim
      (λ yes. ap (list_all r) (cond-true (p m) (m ∷ filter p ms) (filter p ms) yes) ∙ and_from (r m) _ (f m yes) (all_kept p r ms f))
      (λ no. ap (list_all r) (cond-false (p m) (m ∷ filter p ms) (filter p ms) no) ∙ all_kept p r ms f)
      (cases_Bool (p m))

  -- from left to right: one more rule counts where it fits, and is chosen where the best so far has a lower priority
  pub chosen_after : (book : Book) (head : ScopeHead) (s : Store) (ms : List ℕ) (m : ℕ)
      → chosen_among rules book head s (ms ++ m ∷ []) ≡ (if fits rules book head s m then greater_of rules (chosen_among rules book head s ms) m else chosen_among rules book head s ms)
  chosen_after book head s ms m =
      ap (first_greatest rules) (filter-append (fits rules book head s) ms (m ∷ []))
      ∙ ⊎_elim
      (λ yes. ap (λ l. first_greatest rules (filter (fits rules book head s) ms ++ l)) (cond-true (fits rules book head s m) (m ∷ []) [] yes)
      ∙ best_after (filter (fits rules book head s) ms) m (all_kept (fits rules book head s) is_rule ms (fits_there book head s)) (fits_there book head s m yes)
      ∙ sym (cond-true (fits rules book head s m) (greater_of rules (chosen_among rules book head s ms) m) (chosen_among rules book head s ms) yes))
      (λ no. ap (λ l. first_greatest rules (filter (fits rules book head s) ms ++ l)) (cond-false (fits rules book head s m) (m ∷ []) [] no)
      ∙ ap (first_greatest rules) (append_nil (filter (fits rules book head s) ms))
      ∙ sym (cond-false (fits rules book head s m) (greater_of rules (chosen_among rules book head s ms) m) (chosen_among rules book head s ms) no))
      (cases_Bool (fits rules book head s m))
    where
      append_nil : (l : List ℕ) → l ++ [] ≡ l
      append_nil [] = refl
      append_nil (x ∷ xs) = ap (λ l. x ∷ l) (append_nil xs)

  -- what is chosen fits
  pub chosen_fits : (book : Book) (head : ScopeHead) (s : Store) (n : ℕ) → choose rules book head s ≡ Some n → fits rules book head s n ≡ true
  chosen_fits book head s n h =
      best_passes (fits rules book head s) (filter (fits rules book head s) book.order)
      (all_kept (fits rules book head s) (fits rules book head s) book.order (λ m k. k)) n h

  -- The order of the book
  -- a rule whose name is absent goes last
  pub add_last : (m : ℕ) (name : List ℕ) (ns : List ℕ) → list_any (is_named rules name) ns ≡ false → add_rule rules m name ns ≡ ns ++ m ∷ []
  add_last m name [] h = refl
  add_last m name (n ∷ ns) h =
      let parts = or_parts (is_named rules name n) (list_any (is_named rules name) ns) h in
      cond-false (is_named rules name n) (m ∷ ns) (n ∷ add_rule rules m name ns) parts.0 ∙ ap (λ l. n ∷ l) (add_last m name ns parts.1)

  -- and one whose name is present replaces the first of that name at its place
  pub add_at : (m : ℕ) (name : List ℕ) (before : List ℕ) (n : ℕ) (later : List ℕ) → list_any (is_named rules name) before ≡ false
      → is_named rules name n ≡ true → add_rule rules m name (before ++ n ∷ later) ≡ before ++ m ∷ later
  add_at m name [] n later h named = cond-true (is_named rules name n) (m ∷ later) (n ∷ add_rule rules m name later) named
  add_at m name (k ∷ before) n later h named =
      let parts = or_parts (is_named rules name k) (list_any (is_named rules name) before) h in
      cond-false (is_named rules name k) (m ∷ (before ++ n ∷ later)) (k ∷ add_rule rules m name (before ++ n ∷ later)) parts.0
      ∙ ap (λ l. k ∷ l) (add_at m name before n later parts.1 named)

pub choices-go_on : ChoicesGoOn
choices-go_on = record {
  one_more = chosen_after;
  chosen_fits = chosen_fits;
  greatest = λ rules book head s n h.
      best_of_all rules (filter (fits rules book head s) book.order) (all_kept rules (fits rules book head s) (is_rule rules) book.order (fits_there rules book head s)) n h;
}

pub adds-go_on : AddsGoOn
adds-go_on = record { absent = add_last; present = add_at }
