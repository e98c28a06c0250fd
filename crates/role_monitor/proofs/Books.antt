-- No two rules of a book have one name. So the name of the rule that is chosen finds this rule.
use Rattle.std.proofs.Common.{◌≡◌, ◌⊎◌, ℕ, zero, suc, List, [], ◌∷◌, Bool, true, false, not, filter, if◌then◌else◌, Option, Some, None, slice_get, refl, sym, ap, ◌∙◌, subst, inl, inr, ⊎_elim}
use Rattle.std.specs.Prelude.{find}
use Rattle.std.specs.List.{list_any}
use Rattle.std.proofs.lemmas.Bool.{cases_Bool, cond-true, cond-false, both_ways, false_from_ne_true, or_left, or_right, or_parts, or_from}
use Rattle.dioc_terms.specs.declared.processes.ScopeHead.{ScopeHead}
use Rattle.dioc_terms.specs.declared.bundles.Change.{Change}
use Rattle.dioc_terms.specs.declared.bundles.Change.TheVariants as change
use Rattle.dioc_terms.specs.Equality.{name_eq}
use Rattle.dioc_terms.specs.EqualityLemmas.{name_eq-decides}
use Rattle.dioc_terms.specs.Plain.{PlainRule}
use Rattle.dioc_terms.specs.Rules.{Book, is_named, add_rule, added, apply, fits, no_lower, first_greatest, choose, opening_order}
use Rattle.dioc_terms.specs.Stores.{Store}
use Rattle.marked_laws.proofs.Shapes.{none_some, some_same}

-- the number is in the list
abbrev pub In : ℕ → List ℕ → Type 0
In m [] = ⊥
In m (n ∷ ns) = (n ≡ m) ⊎ In m ns

filter_in : (p : ℕ → Bool) (ms : List ℕ) (m : ℕ) → In m (filter p ms) → In m ms
filter_in p [] m among = among
filter_in p (k ∷ ms) m among = ⊎_elim
    (λ yes. ⊎_elim (λ here. inl here) (λ later. inr (filter_in p ms m later)) (subst (In m) (cond-true (p k) (k ∷ filter p ms) (filter p ms) yes) among))
    (λ no. inr (filter_in p ms m (subst (In m) (cond-false (p k) (k ∷ filter p ms) (filter p ms) no) among)))
    (cases_Bool (p k))

-- what no element of a list passes, no element of a part passes
filter_none : (p q : ℕ → Bool) (ms : List ℕ) → list_any q ms ≡ false → list_any q (filter p ms) ≡ false
filter_none p q [] none = refl
filter_none p q (k ∷ ms) none =
    let parts = or_parts (q k) (list_any q ms) none in
    let rest = filter_none p q ms parts.1 in
    ⊎_elim
    (λ yes. ap (list_any q) (cond-true (p k) (k ∷ filter p ms) (filter p ms) yes) ∙ or_from (q k) (list_any q (filter p ms)) parts.0 rest)
    (λ no. ap (list_any q) (cond-false (p k) (k ∷ filter p ms) (filter p ms) no) ∙ rest)
    (cases_Bool (p k))

module _ (rules : List PlainRule) where
  abbrev named_option : List ℕ → Option PlainRule → Bool
  named_option name None = false
  named_option name (Some rule) = name_eq rule.name name

  named_is : (name : List ℕ) (m : ℕ) → is_named rules name m ≡ named_option name (slice_get rules m)
  named_is name m = refl

  -- a rule has its own name, and no other one
  pub named_own : (m : ℕ) (rule : PlainRule) → slice_get rules m ≡ Some rule → is_named rules rule.name m ≡ true
  named_own m rule at = ap (named_option rule.name) at ∙ (name_eq-decides rule.name rule.name).1 refl

  named_same : (m : ℕ) (rule : PlainRule) (name : List ℕ) → slice_get rules m ≡ Some rule → is_named rules name m ≡ true → rule.name ≡ name
  named_same m rule name at named = (name_eq-decides rule.name name).0 (sym (ap (named_option name) at) ∙ named)

  -- no two rules of one name
  abbrev pub Apart : List ℕ → Type 0
  Apart [] = Unit {0}
  Apart (m ∷ ms) = ((name : List ℕ) → is_named rules name m ≡ true → list_any (is_named rules name) ms ≡ false) × Apart ms

  among_any : (name : List ℕ) (m : ℕ) (ns : List ℕ) → In m ns → is_named rules name m ≡ true → list_any (is_named rules name) ns ≡ true
  among_any name m [] among named = absurd among
  among_any name m (n ∷ ns) among named = ⊎_elim
      (λ here. or_left (is_named rules name n) (list_any (is_named rules name) ns) (subst (λ k. is_named rules name k ≡ true) (sym here) named))
      (λ later. or_right (is_named rules name n) (list_any (is_named rules name) ns) (among_any name m ns later named))
      among

  -- a name of a rule of the book finds this rule
  pub find_named : (name : List ℕ) (m : ℕ) (ns : List ℕ) → Apart ns → In m ns → is_named rules name m ≡ true → find (is_named rules name) ns ≡ Some m
  find_named name m [] apart among named = absurd among
  find_named name m (n ∷ ns) apart among named = ⊎_elim
      (λ here. cond-true (is_named rules name n) (Some n) (find (is_named rules name) ns) (subst (λ k. is_named rules name k ≡ true) (sym here) named) ∙ ap Some here)
      (λ later. cond-false (is_named rules name n) (Some n) (find (is_named rules name) ns)
      (false_from_ne_true (is_named rules name n) (λ yes. both_ways (list_any (is_named rules name) ns) (apart.0 name yes) (among_any name m ns later named)))
      ∙ find_named name m ns apart.1 later named)
      among

  abbrev better_of : ℕ → Option ℕ → Option ℕ
  better_of m None = Some m
  better_of m (Some n) = if no_lower rules m n then Some m else Some n

  better_in : (k : ℕ) (ms : List ℕ) (o : Option ℕ) (m : ℕ) → ((n : ℕ) → o ≡ Some n → In n ms) → better_of k o ≡ Some m → In m (k ∷ ms)
  better_in k ms None m rest h = inl (some_same h)
  better_in k ms (Some n) m rest h = ⊎_elim
      (λ yes. inl (some_same (sym (cond-true (no_lower rules k n) (Some k) (Some n) yes) ∙ h)))
      (λ no. inr (rest m (sym (cond-false (no_lower rules k n) (Some k) (Some n) no) ∙ h)))
      (cases_Bool (no_lower rules k n))

  greatest_in : (ms : List ℕ) (m : ℕ) → first_greatest rules ms ≡ Some m → In m ms
  greatest_in [] m h = absurd (none_some h)
  greatest_in (k ∷ ms) m h = better_in k ms (first_greatest rules ms) m (λ n is. greatest_in ms n is) h

  -- the name of the rule that is chosen finds this rule
  pub chosen_found : (book : Book) (head : ScopeHead) (s : Store) (m : ℕ) (rule : PlainRule) → Apart book.order → choose rules book head s ≡ Some m
      → slice_get rules m ≡ Some rule → find (is_named rules rule.name) book.order ≡ Some m
  chosen_found book head s m rule apart chosen at =
      find_named rule.name m book.order apart (filter_in (fits rules book head s) book.order m (greatest_in (filter (fits rules book head s) book.order) m chosen)) (named_own m rule at)

  add_none : (m : ℕ) (rule : PlainRule) (name : List ℕ) (ns : List ℕ) → is_named rules name m ≡ false → list_any (is_named rules name) ns ≡ false
      → list_any (is_named rules name) (add_rule rules m rule.name ns) ≡ false
  add_none m rule name [] other none = or_from (is_named rules name m) false other refl
  add_none m rule name (n ∷ ns) other none =
      let parts = or_parts (is_named rules name n) (list_any (is_named rules name) ns) none in
      ⊎_elim
      (λ yes. ap (list_any (is_named rules name)) (cond-true (is_named rules rule.name n) (m ∷ ns) (n ∷ add_rule rules m rule.name ns) yes)
      ∙ or_from (is_named rules name m) (list_any (is_named rules name) ns) other parts.1)
      (λ no. ap (list_any (is_named rules name)) (cond-false (is_named rules rule.name n) (m ∷ ns) (n ∷ add_rule rules m rule.name ns) no)
      ∙ or_from (is_named rules name n) (list_any (is_named rules name) (add_rule rules m rule.name ns)) parts.0 (add_none m rule name ns other parts.1))
      (cases_Bool (is_named rules rule.name n))

  add_apart : (m : ℕ) (rule : PlainRule) (ns : List ℕ) → slice_get rules m ≡ Some rule → Apart ns → Apart (add_rule rules m rule.name ns)
  add_apart m rule [] at apart = (λ name named. refl, tt)
  add_apart m rule (n ∷ ns) at apart = ⊎_elim
      (λ yes. subst Apart (sym (cond-true (is_named rules rule.name n) (m ∷ ns) (n ∷ add_rule rules m rule.name ns) yes))
      (λ name named. apart.0 name (subst (λ x. is_named rules x n ≡ true) (named_same m rule name at named) yes), apart.1))
      (λ no. subst Apart (sym (cond-false (is_named rules rule.name n) (m ∷ ns) (n ∷ add_rule rules m rule.name ns) no)) (
        λ name named. add_none m rule name ns
            (false_from_ne_true (is_named rules name m) (λ also. both_ways (is_named rules rule.name n) no (subst (λ x. is_named rules x n ≡ true) (sym (named_same m rule name at also)) named)))
            (apart.0 name named),
        add_apart m rule ns at apart.1,
      ))
      (cases_Bool (is_named rules rule.name n))

  abbrev added_option : ℕ → List ℕ → Option PlainRule → List ℕ
  added_option m order None = order
  added_option m order (Some rule) = add_rule rules m rule.name order

  added_apart_by : (m : ℕ) (order : List ℕ) (o : Option PlainRule) → slice_get rules m ≡ o → Apart order → Apart (added_option m order o)
  added_apart_by m order None at apart = apart
  added_apart_by m order (Some rule) at apart = add_apart m rule order at apart

  added_apart : (m : ℕ) (order : List ℕ) → Apart order → Apart (added rules m order)
  added_apart m order apart = added_apart_by m order (slice_get rules m) refl apart

  filter_apart : (p : ℕ → Bool) (ms : List ℕ) → Apart ms → Apart (filter p ms)
  filter_apart p [] apart = tt
  filter_apart p (k ∷ ms) apart = ⊎_elim
      (λ yes. subst Apart (sym (cond-true (p k) (k ∷ filter p ms) (filter p ms) yes)) (λ name named. filter_none p (is_named rules name) ms (apart.0 name named), filter_apart p ms apart.1))
      (λ no. subst Apart (sym (cond-false (p k) (k ∷ filter p ms) (filter p ms) no)) (filter_apart p ms apart.1))
      (cases_Bool (p k))

  -- a change keeps them apart, and at the start they are
  pub apply_apart : (book : Book) (c : Change) → Apart book.order → Apart (apply rules book c).order
  apply_apart book (change.Add m) apart = added_apart m book.order apart
  apply_apart book (change.Drop name) apart = filter_apart (λ m. not (is_named rules name m)) book.order apart
  apply_apart book (change.Env key v) apart = apart

  pub opening_apart : (n : ℕ) → Apart (opening_order rules n)
  opening_apart zero = tt
  opening_apart (suc n) = added_apart n (opening_order rules n) (opening_apart n)
