-- The names of the rules in a book go through a script as the book does.
use Rattle.std.proofs.Common.{◌≡◌, ◌∙◌, ℕ, zero, suc, List, [], ◌∷◌, ◌++◌, Bool, true, false, cond, not, ◌||◌, if◌then◌else◌, filter, map, Option, Some, None, slice_get, refl, sym, ap}
use Rattle.std.specs.Prelude.{max}
use Rattle.std.specs.List.{list_any, AllByRecursion}
use Rattle.std.specs.Set.{remove_key}
use Rattle.std.proofs.lemmas.List.{length-map}
use Rattle.indexmap.specs.IndexSet.{insert_key}
use Rattle.dioc_terms.specs.declared.bundles.Change.{Change}
use Rattle.dioc_terms.specs.declared.bundles.Change.TheVariants as change
use Rattle.dioc_terms.specs.declared.bundles.Timed.{Timed}
use Rattle.dioc_terms.specs.declared.values.Value.{Value}
use Rattle.dioc_terms.specs.Equality.{name_eq}
use Rattle.dioc_terms.specs.EqualityLemmas.{equivalence_from_Decides, name_eq-decides}
use Rattle.dioc_terms.specs.Plain.{PlainRule}
use Rattle.dioc_terms.specs.Rules.{Book, is_named, add_rule, added, apply, opening_order, opening_book}
use Rattle.rule_checks.specs.Alive.{added_name, changed_names, first_names, most_names}
use Rattle.rule_checks.specs.Refusals.{most_alive}

name_eq-symm : (a b : List ℕ) → name_eq a b ≡ name_eq b a
name_eq-symm = (equivalence_from_Decides name_eq name_eq-decides).symm

-- without its first key that passes, a list that then has none that passes is without all of them
filter-none : (test : List ℕ → Bool) (ks : List (List ℕ)) → list_any test ks ≡ false → filter (λ k. not (test k)) ks ≡ ks
filter-none test [] h = refl
filter-none test (k ∷ ks) h = by (test k) refl h (filter-none test ks)
  where
    by : (b : Bool) → test k ≡ b → (b || list_any test ks) ≡ false → (list_any test ks ≡ false → filter (λ k. not (test k)) ks ≡ ks)
        → cond (not b) (k ∷ filter (λ k. not (test k)) ks) (filter (λ k. not (test k)) ks) ≡ k ∷ ks
    by true e h below = cc
    by false e h below = ap (λ (l : List (List ℕ)). k ∷ l) (below h)

pub remove_key-filter : (test : List ℕ → Bool) (ks : List (List ℕ)) → list_any test (remove_key test ks) ≡ false
    → remove_key test ks ≡ filter (λ k. not (test k)) ks
remove_key-filter test [] h = refl
remove_key-filter test (k ∷ ks) h = by (test k) refl h (remove_key-filter test ks)
  where
    by : (b : Bool) → test k ≡ b → list_any test (cond b ks (k ∷ remove_key test ks)) ≡ false
        → (list_any test (remove_key test ks) ≡ false → remove_key test ks ≡ filter (λ k. not (test k)) ks)
        → cond b ks (k ∷ remove_key test ks) ≡ cond (not b) (k ∷ filter (λ k. not (test k)) ks) (filter (λ k. not (test k)) ks)
    by true e h below = sym (filter-none test ks h)
    by false e h below = ap (λ (l : List (List ℕ)). k ∷ l) (below (sym (ap (λ (t : Bool). t || list_any test (remove_key test ks)) e) ∙ h))

module _ (rules : List PlainRule) where
  record IsRule (m : ℕ) : Type 0 where
    pub rule : PlainRule
    pub at : slice_get rules m ≡ Some rule

  abbrev AreRules : List ℕ → Type 0
  AreRules order = AllByRecursion IsRule order

  abbrev name_of : Option PlainRule → List ℕ
  name_of None = []
  name_of (Some rule) = rule.name

  abbrev names_of : List ℕ → List (List ℕ)
  names_of order = map (λ m. name_of (slice_get rules m)) order

  named_as : (name : List ℕ) (m : ℕ) → IsRule m → is_named rules name m ≡ name_eq name (name_of (slice_get rules m))
  named_as name m is = by_rule is.at
    where
      by_rule : slice_get rules m ≡ Some is.rule → is_named rules name m ≡ name_eq name (name_of (slice_get rules m))
      by_rule at = rw at (name_eq-symm (is.rule).name name)

  -- An add
  add_step : (m n : ℕ) (ns more : List ℕ) (name : List ℕ) (a b c : Bool) → a ≡ b
      → (b ≡ true → name_of (slice_get rules m) ≡ name_of (slice_get rules n))
      → names_of more ≡ (if c then names_of ns else names_of ns ++ name ∷ [])
      → names_of (if a then m ∷ ns else n ∷ more)
      ≡ (if b || c then name_of (slice_get rules n) ∷ names_of ns else (name_of (slice_get rules n) ∷ names_of ns) ++ name ∷ [])
  add_step m n ns more name a true c e same below = rw e (ap (λ (x : List ℕ). x ∷ names_of ns) (same refl))
  add_step m n ns more name a false true e same below = rw e (ap (λ (l : List (List ℕ)). name_of (slice_get rules n) ∷ l) below)
  add_step m n ns more name a false false e same below = rw e (ap (λ (l : List (List ℕ)). name_of (slice_get rules n) ∷ l) below)

  names-add_rule : (m : ℕ) (name : List ℕ) (order : List ℕ) → name_of (slice_get rules m) ≡ name → AreRules order
      → names_of (add_rule rules m name order) ≡ insert_key name_eq (names_of order) name
  names-add_rule m name [] is all = ap (λ (x : List ℕ). x ∷ []) is
  names-add_rule m name (n ∷ ns) is all =
      add_step m n ns (add_rule rules m name ns) name (is_named rules name n) (name_eq name (name_of (slice_get rules n))) (list_any (name_eq name) (names_of ns))
      (named_as name n all.0)
      (λ same. is ∙ (name_eq-decides name (name_of (slice_get rules n))).0 same)
      (names-add_rule m name ns is all.1)

  are-add_rule : (m : ℕ) (name : List ℕ) (order : List ℕ) → IsRule m → AreRules order → AreRules (add_rule rules m name order)
  are-add_rule m name [] is all = (is, tt)
  are-add_rule m name (n ∷ ns) is all = by (is_named rules name n) (are-add_rule m name ns is all.1)
    where
      by : (b : Bool) → AreRules (add_rule rules m name ns) → AreRules (if b then m ∷ ns else n ∷ add_rule rules m name ns)
      by true below = (is, all.1)
      by false below = (all.0, below)

  names-added : (m : ℕ) (order : List ℕ) → AreRules order → names_of (added rules m order) ≡ added_name rules m (names_of order)
  names-added m order all = by (slice_get rules m) refl
    where
      by : (o : Option PlainRule) → slice_get rules m ≡ o → names_of (added rules m order) ≡ added_name rules m (names_of order)
      by None e = rw e refl
      by (Some rule) e =
          let is : name_of (slice_get rules m) ≡ rule.name = ap name_of e in
          rw e (names-add_rule m rule.name order is all)

  are-added : (m : ℕ) (order : List ℕ) → AreRules order → AreRules (added rules m order)
  are-added m order all = by (slice_get rules m) refl
    where
      by : (o : Option PlainRule) → slice_get rules m ≡ o → AreRules (added rules m order)
      by None e = rw e all
      by (Some rule) e =
          let is : IsRule m = record { rule = rule; at = e } in
          rw e (are-add_rule m rule.name order is all)

  -- A drop
  drop_step : (n : ℕ) (more : List ℕ) (names : List (List ℕ)) (b c : Bool) → b ≡ c → names_of more ≡ names
      → names_of (cond (not b) (n ∷ more) more) ≡ cond (not c) (name_of (slice_get rules n) ∷ names) names
  drop_step n more names b true e below = rw e below
  drop_step n more names b false e below = rw e (ap (λ (l : List (List ℕ)). name_of (slice_get rules n) ∷ l) below)

  names-dropped : (name : List ℕ) (order : List ℕ) → AreRules order
      → names_of (filter (λ m. not (is_named rules name m)) order) ≡ filter (λ other. not (name_eq name other)) (names_of order)
  names-dropped name [] all = refl
  names-dropped name (n ∷ ns) all =
      drop_step n (filter (λ m. not (is_named rules name m)) ns) (filter (λ other. not (name_eq name other)) (names_of ns))
      (is_named rules name n) (name_eq name (name_of (slice_get rules n))) (named_as name n all.0) (names-dropped name ns all.1)

  are-kept : (p : ℕ → Bool) (order : List ℕ) → AreRules order → AreRules (filter p order)
  are-kept p [] all = tt
  are-kept p (n ∷ ns) all = by (p n) (are-kept p ns all.1)
    where
      by : (b : Bool) → AreRules (filter p ns) → AreRules (cond b (n ∷ filter p ns) (filter p ns))
      by true below = (all.0, below)
      by false below = below

  -- A change
  names-changed : (book : Book) (next : Change) → AreRules book.order → names_of (apply rules book next).order ≡ changed_names rules next (names_of book.order)
  names-changed book (change.Add m) all = names-added m book.order all
  names-changed book (change.Drop name) all = names-dropped name book.order all
  names-changed book (change.Env key v) all = refl

  are-changed : (book : Book) (next : Change) → AreRules book.order → AreRules (apply rules book next).order
  are-changed book (change.Add m) all = are-added m book.order all
  are-changed book (change.Drop name) all = are-kept (λ m. not (is_named rules name m)) book.order all
  are-changed book (change.Env key v) all = all

  -- A script
  most-is : (book : Book) (script : List Timed) → AreRules book.order → most_alive rules book script ≡ most_names rules (names_of book.order) script
  most-is book [] all = sym (length-map book.order (λ m. name_of (slice_get rules m)))
  most-is book (timed ∷ rest) all =
      (λ j. max (sym (length-map book.order (λ m. name_of (slice_get rules m))) j)
      ((most-is (apply rules book timed.change) rest (are-changed book timed.change all)
      ∙ ap (λ (names : List (List ℕ)). most_names rules names rest) (names-changed book timed.change all)) j))

  -- The start
  are-opening : (n : ℕ) → AreRules (opening_order rules n)
  are-opening zero = tt
  are-opening (suc n) = are-added n (opening_order rules n) (are-opening n)

  names-opening : (n : ℕ) → names_of (opening_order rules n) ≡ first_names rules n
  names-opening zero = refl
  names-opening (suc n) = names-added n (opening_order rules n) (are-opening n) ∙ ap (added_name rules n) (names-opening n)

-- as many rules are in the book at once as names
pub most_alive-names : (rules : List PlainRule) (opening : ℕ) (env : List (List ℕ × Value)) (script : List Timed)
    → most_alive rules (opening_book rules opening env) script ≡ most_names rules (first_names rules opening) script
most_alive-names rules opening env script =
    most-is rules (opening_book rules opening env) script (are-opening rules opening)
    ∙ ap (λ (names : List (List ℕ)). most_names rules names script) (names-opening rules opening)
