-- What an add, a drop and a look-up by name do to kept rules is what they do to the order of the book.
use Rattle.std.proofs.Common.{◌≡◌, ◌<◌, ◌≤◌, ◌+◌, ℕ, zero, suc, List, [], ◌∷◌, ◌++◌, Bool, true, false, cond, not, if◌then◌else◌, filter, length, get_or, arith, Option, Some, None, slice_get, refl, sym, ap, ◌∙◌, subst}
use Rattle.std.specs.Prelude.{find}
use Rattle.std.specs.List.{AllByRecursion}
use Rattle.std.specs.Map.{lookup, remove_entry}
use Rattle.std.specs.Option.{option_map}
use Rattle.indexmap.specs.IndexMap.{insert_entry}
use Rattle.dioc_terms.specs.declared.bundles.Change.{Change}
use Rattle.dioc_terms.specs.declared.bundles.Change.TheVariants as change
use Rattle.dioc_terms.specs.declared.bundles.Timed.{Timed}
use Rattle.dioc_terms.specs.declared.values.Value.{Value}
use Rattle.dioc_terms.specs.Bundles.{adds, numbers_from}
use Rattle.dioc_terms.specs.Equality.{name_eq}
use Rattle.dioc_terms.specs.EqualityLemmas.{equivalence_from_Decides, name_eq-decides}
use Rattle.dioc_terms.specs.Plain.{PlainRule}
use Rattle.dioc_terms.specs.Rules.{is_named, add_rule, added}
use Rattle.dioc_terms.specs.Values.{bound}
use Rattle.dioc_terms.proofs.ValueLemmas.{bound-push}
use Rattle.rule_book.specs.declared.kept.KeptRule.{KeptRule}
use Rattle.rule_book.specs.Kept.{order_of, IsKept, AreKept}

abbrev Entries : Type 0
Entries = List (List ℕ × KeptRule)

name_eq-symm : (a b : List ℕ) → name_eq a b ≡ name_eq b a
name_eq-symm = (equivalence_from_Decides name_eq name_eq-decides).symm

module _ (rules : List PlainRule) where
  -- a kept rule has the name in the book that it is kept under
  named_as : (name : List ℕ) (kept : KeptRule) (other : List ℕ) → IsKept rules name kept → is_named rules other kept.number ≡ name_eq other name
  named_as name kept other is = by_rule is.at ∙ (name_eq-symm (is.rule).name other ∙ ap (name_eq other) (sym is.named))
    where
      by_rule : slice_get rules kept.number ≡ Some is.rule → is_named rules other kept.number ≡ name_eq (is.rule).name other
      by_rule at = rw at refl

  -- An add
  insert_step : (e : List ℕ × KeptRule) (kept : KeptRule) (es more : Entries) (order : List ℕ) (b c : Bool) → c ≡ b → order_of more ≡ order
      → order_of (if b then (e.0, kept) ∷ es else e ∷ more) ≡ (if c then kept.number ∷ order_of es else e.1.number ∷ order)
  insert_step e kept es more order true c h below = rw h refl
  insert_step e kept es more order false c h below = rw h (ap (λ (l : List ℕ). e.1.number ∷ l) below)

  order_of-insert_entry : (name : List ℕ) (kept : KeptRule) (es : Entries) → AreKept rules es
      → order_of (insert_entry name_eq es name kept) ≡ add_rule rules kept.number name (order_of es)
  order_of-insert_entry name kept [] all = refl
  order_of-insert_entry name kept (e ∷ es) all =
      insert_step e kept es (insert_entry name_eq es name kept) (add_rule rules kept.number name (order_of es)) (name_eq name e.0)
      (is_named rules name e.1.number) (named_as e.0 e.1 name all.0) (order_of-insert_entry name kept es all.1)

  pub order_of-added : (name : List ℕ) (kept : KeptRule) (es : Entries) → AreKept rules es → IsKept rules name kept
      → order_of (insert_entry name_eq es name kept) ≡ added rules kept.number (order_of es)
  order_of-added name kept es all is =
      order_of-insert_entry name kept es all
      ∙ (ap (λ (n : List ℕ). add_rule rules kept.number n (order_of es)) is.named ∙ sym (by_rule is.at))
    where
      by_rule : slice_get rules kept.number ≡ Some is.rule → added rules kept.number (order_of es) ≡ add_rule rules kept.number (is.rule).name (order_of es)
      by_rule at = rw at refl

  pub kept-insert_entry : (name : List ℕ) (kept : KeptRule) (es : Entries) → AreKept rules es → IsKept rules name kept
      → AreKept rules (insert_entry name_eq es name kept)
  kept-insert_entry name kept [] all is = (is, tt)
  kept-insert_entry name kept (e ∷ es) all is = by (name_eq name e.0) refl (kept-insert_entry name kept es all.1 is)
    where
      by : (b : Bool) → name_eq name e.0 ≡ b → AreKept rules (insert_entry name_eq es name kept)
          → AreKept rules (if b then (e.0, kept) ∷ es else e ∷ insert_entry name_eq es name kept)
      by true h below = (subst (λ (n : List ℕ). IsKept rules n kept) ((name_eq-decides name e.0).0 h) is, all.1)
      by false h below = (all.0, below)

  -- A drop
  filter_step : (p : ℕ → Bool) (m : ℕ) (order kept : List ℕ) (b : Bool) → p m ≡ b → filter p order ≡ kept
      → filter p (m ∷ order) ≡ (if b then m ∷ kept else kept)
  filter_step p m order kept b h below = rw (h, below) refl

  filter-absent : (name : List ℕ) (es : Entries) → AreKept rules es → lookup (name_eq name) es ≡ None
      → filter (λ m. not (is_named rules name m)) (order_of es) ≡ order_of es
  filter-absent name [] all none = refl
  filter-absent name (e ∷ es) all none = by (name_eq name e.0) (named_as e.0 e.1 name all.0) none (filter-absent name es all.1)
    where
      by : (b : Bool) → is_named rules name e.1.number ≡ b → cond b (Some e.1) (lookup (name_eq name) es) ≡ None
          → (lookup (name_eq name) es ≡ None → filter (λ m. not (is_named rules name m)) (order_of es) ≡ order_of es)
          → filter (λ m. not (is_named rules name m)) (e.1.number ∷ order_of es) ≡ e.1.number ∷ order_of es
      by true h none below = cc
      by false h none below = filter_step (λ m. not (is_named rules name m)) e.1.number (order_of es) (order_of es) true (ap not h) (below none)

  pub order_of-remove_entry : (name : List ℕ) (es : Entries) → AreKept rules es → lookup (name_eq name) (remove_entry (name_eq name) es) ≡ None
      → order_of (remove_entry (name_eq name) es) ≡ filter (λ m. not (is_named rules name m)) (order_of es)
  order_of-remove_entry name [] all none = refl
  order_of-remove_entry name (e ∷ es) all none = by (name_eq name e.0) refl none (order_of-remove_entry name es all.1)
    where
      by : (b : Bool) → name_eq name e.0 ≡ b → lookup (name_eq name) (cond b es (e ∷ remove_entry (name_eq name) es)) ≡ None
          → (lookup (name_eq name) (remove_entry (name_eq name) es) ≡ None → order_of (remove_entry (name_eq name) es) ≡ filter (λ m. not (is_named rules name m)) (order_of es))
          → order_of (cond b es (e ∷ remove_entry (name_eq name) es)) ≡ filter (λ m. not (is_named rules name m)) (e.1.number ∷ order_of es)
      by true h none below =
          sym (filter_step (λ m. not (is_named rules name m)) e.1.number (order_of es) (order_of es) false (ap not (named_as e.0 e.1 name all.0 ∙ h)) (filter-absent name es all.1 none))
      by false h none below =
          sym (filter_step (λ m. not (is_named rules name m)) e.1.number (order_of es) (order_of (remove_entry (name_eq name) es)) true (ap not (named_as e.0 e.1 name all.0 ∙ h))
          (sym (below (sym (ap (λ (t : Bool). cond t (Some e.1) (lookup (name_eq name) (remove_entry (name_eq name) es))) h) ∙ none))))

  pub kept-remove_entry : (name : List ℕ) (es : Entries) → AreKept rules es → AreKept rules (remove_entry (name_eq name) es)
  kept-remove_entry name [] all = tt
  kept-remove_entry name (e ∷ es) all = by (name_eq name e.0) (kept-remove_entry name es all.1)
    where
      by : (b : Bool) → AreKept rules (remove_entry (name_eq name) es) → AreKept rules (cond b es (e ∷ remove_entry (name_eq name) es))
      by true below = all.1
      by false below = (all.0, below)

  -- A look-up
  find_step : (e : List ℕ × KeptRule) (found : Option KeptRule) (number : Option ℕ) (b c : Bool) → c ≡ b → option_map (λ (k : KeptRule). k.number) found ≡ number
      → option_map (λ (k : KeptRule). k.number) (cond b (Some e.1) found) ≡ cond c (Some e.1.number) number
  find_step e found number true c h below = rw h refl
  find_step e found number false c h below = rw h below

  pub find-order_of : (name : List ℕ) (es : Entries) → AreKept rules es
      → option_map (λ (k : KeptRule). k.number) (lookup (name_eq name) es) ≡ find (is_named rules name) (order_of es)
  find-order_of name [] all = refl
  find-order_of name (e ∷ es) all =
      find_step e (lookup (name_eq name) es) (find (is_named rules name) (order_of es)) (name_eq name e.0) (is_named rules name e.1.number)
      (named_as e.0 e.1 name all.0) (find-order_of name es all.1)

-- the environment once one more key is set
pub bound-set : (env : List (List ℕ × Value)) (key : List ℕ) (v : Value)
    → bound (env ++ (key, v) ∷ []) ≡ (λ other. if name_eq other key then v else bound env other)
bound-set env key v j = λ other. (bound-push other env (key, v) ∙ ap (λ (b : Bool). if b then v else bound env other) (name_eq-symm key other)) j

-- what holds of the numbers that a script adds, of those after its first change too
adds_rest : (P : ℕ → Type 0) (first : Timed) (script : List Timed) → AllByRecursion P (adds (first ∷ script)) → AllByRecursion P (adds script)
adds_rest P first script all = by first.change refl
  where
    by : (c : Change) → first.change ≡ c → AllByRecursion P (adds script)
    by (change.Add n) e = (rw e at all).1
    by (change.Drop name) e = rw e at all
    by (change.Env key v) e = rw e at all

-- and of the number of each add in it
pub adds-at : (P : ℕ → Type 0) (script : List Timed) (i : ℕ) (timed other : Timed) (m : ℕ) → i < length script → timed ≡ get_or script i other
    → timed.change ≡ change.Add m → AllByRecursion P (adds script) → P m
adds-at P [] i timed other m inside at is all = absurd (omega (arith, inside))
adds-at P (first ∷ script) zero timed other m inside at is all =
    let e : first.change ≡ change.Add m = ap (λ (t : Timed). t.change) (sym at) ∙ is in
    (rw e at all).0
adds-at P (first ∷ script) (suc i) timed other m inside at is all =
    adds-at P script i timed other m (omega arith) at is (adds_rest P first script all)

-- numbers from one on stay below where they end
pub numbers_from-below : (most n count : ℕ) → n + count ≤ most → AllByRecursion (λ m. m < most) (numbers_from n count)
numbers_from-below most n zero h = tt
numbers_from-below most n (suc count) h = (omega arith, numbers_from-below most (suc n) count (omega arith))
