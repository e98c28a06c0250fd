-- What a change makes of a book that is a plain list.
use Rattle.std.proofs.Common.{◌≡◌, ℕ, ◌<◌, List, [], ◌∷◌, ◌++◌, Bool, true, false, ◌&&◌, if◌then◌else◌, Option, Some, None, IfSome, cond, length, nat_lt, not, position, slice_get, suc, ◌+◌, ap, sym, subst, ◌∙◌, ◌≤◌, refl, arith}
use Rattle.std.proofs.lemmas.List.Folds.{list_all-append}
use Rattle.std.specs.List.{list_all, position_or_len}
use Rattle.dioc_terms.specs.declared.values.Value.{Value}
use Rattle.dioc_terms.specs.declared.bundles.Change.{Change}
use Rattle.dioc_terms.specs.declared.bundles.Change.TheVariants as change
use Rattle.dioc_terms.specs.Equality.{member, name_eq}
use Rattle.dioc_terms.specs.RuleLaws.{ChoicesGoOn}
use Rattle.dioc_terms.specs.Stores.{Store}
use Rattle.dioc_terms.specs.Terms.{mentions}
use Rattle.dioc_terms.specs.declared.processes.ScopeHead.{ScopeHead}
use Rattle.std.proofs.Math.ListN.{set}
use Rattle.std.proofs.lemmas.Bool.{and_parts, false≢true, ltb-true, ltb-false}
use Rattle.dioc_terms.specs.EqualityLemmas.{equivalence_from_Decides, name_eq-decides}
use Rattle.dioc_terms.specs.Plain.{PlainRule}
use Rattle.dioc_terms.specs.Rules.{Book, add_rule, apply, choose, fits, is_named}
use Rattle.dioc_terms.specs.Values.{bound, holds}
use Rattle.dioc_terms.proofs.ValueLemmas.{bound-push}

-- the environment once one more key is set
pub bound_set : (env : List (List ℕ × Value)) (key : List ℕ) (v : Value)
    → bound (env ++ (key, v) ∷ []) ≡ (λ other. if name_eq other key then v else bound env other)
bound_set env key v j = λ other. (bound-push other env (key, v)
    ∙ ap (λ (b : Bool). if b then v else bound env other)
    ((equivalence_from_Decides name_eq name_eq-decides).symm key other)) j

-- the book once a key is set
pub env_applied : (rules : List PlainRule) (order : List ℕ) (env new : List (List ℕ × Value))
    (key : List ℕ) (v : Value) (c : Change) → c ≡ change.Env key v → new ≡ env ++ (key, v) ∷ []
    → ◌≡◌ {A = Book} (record { order = order; environment = bound new })
    (apply rules (record { order = order; environment = bound env }) c)
env_applied rules order env new key v c is set =
    rw is (ap (λ (e : List ℕ → Value). record { order = order; environment = e })
    (ap bound set ∙ bound_set env key v))

-- the order once a rule is added at the place of its name, or last
module _ (rules : List PlainRule) (m : ℕ) (name : List ℕ) where
  at_place : (ns : List ℕ) → position_or_len (is_named rules name) ns < length ns
      → set ns (position_or_len (is_named rules name) ns) m ≡ add_rule rules m name ns
  at_place [] within = absurd (omega arith)
  at_place (n ∷ ns) within =
      by (is_named rules name n) (position_or_len (is_named rules name) ns) (at_place ns) within
    where
      by : (t : Bool) (k : ℕ) → (k < length ns → set ns k m ≡ add_rule rules m name ns)
          → cond (not t) (1 + k) 0 < suc (length ns)
          → set (n ∷ ns) (cond (not t) (1 + k) 0) m
          ≡ cond t (m ∷ ns) (n ∷ add_rule rules m name ns)
      by true k later h = refl
      by false k later h =
          let next : 1 + k ≡ suc k = omega arith in
          rw next (ap (λ l. n ∷ l) (later (omega arith)))

  at_end : (ns : List ℕ) → length ns ≤ position_or_len (is_named rules name) ns
      → ns ++ m ∷ [] ≡ add_rule rules m name ns
  at_end [] past = refl
  at_end (n ∷ ns) past =
      by (is_named rules name n) (position_or_len (is_named rules name) ns) (at_end ns) past
    where
      by : (t : Bool) (k : ℕ) → (length ns ≤ k → ns ++ m ∷ [] ≡ add_rule rules m name ns)
          → suc (length ns) ≤ cond (not t) (1 + k) 0
          → n ∷ (ns ++ m ∷ []) ≡ cond t (m ∷ ns) (n ∷ add_rule rules m name ns)
      by true k later h = absurd (omega arith)
      by false k later h = ap (λ l. n ∷ l) (later (omega arith))

  pub put_at : (order : List ℕ) (i : ℕ) → position (is_named rules name) order ≡ Some i
      → set order i m ≡ add_rule rules m name order
  put_at order i at =
      by (nat_lt (position_or_len (is_named rules name) order) (length order)) refl at
    where
      by : (t : Bool)
          → nat_lt (position_or_len (is_named rules name) order) (length order) ≡ t
          → cond t (Some (position_or_len (is_named rules name) order)) None ≡ Some i
          → set order i m ≡ add_rule rules m name order
      by true within is =
          let same : position_or_len (is_named rules name) order ≡ i = cc in
          subst (λ (k : ℕ). set order k m ≡ add_rule rules m name order) same
          (at_place order (ltb-true _ _ within))
      by false within is = cc

  pub added_last : (order : List ℕ) → position (is_named rules name) order ≡ None
      → order ++ m ∷ [] ≡ add_rule rules m name order
  added_last order at =
      by (nat_lt (position_or_len (is_named rules name) order) (length order)) refl at
    where
      by : (t : Bool)
          → nat_lt (position_or_len (is_named rules name) order) (length order) ≡ t
          → cond t (Some (position_or_len (is_named rules name) order)) None ≡ None
          → order ++ m ∷ [] ≡ add_rule rules m name order
      by true within is = cc
      by false within is = at_end order (ltb-false _ _ within)

-- a rule is chosen for a scope below the top level alone
pub below_top : ChoicesGoOn → (rules : List PlainRule) (book : Book) (head : ScopeHead) (s : Store)
    (o : Option ℕ) → o ≡ choose rules book head s → IfSome o (λ number. head.level < 16)
below_top law rules book head s None is = tt
below_top law rules book head s (Some n) is =
    by (slice_get rules n) refl (law.chosen_fits rules book head s n (sym is))
  where
    by : (r : Option PlainRule) → slice_get rules n ≡ r → fits rules book head s n ≡ true
        → head.level < 16
    by None at fit = absurd (false≢true (rw at at fit))
    by (Some rule) at fit =
        let all : ((holds rule.cond s (bound head.props) book.environment
        && list_all (λ q. member q head.roles) (mentions rule.body))
        && nat_lt head.level 16) ≡ true
        = rw at at fit in
        ltb-true head.level 16 (and_parts (holds rule.cond s (bound head.props) book.environment
        && list_all (λ q. member q head.roles) (mentions rule.body)) _ all).1

pub all_append : {X : Type 0} (p : X → Bool) (xs ys : List X)
    → list_all p (xs ++ ys) ≡ (list_all p xs && list_all p ys)
all_append p xs ys = list_all-append p xs ys
