-- What the next change makes of a book.
use Rattle.std.proofs.Common.{◌≡◌, ℕ, List, [], ◌∷◌, ◌++◌, map, Some, None, slice_get, sym, ap, ◌∙◌, subst}
use Rattle.std.specs.List.{AllByRecursion}
use Rattle.std.specs.Map.{lookup, remove_entry}
use Rattle.indexmap.specs.IndexMap.{insert_entry}
use Rattle.dioc_terms.specs.declared.bundles.Change.{Change}
use Rattle.dioc_terms.specs.declared.bundles.Change.TheVariants as change
use Rattle.dioc_terms.specs.declared.values.Value.{Value}
use Rattle.dioc_terms.specs.Equality.{name_eq}
use Rattle.dioc_terms.specs.Plain.{PlainRule}
use Rattle.dioc_terms.specs.Rules.{Book, apply}
use Rattle.dioc_terms.specs.Values.{bound}
use Rattle.rule_book.specs.declared.kept.KeptChange.{KeptChange}
use Rattle.rule_book.specs.declared.kept.KeptRule.{KeptRule}
use Rattle.rule_book.specs.Kept.{change_of, order_of, IsKept, AreKept}
use Rattle.rule_book.proofs.OrderLemmas.{order_of-added, order_of-remove_entry, bound-set}

-- the next change is the first of those to come
pub next_is : (before rest : List KeptChange) (first : KeptChange) (next : Change) → before ≡ first ∷ rest
    → slice_get (map change_of before) 0 ≡ Some next → next ≡ change_of first
next_is before rest first next e at =
    let same : Some (change_of first) ≡ Some next = sym (ap (λ (l : List KeptChange). slice_get (map change_of l) 0) e) ∙ at in
    cc

-- what is known of the changes to come is known of the first and of the rest
pub first_and_rest : (P : KeptChange → Type 0) (before rest : List KeptChange) (first : KeptChange) → before ≡ first ∷ rest
    → AllByRecursion P before → P first × AllByRecursion P rest
first_and_rest P before rest first e all = subst (AllByRecursion P) e all

abbrev book_with : List ℕ → (List ℕ → Value) → Book
book_with order environment = record { order = order; environment = environment }

module _ (rules : List PlainRule) (next : Change) where
  pub applied-add : (es new : List (List ℕ × KeptRule)) (env : List (List ℕ × Value)) (name : List ℕ) (kept : KeptRule) → AreKept rules es → IsKept rules name kept
      → new ≡ insert_entry name_eq es name kept → next ≡ change.Add kept.number
      → book_with (order_of new) (bound env) ≡ apply rules (book_with (order_of es) (bound env)) next
  applied-add es new env name kept all is inserted e =
      ap (λ (l : List ℕ). book_with l (bound env)) (ap order_of inserted ∙ order_of-added rules name kept es all is)
      ∙ ap (apply rules (book_with (order_of es) (bound env))) (sym e)

  pub applied-drop : (es new : List (List ℕ × KeptRule)) (env : List (List ℕ × Value)) (name : List ℕ) → AreKept rules es
      → new ≡ remove_entry (name_eq name) es → lookup (name_eq name) new ≡ None → next ≡ change.Drop name
      → book_with (order_of new) (bound env) ≡ apply rules (book_with (order_of es) (bound env)) next
  applied-drop es new env name all removed gone e =
      ap (λ (l : List ℕ). book_with l (bound env))
      (ap order_of removed ∙ order_of-remove_entry rules name es all (subst (λ (l : List (List ℕ × KeptRule)). lookup (name_eq name) l ≡ None) removed gone))
      ∙ ap (apply rules (book_with (order_of es) (bound env))) (sym e)

  pub applied-env : (es : List (List ℕ × KeptRule)) (env new : List (List ℕ × Value)) (key : List ℕ) (v : Value)
      → new ≡ env ++ (key, v) ∷ [] → next ≡ change.Env key v
      → book_with (order_of es) (bound new) ≡ apply rules (book_with (order_of es) (bound env)) next
  applied-env es env new key v pushed e =
      ap (λ (f : List ℕ → Value). book_with (order_of es) f) (ap bound pushed ∙ bound-set env key v)
      ∙ ap (apply rules (book_with (order_of es) (bound env))) (sym e)
