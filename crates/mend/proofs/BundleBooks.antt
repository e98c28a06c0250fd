-- The book of a bundle doesn't look at its rules' bodies until it chooses: with other bodies the same numbers stand in it, in the same order.
use Rattle.std.proofs.Common.{◌≡◌, ℕ, zero, suc, List, [], ◌∷◌, not, if◌then◌else◌, filter, map, Option, Some, None, length, refl, ap, ap₂, ◌∙◌}
use Rattle.std.specs.Prelude.{max, option_map, slice_get}
use Rattle.std.proofs.lemmas.Option.{slice_get-map}
use Rattle.dioc_terms.specs.declared.names.Role.{Role}
use Rattle.dioc_terms.specs.declared.values.Value.{Value}
use Rattle.dioc_terms.specs.declared.bundles.Change.{Change}
use Rattle.dioc_terms.specs.declared.bundles.Change.TheVariants as change
use Rattle.dioc_terms.specs.declared.bundles.Timed.{Timed}
use Rattle.dioc_terms.specs.Plain.{PlainRule}
use Rattle.dioc_terms.specs.Rules.{Book, is_named, add_rule, added, apply, opening_order, opening_book}
use Rattle.dioc_terms.specs.Values.{bound}
use Rattle.rule_checks.specs.Refusals.{most_alive}
use Rattle.mend.specs.Traces.{mended_rule}

module _ (cast : List Role) (rules : List PlainRule) where
  abbrev pub the_mended : List PlainRule
  the_mended = map (mended_rule cast) rules

  pub none_at : (m : ℕ) → slice_get rules m ≡ None → slice_get the_mended m ≡ None
  none_at m e = slice_get-map (mended_rule cast) rules m ∙ ap (option_map (mended_rule cast)) e

  pub some_at : (m : ℕ) (rule : PlainRule) → slice_get rules m ≡ Some rule → slice_get the_mended m ≡ Some (mended_rule cast rule)
  some_at m rule e = slice_get-map (mended_rule cast) rules m ∙ ap (option_map (mended_rule cast)) e

  same_named : (name : List ℕ) (m : ℕ) → is_named the_mended name m ≡ is_named rules name m
  same_named name m = by_rule (slice_get rules m) refl
    where
      by_rule : (found : Option PlainRule) → slice_get rules m ≡ found → is_named the_mended name m ≡ is_named rules name m
      by_rule None e = rw (none_at m e, e) refl
      by_rule (Some rule) e = rw (some_at m rule e, e) refl

  same_add : (m : ℕ) (name : List ℕ) (ns : List ℕ) → add_rule the_mended m name ns ≡ add_rule rules m name ns
  same_add m name [] = refl
  same_add m name (n ∷ ns) = ap₂ (λ t l. if t then m ∷ ns else n ∷ l) (same_named name n) (same_add m name ns)

  same_added : (m : ℕ) (ns : List ℕ) → added the_mended m ns ≡ added rules m ns
  same_added m ns = by_rule (slice_get rules m) refl
    where
      by_rule : (found : Option PlainRule) → slice_get rules m ≡ found → added the_mended m ns ≡ added rules m ns
      by_rule None e = rw (none_at m e, e) refl
      by_rule (Some rule) e = rw (some_at m rule e, e) (same_add m rule.name ns)

  same_order : (n : ℕ) → opening_order the_mended n ≡ opening_order rules n
  same_order zero = refl
  same_order (suc n) = ap (added the_mended n) (same_order n) ∙ same_added n (opening_order rules n)

  same_opening : (n : ℕ) (env : List (List ℕ × Value)) → opening_book the_mended n env ≡ opening_book rules n env
  same_opening n env = ap (λ order. record { order = order; environment = bound env }) (same_order n)

  same_apply : (book : Book) (c : Change) → apply the_mended book c ≡ apply rules book c
  same_apply book (change.Add m) = ap (λ order. record { order = order; environment = book.environment }) (same_added m book.order)
  same_apply book (change.Drop name) = λ i. record { order = filter (λ m. not (same_named name m i)) book.order; environment = book.environment }
  same_apply book (change.Env key v) = refl

  same_most : (book : Book) (script : List Timed) → most_alive the_mended book script ≡ most_alive rules book script
  same_most book [] = refl
  same_most book (timed ∷ rest) =
      ap (max (length book.order))
      (ap (λ next. most_alive the_mended next rest) (same_apply book timed.change) ∙ same_most (apply rules book timed.change) rest)

  -- as many rules are in the book at once
  pub same_alive : (opening : ℕ) (env : List (List ℕ × Value)) (script : List Timed)
      → most_alive the_mended (opening_book the_mended opening env) script ≡ most_alive rules (opening_book rules opening env) script
  same_alive opening env script =
      ap (λ book. most_alive the_mended book script) (same_opening opening env) ∙ same_most (opening_book rules opening env) script
