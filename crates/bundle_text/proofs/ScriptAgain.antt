-- The script of a formed bundle is what its written changes are numbered to.
use Rattle.std.proofs.Common.{◌≡◌, ℕ, zero, suc, ◌+◌, ◌<◌, List, [], ◌∷◌, ◌++◌, length, map, drop, get_or, Some, refl, ap, sym, ◌∙◌, arith, drop-cons, drop_of_length-le}
use Rattle.std.specs.Prelude.{slice_get}
use Rattle.std.proofs.lemmas.Option.{slice_get-get_or}
use Rattle.dioc_terms.specs.declared.bundles.Change.{Change}
use Rattle.dioc_terms.specs.declared.bundles.Change.TheVariants as change
use Rattle.dioc_terms.specs.declared.bundles.Timed.{Timed}
use Rattle.dioc_terms.specs.Plain.{PlainRule}
use Rattle.dioc_terms.specs.Bundles.{adds, numbers_from}
use Rattle.rule_syntax.specs.Grammar.{PlainChange, Add}
use Rattle.bundle_text.specs.Grammar.{PlainTimed, added_rules, numbered}
use Rattle.bundle_text.specs.Writing.{added_by, script_of}

-- the rule of a number, and those behind it
record Numbered (rules : List PlainRule) (n : ℕ) : Type 0 where
  rule : PlainRule
  is : slice_get rules n ≡ Some rule
  rest : drop n rules ≡ rule ∷ drop (suc n) rules

rule_of : (rules : List PlainRule) (n : ℕ) → n < length rules → Numbered rules n
rule_of [] n inside = absurd (omega arith)
rule_of (first ∷ rest) n inside = record {
  rule = get_or (first ∷ rest) n first;
  is = slice_get-get_or (first ∷ rest) n first inside;
  rest = drop-cons (first ∷ rest) n first inside;
}

-- the written script adds the rules from this one on, and is numbered to the script
pub record IsAgain (rules : List PlainRule) (n : ℕ) (script : List Timed) : Type 0 where
  pub added : added_rules (script_of rules script) ≡ drop n rules
  pub numbers : numbered n (script_of rules script) ≡ script

module _ (rules : List PlainRule) (n after : ℕ) (rest : List Timed) where
  add_again : (m k : ℕ) → ((k : ℕ) → adds rest ≡ numbers_from (suc n) k → suc n + k ≡ length rules → IsAgain rules (suc n) rest) → m ∷ adds rest ≡ numbers_from n k → n + k ≡ length rules
      → IsAgain rules n (record { after = after; change = change.Add m } ∷ rest)
  add_again m zero more added count = absurd cc
  add_again m (suc k) more added count =
      let number : m ≡ n = cc in
      let others : adds rest ≡ numbers_from (suc n) k = cc in
      let here = rule_of rules n (omega arith) in
      let again = more k others (omega arith) in
      let one : PlainTimed = record { after = after; change = Add here.rule } in
      let written : script_of rules (record { after = after; change = change.Add m } ∷ rest) ≡ one ∷ script_of rules rest =
      ap (λ found. map (λ (found : PlainChange). record { after = after; change = found }) (added_by found) ++ script_of rules rest) (ap (slice_get rules) number ∙ here.is) in
      let next : n + 1 ≡ suc n = omega arith in
      let left : numbered (n + 1) (script_of rules rest) ≡ rest = ap (λ i. numbered i (script_of rules rest)) next ∙ again.numbers in
      let same = sym number in
      record {
        added = ap added_rules written ∙ ap (λ list. here.rule ∷ list) again.added ∙ sym here.rest;
        numbers = ap (numbered n) written ∙ (λ j. record { after = after; change = change.Add (same j) } ∷ left j);
      }

  kept_again : IsAgain rules n rest → numbered (n + 0) (script_of rules rest) ≡ rest
  kept_again again = let same : n + 0 ≡ n = omega arith in ap (λ i. numbered i (script_of rules rest)) same ∙ again.numbers

  one_again : (k : ℕ) (found : Change) → ((m k : ℕ) → adds rest ≡ numbers_from m k → m + k ≡ length rules → IsAgain rules m rest) → adds (record { after = after; change = found } ∷ rest) ≡ numbers_from n k → n + k ≡ length rules
      → IsAgain rules n (record { after = after; change = found } ∷ rest)
  one_again k (change.Add m) more added count = add_again m k (more (suc n)) added count
  one_again k (change.Drop name) more added count =
      let again = more n k added count in record { added = again.added; numbers = ap (λ list. record { after = after; change = change.Drop name } ∷ list) (kept_again again) }
  one_again k (change.Env key value) more added count =
      let again = more n k added count in record { added = again.added; numbers = ap (λ list. record { after = after; change = change.Env key value } ∷ list) (kept_again again) }

none_again : (rules : List PlainRule) (n k : ℕ) → [] ≡ numbers_from n k → n + k ≡ length rules → IsAgain rules n []
none_again rules n zero added count = record { added = sym (drop_of_length-le rules (omega arith)); numbers = refl }
none_again rules n (suc k) added count = absurd cc

pub script_again : (rules : List PlainRule) (n k : ℕ) (script : List Timed) → adds script ≡ numbers_from n k → n + k ≡ length rules → IsAgain rules n script
script_again rules n k [] added count = none_again rules n k added count
script_again rules n k (first ∷ rest) added count = one_again rules n first.after rest k first.change (λ m i is sum. script_again rules m i rest is sum) added count
