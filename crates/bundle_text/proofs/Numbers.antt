-- A script is numbered change after change.
use Rattle.std.proofs.Common.{◌≡◌, ◌+◌, ◌≤◌, List, [], ◌∷◌, ◌++◌, length, refl, ap, sym, ◌∙◌, arith, append_assoc, append-nil, length-append}
use Rattle.dioc_terms.specs.declared.bundles.Timed.{Timed}
use Rattle.dioc_terms.specs.Plain.{PlainRule}
use Rattle.rule_syntax.specs.Grammar.{PlainChange, Add, Drop, Env}
use Rattle.bundle_text.specs.Grammar.{PlainTimed, with_added, added_rules, count_added, numbered_change, numbered}

-- the rule that a change adds, and the others
added_alone : (change : PlainChange) (others : List PlainRule) → with_added change [] ++ others ≡ with_added change others
added_alone (Add rule) others = refl
added_alone (Drop name) others = refl
added_alone (Env key value) others = refl

added_count : (change : PlainChange) → length (with_added change []) ≡ count_added change
added_count (Add rule) = refl
added_count (Drop name) = refl
added_count (Env key value) = refl

added_few : (change : PlainChange) → count_added change ≤ 1
added_few (Add rule) = omega arith
added_few (Drop name) = omega arith
added_few (Env key value) = omega arith

-- what was made of a script so far, and what is left of it
pub record NumberedSoFar (opening : List PlainRule) (script : List PlainTimed) (rules : List PlainRule) (made : List Timed) (rest : List PlainTimed) : Type 0 where
  pub added : rules ++ added_rules rest ≡ opening ++ added_rules script
  pub numbers : made ++ numbered (length rules) rest ≡ numbered (length opening) script
  pub few : length rules + length rest ≤ length opening + length script

module _ (opening : List PlainRule) (script : List PlainTimed) where
  pub none_numbered : NumberedSoFar opening script opening [] script
  none_numbered = record { added = refl; numbers = refl; few = omega arith }

  pub one_numbered : (rules new_rules : List PlainRule) (made new_made : List Timed) (timed : PlainTimed) (rest : List PlainTimed) → NumberedSoFar opening script rules made (timed ∷ rest) → new_rules ≡ rules ++ with_added timed.change []
      → new_made ≡ made ++ record { after = timed.after; change = numbered_change (length rules) timed.change } ∷ [] → NumberedSoFar opening script new_rules new_made rest
  one_numbered rules new_rules made new_made timed rest so_far adds makes =
      let one : Timed = record { after = timed.after; change = numbered_change (length rules) timed.change } in
      let count : length new_rules ≡ length rules + count_added timed.change = ap length adds ∙ length-append rules (with_added timed.change []) ∙ ap (λ n. length rules + n) (added_count timed.change) in
      let most = added_few timed.change in
      let before = so_far.few in
      record {
        added = ap (λ list. list ++ added_rules rest) adds ∙ append_assoc rules (with_added timed.change []) (added_rules rest) ∙ ap (λ list. rules ++ list) (added_alone timed.change (added_rules rest)) ∙ so_far.added;
        numbers = ap (λ list. list ++ numbered (length new_rules) rest) makes ∙ append_assoc made (one ∷ []) (numbered (length new_rules) rest) ∙ ap (λ n. made ++ one ∷ numbered n rest) count ∙ so_far.numbers;
        few = omega arith;
      }

  pub all_numbered : (rules : List PlainRule) (made : List Timed) → NumberedSoFar opening script rules made [] → (rules ≡ opening ++ added_rules script) × (made ≡ numbered (length opening) script)
  all_numbered rules made so_far = (sym (append-nil rules) ∙ so_far.added, sym (append-nil made) ∙ so_far.numbers)
