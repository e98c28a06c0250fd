use Rattle.std.proofs.Common.{◌≡◌, ◌<◌, ◌∙◌, ℕ, List, All, ap, get_or, length, map, nat_le, refl, rules, subst, sym}
use Rattle.std.proofs.lemmas.Bool.{and_parts}
use Rattle.std.proofs.lemmas.Int.{to_z-of_z}
use Rattle.std.proofs.lemmas.List.{get_or-map, length-map}
use Rattle.std.proofs.lemmas.Option.{slice_get_read, slice_get-map}
use Rattle.std.specs.Int.RustNames.{FitsSigned}
use Rattle.std.specs.Int.{w32}
use Rattle.std.specs.Option.{option_map}
use Rattle.dioc_terms.specs.declared.bundles.Rule.{Rule}
use Rattle.dioc_terms.specs.Bundles.{IsFormedRule, is_condition}
use Rattle.dioc_terms.specs.Conditions.{has_no_join}
use Rattle.dioc_terms.specs.Expressions.{expression, expression_depth}
use Rattle.limits.specs.Limits.{most_expression_depth}
use Rattle.dioc_terms.specs.Plain.{plain_rule}
use Rattle.rule_book.proofs.keeping.keep_rule.Goals as goal

-- each of formed rules is formed
formed_at : (rules : List Rule) (i : ℕ) (rule : Rule) → All IsFormedRule (map plain_rule rules) → i < length rules → rule ≡ get_or rules i rule
    → IsFormedRule (plain_rule rule)
formed_at rules i rule all inside at =
    subst IsFormedRule (get_or-map plain_rule rules i rule (plain_rule rule) inside ∙ ap plain_rule (sym at))
    (all i (plain_rule rule) (subst (λ n. i < n) (sym (length-map rules plain_rule)) inside))

pub invariant_of-kept : goal.invariant_of-kept
invariant_of-kept c =
    let rule = c.index-rules-number.result in
    let formed = formed_at c.args.rules.now c.args.number rule c.requires.formed c.requires.there c.index-rules-number.is in
    record {
      no_join =
          ap has_no_join c.in_ok-cond.ensures
          ∙ c.conditions_join_nothing.ensures (expression rule.cond)
          (and_parts (is_condition (expression rule.cond)) (nat_le (expression_depth (expression rule.cond)) most_expression_depth) formed.condition).0;
      asks = c.in_ok-wanted.ensures;
    }

pub returns-clause-kept : goal.returns-clause-kept
returns-clause-kept c =
    let rule = c.index-rules-number.result in
    let fits : FitsSigned w32 rule.priority = search rules in
    record {
      rule = plain_rule rule;
      at =
          slice_get-map plain_rule c.args.rules.now c.args.number
          ∙ ap (option_map plain_rule) (slice_get_read c.args.rules.now (length c.args.rules.now) c.args.number rule refl c.requires.there c.index-rules-number.is);
      named = c.in_ok-name.ensures;
      priority = to_z-of_z w32 rule.priority fits;
      condition = c.in_ok-cond.ensures;
      roles = c.in_ok-roles.ensures;
    }
