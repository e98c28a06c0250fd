-- The conditions of formed rules join no texts.
use Rattle.std.proofs.Common.{◌≡◌, ℕ, zero, suc, List, [], ◌∷◌, true, Some, All, refl, slice_get, subst}
use Rattle.std.proofs.lemmas.Bool.{and_from, and_parts}
use Rattle.std.proofs.lemmas.List.Elements.{recursion_from_All}
use Rattle.std.specs.List.{AllByRecursion, list_all}
use Rattle.dioc_terms.specs.Bundles.{IsFormedRule}
use Rattle.dioc_terms.specs.Conditions.{ConditionsJoinNothing, has_no_join}
use Rattle.dioc_terms.specs.Plain.{PlainRule}
use Rattle.global_follower.specs.Conditions.{joins_nothing}

each_joins_nothing : ConditionsJoinNothing → (rules : List PlainRule)
    → AllByRecursion IsFormedRule rules → list_all joins_nothing rules ≡ true
each_joins_nothing law [] formed = refl
each_joins_nothing law (rule ∷ rules) formed =
    and_from (has_no_join rule.cond) _ (law rule.cond (and_parts _ _ formed.0.condition).0)
    (each_joins_nothing law rules formed.1)

pub formed_join_nothing : (rules : List PlainRule) → ConditionsJoinNothing
    → All IsFormedRule rules → list_all joins_nothing rules ≡ true
formed_join_nothing rules law formed =
    each_joins_nothing law rules (recursion_from_All IsFormedRule rules formed)

-- the condition of one of them
pub no_join_at : (rules : List PlainRule) (n : ℕ) (rule : PlainRule)
    → list_all joins_nothing rules ≡ true → slice_get rules n ≡ Some rule
    → has_no_join rule.cond ≡ true
no_join_at [] n rule all at = cc
no_join_at (first ∷ rules) zero rule all at =
    let same : first ≡ rule = cc in
    subst (λ (r : PlainRule). has_no_join r.cond ≡ true) same (and_parts (has_no_join first.cond) _ all).0
no_join_at (first ∷ rules) (suc n) rule all at =
    no_join_at rules n rule (and_parts (has_no_join first.cond) _ all).1 at
