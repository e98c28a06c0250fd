-- Expressions that join no texts, and so are evaluated without memory. The condition of a rule is
-- one.
use Rattle.std.specs.Prelude.{◌≡◌, Bool, true, ◌&&◌, not}
use Rattle.dioc_terms.specs.Bundles.{joins, is_condition}
use Rattle.dioc_terms.specs.Expressions.{Expression, Not, Neg, Bin}

abbrev pub has_no_join : Expression → Bool
has_no_join (Not e) = has_no_join e
has_no_join (Neg e) = has_no_join e
has_no_join (Bin op a b) = not (joins op) && has_no_join a && has_no_join b
has_no_join _ = true

abbrev pub ConditionsJoinNothing : Type 0
ConditionsJoinNothing = (e : Expression) → is_condition e ≡ true → has_no_join e ≡ true
