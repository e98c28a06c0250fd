-- The text of a rule, byte by byte.
use Rattle.std.specs.Prelude.{ℕ, zero, List, [], ◌++◌, codes, ℤ, pos}
use Rattle.dioc_terms.specs.Expressions.{Expression}
use Rattle.dioc_terms.specs.Terms.{Term}
use Rattle.dioc_terms.specs.Plain.{PlainRule}
use Rattle.aioc_tokens.specs.Spelling.{spelled}
use Rattle.expr_syntax.specs.Writing.{written_integer}
use Rattle.dioc_syntax.specs.Pieces.{expression_text}
use Rattle.dioc_syntax.specs.Writing.{written as written_choreography}

abbrev pub priority_text : ℤ → List ℕ
priority_text (pos zero) = []
priority_text n = codes " priority " ++ spelled (written_integer n [])

abbrev pub head_text : PlainRule → List ℕ
head_text rule = codes "rule " ++ rule.name ++ priority_text rule.priority

abbrev pub condition_text : Expression → List ℕ
condition_text cond = codes " { on { " ++ expression_text cond ++ codes " }"

abbrev pub body_text : Term → List ℕ
body_text body = codes " do { " ++ spelled (written_choreography body []) ++ codes " } }"

abbrev pub rule_text : PlainRule → List ℕ
rule_text rule = head_text rule ++ condition_text rule.cond ++ body_text rule.body
