-- The pieces of a written expression, byte by byte.
use Rattle.std.specs.Prelude.{ℕ, Bool, List, [], ◌++◌, codes, if◌then◌else◌}
use Rattle.dioc_terms.specs.Expressions.{Expression, Const, Var, Prop, Env, Not, Neg, Bin}
use Rattle.aioc_tokens.specs.Spelling.{spelling}
use Rattle.text_pieces.specs.declared.values.Minus.TheVariants.{Apart}
use Rattle.text_pieces.specs.Pieces.{value_text}
use Rattle.expr_syntax.specs.Writing.{is_compound, operator_lexeme}

abbrev pub opening_text : Bool → List ℕ
opening_text compound = if compound then codes "( " else []

abbrev pub closing_text : Bool → List ℕ
closing_text compound = if compound then codes " )" else []

abbrev pub expression_text : Expression → List ℕ
expression_text (Const v) = value_text Apart v
expression_text (Var x) = x
expression_text (Prop x) = codes "N . " ++ x
expression_text (Env x) = codes "E . " ++ x
expression_text (Not e) =
    codes "not " ++ opening_text (is_compound e) ++ expression_text e
    ++ closing_text (is_compound e)
expression_text (Neg e) = codes "- ( " ++ expression_text e ++ codes " )"
expression_text (Bin oper a b) =
    opening_text (is_compound a) ++ expression_text a ++ closing_text (is_compound a) ++
    codes " " ++ spelling (operator_lexeme oper) ++ codes " " ++
    opening_text (is_compound b) ++ expression_text b ++ closing_text (is_compound b)
