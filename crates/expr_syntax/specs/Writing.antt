-- How expressions are written.
use Rattle.std.specs.Prelude.{suc, Bool, true, false, List, ◌∷◌, decimal, ℤ, pos, negsuc}
use Rattle.dioc_terms.specs.declared.values.Value.{Value}
use Rattle.dioc_terms.specs.declared.values.Value.TheVariants as value
use Rattle.dioc_terms.specs.declared.expressions.Oper.{Oper}
use Rattle.dioc_terms.specs.declared.expressions.Oper.TheVariants.{Add, Sub, Mul, Div, Rem, Join, Eq, Ne, Lt, Le, Gt, Ge, And, Or}
use Rattle.dioc_terms.specs.Expressions.{Expression, Const, Var, Prop, Env, Not, Neg, Bin}
use Rattle.aioc_tokens.specs.declared.words.Word.TheVariants as word
use Rattle.aioc_tokens.specs.declared.words.Punctuator.TheVariants as punctuator
use Rattle.aioc_tokens.specs.Lexemes.{Lexeme, Name, Number, Text, Reserved, Symbol}

-- an operand of `not` and of a two-sided operator stands in brackets where it is one of these
abbrev pub is_compound : Expression → Bool
is_compound (Not e) = true
is_compound (Neg e) = true
is_compound (Bin oper a b) = true
is_compound _ = false

abbrev pub operator_lexeme : Oper → Lexeme
operator_lexeme Add = Symbol punctuator.Plus
operator_lexeme Sub = Symbol punctuator.Minus
operator_lexeme Mul = Symbol punctuator.Star
operator_lexeme Div = Symbol punctuator.Slash
operator_lexeme Rem = Symbol punctuator.Percent
operator_lexeme Join = Symbol punctuator.PlusPlus
operator_lexeme Eq = Symbol punctuator.EqualEqual
operator_lexeme Ne = Symbol punctuator.NotEqual
operator_lexeme Lt = Symbol punctuator.Less
operator_lexeme Le = Symbol punctuator.LessEqual
operator_lexeme Gt = Symbol punctuator.Greater
operator_lexeme Ge = Symbol punctuator.GreaterEqual
operator_lexeme And = Reserved word.And
operator_lexeme Or = Reserved word.Or

-- the lexemes of a number, a `-` before it where it is negative, and those that follow
abbrev pub written_integer : ℤ → List Lexeme → List Lexeme
written_integer (pos n) others = Number (decimal n) ∷ others
written_integer (negsuc n) others = Symbol punctuator.Minus ∷ Number (decimal (suc n)) ∷ others

abbrev pub written_truth : Bool → Lexeme
written_truth true = Reserved word.True
written_truth false = Reserved word.False

abbrev pub written_value : Value → List Lexeme → List Lexeme
written_value value.Nil others = Reserved word.Nil ∷ others
written_value (value.Bool b) others = written_truth b ∷ others
written_value (value.Int z) others = written_integer z others
written_value (value.Text bytes) others = Text bytes ∷ others

-- a bracket where one is needed, and what follows
abbrev pub with_open : Bool → List Lexeme → List Lexeme
with_open true others = Symbol punctuator.LeftParen ∷ others
with_open false others = others

abbrev pub with_close : Bool → List Lexeme → List Lexeme
with_close true others = Symbol punctuator.RightParen ∷ others
with_close false others = others

-- the lexemes of an expression, and those that follow
abbrev pub written : Expression → List Lexeme → List Lexeme
written (Const v) others = written_value v others
written (Var x) others = Name x ∷ others
written (Prop x) others = Reserved word.N ∷ Symbol punctuator.Dot ∷ Name x ∷ others
written (Env x) others = Reserved word.E ∷ Symbol punctuator.Dot ∷ Name x ∷ others
written (Not e) others =
    Reserved word.Not ∷ with_open (is_compound e) (written e (with_close (is_compound e) others))
written (Neg e) others =
    Symbol punctuator.Minus ∷ Symbol punctuator.LeftParen
    ∷ written e (Symbol punctuator.RightParen ∷ others)
written (Bin oper a b) others =
    with_open (is_compound a) (written a (with_close (is_compound a) (operator_lexeme oper
    ∷ with_open (is_compound b) (written b (with_close (is_compound b) others)))))
