-- The grammar of expressions: what a list of lexemes reads as, from its front on.
use Rattle.std.specs.Prelude.{◌≡◌, ℕ, suc, ◌<◌, ◌≤◌, Bool, true, false, List, ◌∷◌, length, drop, Option, Some, None, option_map}
use Rattle.dioc_terms.specs.declared.values.Value.{Value}
use Rattle.dioc_terms.specs.declared.expressions.Oper.{Oper}
use Rattle.dioc_terms.specs.declared.expressions.Expr.{Expr}
use Rattle.limits.specs.Limits.{most_expression_depth}
use Rattle.dioc_terms.specs.Expressions.{Expression, Const, Var, Prop, Env, Not, Neg, Bin, expression, expression_depth}
use Rattle.aioc_tokens.specs.declared.words.Word.TheVariants as word
use Rattle.aioc_tokens.specs.declared.words.Punctuator.TheVariants as punctuator
use Rattle.aioc_tokens.specs.Lexemes.{Lexeme, Name, Number, Reserved, Symbol, sort_of}
use Rattle.aioc_tokens.specs.Fronts.{Longest, NoFront}
use Rattle.expr_syntax.specs.Constants.{constant}
use Rattle.expr_syntax.specs.Levels.{is_chain, tighter, operator}
use Rattle.expr_syntax.specs.declared.levels.ExprKind.{ExprKind}
use Rattle.expr_syntax.specs.declared.levels.ExprKind.TheVariants.{Condition}
use Rattle.expr_syntax.specs.declared.levels.Level.{Level}
use Rattle.expr_syntax.specs.declared.levels.Level.TheVariants.{Disjunction, Negation, Comparison, Sum, Unary}

abbrev pub const_before : Value × List Lexeme → Expression × List Lexeme
const_before read = (Const read.0, read.1)

-- an expression with what is left behind it
abbrev pub and_left : List Lexeme → Expression → Expression × List Lexeme
and_left others found = (found, others)

-- behind `N` or `E`: a name and what is left behind it
abbrev pub after_dot : (List ℕ → Expression) → List Lexeme → Option (Expression × List Lexeme)
after_dot make (Symbol punctuator.Dot ∷ Name name ∷ others) = Some (and_left others (make name))
after_dot make _ = None

-- A constant, a variable, or in a condition a property or a key of the environment, with what is
-- left behind it:
--   "nil" | "true" | "false" | [ "-" ] number | text | name | "N" "." name | "E" "." name
abbrev pub leaf : ExprKind → List Lexeme → Option (Expression × List Lexeme)
leaf kind (Name name ∷ others) = Some (and_left others (Var name))
leaf Condition (Reserved word.N ∷ others) = after_dot Prop others
leaf Condition (Reserved word.E ∷ others) = after_dot Env others
leaf kind from = option_map const_before (constant from)

abbrev pub begins_with_number : List Lexeme → Bool
begins_with_number (Number digits ∷ others) = true
begins_with_number _ = false

mutual
  -- From the list `from` up to its rest `to` stands this expression of a level; as many brackets as
  -- `room` may be open in it at once.
  pub data Reads (kind : ExprKind) :
      Level → ℕ → List Lexeme → Expression → List Lexeme → Type 0 where
    -- expr = conj { "or" conj }                       conj = neg { "and" neg }
    -- sum = prod { ( "+" | "-" | "++" ) prod }        prod = unary { ( "*" | "/" | "%" ) unary }
    chain : {level : Level} {room : ℕ} {from middle to : List Lexeme} {first whole : Expression}
        → is_chain level ≡ true
        → Reads kind (tighter level) room from first middle
        → Follows kind level room first middle whole to
        → Reads kind level room from whole to
    -- neg = "not" neg | comp
    denied : {room : ℕ} {from inside to : List Lexeme} {inner : Expression}
        → from ≡ Reserved word.Not ∷ inside
        → Reads kind Negation room inside inner to
        → Reads kind Negation room from (Not inner) to
    not_denied : {room : ℕ} {from to : List Lexeme} {inner : Expression}
        → Reads kind Comparison room from inner to
        → Reads kind Negation room from inner to
    -- comp = sum [ ( "==" | "!=" | "<" | "<=" | ">" | ">=" ) sum ]
    alone : {room : ℕ} {from to : List Lexeme} {inner : Expression}
        → Reads kind Sum room from inner to
        → Reads kind Comparison room from inner to
    compared : {room : ℕ} {from middle to : List Lexeme} {left right : Expression} {oper : Oper}
        → Reads kind Sum room from left middle
        → operator kind Comparison (sort_of middle) ≡ Some oper
        → Reads kind Sum room (drop 1 middle) right to
        → Reads kind Comparison room from (Bin oper left right) to
    -- unary = "-" number | "-" unary | atom, where no number stands behind the `-` of "-" unary
    -- atom = "nil" | "true" | "false" | number | text | name | "N" "." name | "E" "." name
    --      | "(" expr ")"
    single : {room : ℕ} {from to : List Lexeme} {inner : Expression}
        → leaf kind from ≡ Some (and_left to inner)
        → Reads kind Unary room from inner to
    negated : {room : ℕ} {from inside to : List Lexeme} {inner : Expression}
        → from ≡ Symbol punctuator.Minus ∷ inside
        → begins_with_number inside ≡ false
        → Reads kind Unary room inside inner to
        → Reads kind Unary room from (Neg inner) to
    bracketed : {room left : ℕ} {from inside middle to : List Lexeme} {inner : Expression}
        → room ≡ suc left
        → from ≡ Symbol punctuator.LeftParen ∷ inside
        → Reads kind Disjunction left inside inner middle
        → middle ≡ Symbol punctuator.RightParen ∷ to
        → Reads kind Unary room from inner to

  -- Behind the expression `first` operators of a level follow, each with an operand; with them,
  -- grouped to the left, it is `whole`.
  pub data Follows (kind : ExprKind) :
      Level → ℕ → Expression → List Lexeme → Expression → List Lexeme → Type 0 where
    ended : {level : Level} {room : ℕ} {first : Expression} {to : List Lexeme}
        → Follows kind level room first to first to
    more : {level : Level} {room : ℕ} {from middle to : List Lexeme}
        {first second whole : Expression} {oper : Oper}
        → operator kind level (sort_of from) ≡ Some oper
        → Reads kind (tighter level) room (drop 1 from) second middle
        → Follows kind level room (Bin oper first second) middle whole to
        → Follows kind level room first from whole to

-- From the list `from` up to its rest `to` stands this expression of a level, and it is not deeper
-- than this.
pub record IsShallow (kind : ExprKind) (level : Level) (room deep : ℕ) (from : List Lexeme)
    (whole : Expression) (to : List Lexeme) : Type 0 where
  pub reads : Reads kind level room from whole to
  pub shallow : expression_depth whole ≤ deep

-- From the list `from` up to its rest `to` stands this expression of the grammar; as many brackets
-- as `room` may be open in it at once.
abbrev pub IsExpression : ExprKind → ℕ → List Lexeme → Expression → List Lexeme → Type 0
IsExpression kind room from whole to =
    IsShallow kind Disjunction room most_expression_depth from whole to

-- the longest expression that stands at a place of the text, and the place behind it
pub record ReadsAt (kind : ExprKind) (room : ℕ) (text : List Lexeme) (at : ℕ) (found : Expression)
    (next : ℕ) : Type 0 where
  pub front : Longest (IsExpression kind room (drop at text)) found (drop next text)
  pub after : at < next
  pub within : next ≤ length text

-- what a reader answers: nothing where no expression stands at this place, else the longest one and
-- the place behind it
abbrev pub ExpressionAt : ExprKind → ℕ → List Lexeme → ℕ → Option (Expr × ℕ) → Type 0
ExpressionAt kind room text at None = NoFront (IsExpression kind room (drop at text))
ExpressionAt kind room text at (Some read) = ReadsAt kind room text at (expression read.0) read.1
