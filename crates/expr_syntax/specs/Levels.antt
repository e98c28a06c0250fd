-- The levels of the grammar, and the operators of each.
use Rattle.std.specs.Prelude.{ℕ, Bool, true, false, Option, Some, None}
use Rattle.dioc_terms.specs.declared.expressions.Oper.{Oper}
use Rattle.dioc_terms.specs.declared.expressions.Oper.TheVariants.{Add, Sub, Mul, Div, Rem, Join, Eq, Ne, Lt, Le, Gt, Ge, And, Or}
use Rattle.aioc_tokens.specs.declared.words.Word.{Word}
use Rattle.aioc_tokens.specs.declared.words.Word.TheVariants as word
use Rattle.aioc_tokens.specs.declared.words.Punctuator.{Punctuator}
use Rattle.aioc_tokens.specs.declared.words.Punctuator.TheVariants.{EqualEqual, NotEqual, Less, LessEqual, Greater, GreaterEqual, Plus, PlusPlus, Minus, Star, Slash, Percent}
use Rattle.aioc_tokens.specs.declared.words.Sort.{Sort}
use Rattle.aioc_tokens.specs.declared.words.Sort.TheVariants.{Reserved, Symbol}
use Rattle.expr_syntax.specs.declared.levels.ExprKind.{ExprKind}
use Rattle.expr_syntax.specs.declared.levels.ExprKind.TheVariants.{Step, Condition}
use Rattle.expr_syntax.specs.declared.levels.Level.{Level}
use Rattle.expr_syntax.specs.declared.levels.Level.TheVariants.{Disjunction, Conjunction, Negation, Comparison, Sum, Product, Unary}

-- the levels where any number of operators may follow one another
abbrev pub is_chain : Level → Bool
is_chain Disjunction = true
is_chain Conjunction = true
is_chain Sum = true
is_chain Product = true
is_chain _ = false

-- the level of an operand
abbrev pub tighter : Level → Level
tighter Disjunction = Conjunction
tighter Conjunction = Negation
tighter Negation = Comparison
tighter Comparison = Sum
tighter Sum = Product
tighter Product = Unary
tighter Unary = Unary

abbrev pub disjunction : Word → Option Oper
disjunction word.Or = Some Or
disjunction _ = None

abbrev pub conjunction : Word → Option Oper
conjunction word.And = Some And
conjunction _ = None

abbrev pub comparison : Punctuator → Option Oper
comparison EqualEqual = Some Eq
comparison NotEqual = Some Ne
comparison Less = Some Lt
comparison LessEqual = Some Le
comparison Greater = Some Gt
comparison GreaterEqual = Some Ge
comparison _ = None

-- a condition joins no texts
abbrev pub joining : ExprKind → Option Oper
joining Step = Some Join
joining Condition = None

abbrev pub addition : ExprKind → Punctuator → Option Oper
addition kind Plus = Some Add
addition kind Minus = Some Sub
addition kind PlusPlus = joining kind
addition kind _ = None

abbrev pub multiplication : Punctuator → Option Oper
multiplication Star = Some Mul
multiplication Slash = Some Div
multiplication Percent = Some Rem
multiplication _ = None

-- the operator that a token is between two operands of a level
abbrev pub operator : ExprKind → Level → Sort → Option Oper
operator kind Disjunction (Reserved word) = disjunction word
operator kind Conjunction (Reserved word) = conjunction word
operator kind Comparison (Symbol punctuator) = comparison punctuator
operator kind Sum (Symbol punctuator) = addition kind punctuator
operator kind Product (Symbol punctuator) = multiplication punctuator
operator kind level _ = None

-- the level between whose operands a symbol is an operator
abbrev pub joined_by : ExprKind → Punctuator → Option Level
joined_by kind EqualEqual = Some Comparison
joined_by kind NotEqual = Some Comparison
joined_by kind Less = Some Comparison
joined_by kind LessEqual = Some Comparison
joined_by kind Greater = Some Comparison
joined_by kind GreaterEqual = Some Comparison
joined_by kind Plus = Some Sum
joined_by kind Minus = Some Sum
joined_by Step PlusPlus = Some Sum
joined_by kind Star = Some Product
joined_by kind Slash = Some Product
joined_by kind Percent = Some Product
joined_by kind _ = None

-- the level between whose operands a token is an operator
abbrev pub joined_level : ExprKind → Sort → Option Level
joined_level kind (Reserved word.Or) = Some Disjunction
joined_level kind (Reserved word.And) = Some Conjunction
joined_level kind (Symbol punctuator) = joined_by kind punctuator
joined_level kind _ = None

-- how loosely a level binds: its operands bind less loosely
abbrev pub looseness : Level → ℕ
looseness Disjunction = 6
looseness Conjunction = 5
looseness Negation = 4
looseness Comparison = 3
looseness Sum = 2
looseness Product = 1
looseness Unary = 0

-- the levels where no `not` may stand first
abbrev pub is_inside : Level → Bool
is_inside Comparison = true
is_inside Sum = true
is_inside Product = true
is_inside Unary = true
is_inside _ = false
