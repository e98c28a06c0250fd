-- Expressions, without where they lie in memory.
use Rattle.std.specs.Prelude.{ℕ, List, suc, max}
use Rattle.dioc_terms.specs.declared.values.Value.{Value}
use Rattle.dioc_terms.specs.declared.expressions.Oper.{Oper}
use Rattle.dioc_terms.specs.declared.expressions.Expr.{Expr}
use Rattle.dioc_terms.specs.declared.expressions.Expr as expr

pub data Expression : Type 0 where
  Const : Value → Expression
  Var : List ℕ → Expression
  Prop : List ℕ → Expression
  Env : List ℕ → Expression
  Not : Expression → Expression
  Neg : Expression → Expression
  Bin : Oper → Expression → Expression → Expression

-- the expression that a program's value stands for
abbrev pub expression : Expr → Expression
expression (expr.Const v) = Const v
expression (expr.Var x) = Var x
expression (expr.Prop x) = Prop x
expression (expr.Env x) = Env x
expression (expr.Not' _ e) = Not (expression e)
expression (expr.Neg' _ e) = Neg (expression e)
expression (expr.Bin' op _ a _ b) = Bin op (expression a) (expression b)

-- the depth of the tree: a leaf has 1
abbrev pub expression_depth : Expression → ℕ
expression_depth (Not e) = suc (expression_depth e)
expression_depth (Neg e) = suc (expression_depth e)
expression_depth (Bin op a b) = suc (max (expression_depth a) (expression_depth b))
expression_depth _ = 1
