-- Codes of terms and expressions, by which a proof tells apart values that hold a plain bundle.
-- Each is stored as a value of the program that stands for it, with its boxes nowhere in memory.
use Rattle.std.specs.Prelude.{◌≡◌, refl, Box}
use Rattle.std.specs.Coded.{Coded, code_by}
use Rattle.std.specs.Global.{Global}
use Rattle.dioc_terms.specs.contracts.choreographies.Choreo as choreo_contracts
use Rattle.dioc_terms.specs.contracts.expressions.Expr as expr_contracts
use Rattle.dioc_terms.specs.declared.choreographies.Choreo.{Choreo}
use Rattle.dioc_terms.specs.declared.choreographies.Choreo as choreo
use Rattle.dioc_terms.specs.declared.expressions.Expr.{Expr}
use Rattle.dioc_terms.specs.declared.expressions.Expr as expr
use Rattle.dioc_terms.specs.Expressions.{Expression, expression, Const, Var, Prop, Env, Not, Neg, Bin}
use Rattle.dioc_terms.specs.Terms.{Term, term, Skip, Com, Set, Input, Seq, Par, If, While, Scope}
use denote.RawPtr.{null_ptr}

-- a box that lies nowhere
abbrev nowhere : Box (Unit {0}) Global
nowhere = record { ptr = null_ptr; alloc = record { memory = record { seal = tt } }; value = tt }

-- a value of the program that stands for the expression
abbrev stored_expression : Expression → Expr
stored_expression (Const v) = expr.Const v
stored_expression (Var x) = expr.Var x
stored_expression (Prop x) = expr.Prop x
stored_expression (Env x) = expr.Env x
stored_expression (Not e) = expr.Not' nowhere (stored_expression e)
stored_expression (Neg e) = expr.Neg' nowhere (stored_expression e)
stored_expression (Bin op a b) =
    expr.Bin' op nowhere (stored_expression a) nowhere (stored_expression b)

pub expression_again : (e : Expression) → expression (stored_expression e) ≡ e
expression_again (Const v) = refl
expression_again (Var x) = refl
expression_again (Prop x) = refl
expression_again (Env x) = refl
expression_again (Not e) = λ i. Not (expression_again e i)
expression_again (Neg e) = λ i. Neg (expression_again e i)
expression_again (Bin op a b) = λ i. Bin op (expression_again a i) (expression_again b i)

abbrev pub expression_code : Coded Expression
expression_code =
    code_by Expr expr_contracts.the_row.coded stored_expression expression expression_again

-- a value of the program that stands for the term
abbrev stored_term : Term → Choreo
stored_term Skip = choreo.Skip
stored_term (Com i o a e b x) = choreo.Com i o a (stored_expression e) b x
stored_term (Set i x r e) = choreo.Set i x r (stored_expression e)
stored_term (Input i x r) = choreo.Input i x r
stored_term (Seq I J) = choreo.Seq' nowhere (stored_term I) nowhere (stored_term J)
stored_term (Par I J) = choreo.Par' nowhere (stored_term I) nowhere (stored_term J)
stored_term (If i r g I J) =
    choreo.If' i r (stored_expression g) nowhere (stored_term I) nowhere (stored_term J)
stored_term (While i r g I) = choreo.While' i r (stored_expression g) nowhere (stored_term I)
stored_term (Scope i r I extra props level) =
    choreo.Scope' i r nowhere (stored_term I) extra props level

pub term_again : (I : Term) → term (stored_term I) ≡ I
term_again Skip = refl
term_again (Com i o a e b x) = λ k. Com i o a (expression_again e k) b x
term_again (Set i x r e) = λ k. Set i x r (expression_again e k)
term_again (Input i x r) = refl
term_again (Seq I J) = λ k. Seq (term_again I k) (term_again J k)
term_again (Par I J) = λ k. Par (term_again I k) (term_again J k)
term_again (If i r g I J) = λ k. If i r (expression_again g k) (term_again I k) (term_again J k)
term_again (While i r g I) = λ k. While i r (expression_again g k) (term_again I k)
term_again (Scope i r I extra props level) = λ k. Scope i r (term_again I k) extra props level

abbrev pub term_code : Coded Term
term_code = code_by Choreo choreo_contracts.the_row.coded stored_term term term_again
