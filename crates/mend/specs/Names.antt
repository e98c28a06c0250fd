-- The names of a choreography in the order of its text, and those that mending takes for itself.
use Rattle.std.specs.Prelude.{ℕ, List, [], ◌∷◌, ◌++◌, Bool, ◌==◌, codes, decimal, Option, find}
use Rattle.std.specs.List.{starts_with}
use Rattle.dioc_terms.specs.Expressions.{Expression, Const, Var, Prop, Env, Not, Neg, Bin}
use Rattle.dioc_terms.specs.Terms.{Term, Skip, Com, Set, Input, Seq, Par, If, While, Scope}

-- whether a name begins with `sq_`
abbrev pub begins_sq : List ℕ → Bool
begins_sq name = starts_with (λ a b. a == b) name (codes "sq_")

-- the operation of the added message of that number
abbrev pub sq_name : ℕ → List ℕ
sq_name n = codes "sq_" ++ decimal n

-- the variables of an expression, each time that its text names one
abbrev pub variables_of : Expression → List (List ℕ)
variables_of (Const v) = []
variables_of (Var x) = x ∷ []
variables_of (Prop x) = []
variables_of (Env x) = []
variables_of (Not e) = variables_of e
variables_of (Neg e) = variables_of e
variables_of (Bin op a b) = variables_of a ++ variables_of b

-- the operations and variables of a term, each time that its text names one
abbrev pub names_in : Term → List (List ℕ)
names_in Skip = []
names_in (Com i o a e b x) = o ∷ (variables_of e ++ x ∷ [])
names_in (Set i x r e) = x ∷ variables_of e
names_in (Input i x r) = x ∷ []
names_in (Seq I J) = names_in I ++ names_in J
names_in (Par I J) = names_in I ++ names_in J
names_in (If i r g I J) = variables_of g ++ (names_in I ++ names_in J)
names_in (While i r g I) = variables_of g ++ names_in I
names_in (Scope i r I extra props level) = names_in I

-- the first name of a term that begins with `sq_`
abbrev pub taken_name : Term → Option (List ℕ)
taken_name I = find begins_sq (names_in I)

-- the first variable of an expression that does
abbrev pub taken_variable : Expression → Option (List ℕ)
taken_variable e = find begins_sq (variables_of e)
