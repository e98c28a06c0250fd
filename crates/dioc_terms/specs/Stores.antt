-- The store of a role: its variables, and the inputs that it has left.
use Rattle.std.specs.Prelude.{ℕ, List, [], ◌∷◌, Option, Some, None, unwrap_or, if◌then◌else◌}
use Rattle.dioc_terms.specs.declared.values.Value.{Value}
use Rattle.dioc_terms.specs.declared.values.Value.TheVariants.{Nil}
use Rattle.dioc_terms.specs.Equality.{name_eq}

pub record Store : Type 0 where
  -- the value of each variable that is set
  pub variables : List ℕ → Option Value
  pub inputs : List Value

-- no variable is set
abbrev pub fresh_store : List Value → Store
fresh_store inputs = record { variables = λ name. None; inputs = inputs }

-- an unset variable is Nil
abbrev pub variable : Store → List ℕ → Value
variable s name = unwrap_or (s.variables name) Nil

abbrev pub set_variable : List ℕ → Value → Store → Store
set_variable name v s =
    record {
      variables = λ other. if name_eq other name then Some v else s.variables other;
      inputs = s.inputs;
    }

-- the next input, Nil where none is left
abbrev pub next_input : Store → Value
next_input s = first_or_nil s.inputs
  where
    first_or_nil : List Value → Value
    first_or_nil [] = Nil
    first_or_nil (v ∷ vs) = v

-- the store without its next input
abbrev pub drop_input : Store → Store
drop_input s = record { variables = s.variables; inputs = rest s.inputs }
  where
    rest : List Value → List Value
    rest [] = []
    rest (v ∷ vs) = vs
