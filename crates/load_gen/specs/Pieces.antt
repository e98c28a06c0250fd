-- The names, roles and expressions of a made bundle, and its messages.
use Rattle.std.specs.Prelude.{ℕ, ◌+◌, ◌%◌, List, [], ◌∷◌, ◌++◌, codes, decimal, pos}
use Rattle.dioc_terms.specs.declared.expressions.Oper.TheVariants.{Add, Rem, Eq}
use Rattle.dioc_terms.specs.declared.names.Role.{Role}
use Rattle.dioc_terms.specs.declared.values.Value.TheVariants.{Int}
use Rattle.dioc_terms.specs.Expressions.{Expression, Const, Var, Bin}
use Rattle.dioc_terms.specs.Terms.{Term, Com, Set, index_at}

-- a name of these letters, then the number
abbrev pub numbered_name : List ℕ → ℕ → List ℕ
numbered_name letters n = letters ++ decimal n

-- a name of these letters, then the digit; 48 is the byte of `0`
abbrev pub with_digit : List ℕ → ℕ → List ℕ
with_digit letters digit = letters ++ (48 + digit) ∷ []

-- role number j, and the number of the role after it: there are eight
abbrev pub role_numbered : ℕ → Role
role_numbered j = record { 0 = with_digit (codes "r") j }

abbrev pub next : ℕ → ℕ
next j = (j + 1) % 8

abbrev pub number_literal : ℕ → Expression
number_literal n = Const (Int (pos n))

-- the variable that is passed on from role to role
abbrev pub token : List ℕ
token = codes "t"

-- the token, with so much more, and whether it is even
abbrev pub token_plus : ℕ → Expression
token_plus n = Bin Add (Var token) (number_literal n)

abbrev pub is_even_token : Expression
is_even_token = Bin Eq (Bin Rem (Var token) (number_literal 2)) (number_literal 0)

-- the text has no indices yet: each construct has the first one
-- role number j sends to the next role, which keeps it as its token
abbrev pub sending : List ℕ → ℕ → Expression → Term
sending operation j e =
    Com (index_at 0) operation (role_numbered j) e (role_numbered (next j)) token

abbrev pub setting_variable : List ℕ → ℕ → Expression → Term
setting_variable variable j e = Set (index_at 0) variable (role_numbered j) e
