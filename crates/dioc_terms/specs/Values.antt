-- What expressions give. Evaluation is total: where an operator has no value, its value is Nil.
use Rattle.std.specs.Prelude.{ℕ, ◌+◌, List, [], ◌∷◌, ◌++◌, length, Bool, false, ◌&&◌, ◌||◌, not, nat_le, if◌then◌else◌, ℤ, pos, negsuc, ◌+ℤ◌, ◌-ℤ◌, ◌*ℤ◌, neg_ℤ, int_lt, int_le, int_div, int_rem}
use Rattle.std.specs.Ordering.{int_eq, is_lt, nat_cmp}
use Rattle.std.specs.Cmp.Lexicographic.{slice_cmp}
use Rattle.limits.specs.Limits.{largest, most_text_bytes}
use Rattle.dioc_terms.specs.declared.values.Value.{Value}
use Rattle.dioc_terms.specs.declared.values.Value.TheVariants as value
use Rattle.dioc_terms.specs.declared.values.Value.TheVariants.{Nil, Int, Text}
use Rattle.dioc_terms.specs.declared.expressions.Oper.{Oper}
use Rattle.dioc_terms.specs.declared.expressions.Oper.TheVariants.{Add, Sub, Mul, Div, Rem, Join, Eq, Ne, Lt, Le, Gt, Ge, And, Or}
use Rattle.dioc_terms.specs.Equality.{value_eq, name_eq}
use Rattle.dioc_terms.specs.Expressions.{Expression, Const, Var, Prop, Env, Not, Neg, Bin}
use Rattle.dioc_terms.specs.Stores.{Store, variable}

-- the whole number where it fits in 64 bits, else Nil
abbrev pub fitting : ℤ → Value
fitting z =
    if int_le (negsuc largest) z && int_le z (pos largest) then Int z else
    Nil

-- the quotient truncated toward zero, Nil for a zero divisor or where it doesn't fit
abbrev pub quotient : ℤ → ℤ → Value
quotient a b = if int_eq b (pos 0) then Nil else fitting (int_div a b)

-- the remainder with the dividend's sign, Nil for a zero divisor
abbrev pub remainder : ℤ → ℤ → Value
remainder a b = if int_eq b (pos 0) then Nil else fitting (int_rem a b)

abbrev pub joined_text : List ℕ → List ℕ → Value
joined_text a b = if nat_le (length a + length b) most_text_bytes then Text (a ++ b) else Nil

abbrev pub text_lt : List ℕ → List ℕ → Bool
text_lt a b = is_lt (slice_cmp nat_cmp a b)

-- arithmetic of two whole numbers, else Nil
abbrev pub arithmetic : (ℤ → ℤ → Value) → Value → Value → Value
arithmetic f (Int a) (Int b) = f a b
arithmetic f _ _ = Nil

-- a comparison of two whole numbers or of two texts by their bytes, else Nil
abbrev pub compared : (ℤ → ℤ → Bool) → (List ℕ → List ℕ → Bool) → Value → Value → Value
compared f g (Int a) (Int b) = value.Bool (f a b)
compared f g (Text a) (Text b) = value.Bool (g a b)
compared f g _ _ = Nil

-- a connective of two truths, else Nil: both sides count, also where one would settle it
abbrev pub connected_truths : (Bool → Bool → Bool) → Value → Value → Value
connected_truths f (value.Bool a) (value.Bool b) = value.Bool (f a b)
connected_truths f _ _ = Nil

abbrev pub join_texts : Value → Value → Value
join_texts (Text a) (Text b) = joined_text a b
join_texts _ _ = Nil

abbrev pub operate : Oper → Value → Value → Value
operate Add a b = arithmetic (λ x y. fitting (x +ℤ y)) a b
operate Sub a b = arithmetic (λ x y. fitting (x -ℤ y)) a b
operate Mul a b = arithmetic (λ x y. fitting (x *ℤ y)) a b
operate Div a b = arithmetic quotient a b
operate Rem a b = arithmetic remainder a b
operate Join a b = join_texts a b
operate Eq a b = value.Bool (value_eq a b)
operate Ne a b = value.Bool (not (value_eq a b))
operate Lt a b = compared int_lt text_lt a b
operate Le a b = compared int_le (λ x y. not (text_lt y x)) a b
operate Gt a b = compared (λ x y. int_lt y x) (λ x y. text_lt y x) a b
operate Ge a b = compared (λ x y. int_le y x) (λ x y. not (text_lt x y)) a b
operate And a b = connected_truths (λ x y. x && y) a b
operate Or a b = connected_truths (λ x y. x || y) a b

abbrev pub negated : Value → Value
negated (Int a) = fitting (neg_ℤ a)
negated _ = Nil

abbrev pub denied : Value → Value
denied (value.Bool a) = value.Bool (not a)
denied _ = Nil

-- the value of an expression, given the values of variables, properties and environment keys
abbrev pub value_in : (List ℕ → Value) → (List ℕ → Value) → (List ℕ → Value) → Expression → Value
value_in variables properties environment (Const v) = v
value_in variables properties environment (Var x) = variables x
value_in variables properties environment (Prop x) = properties x
value_in variables properties environment (Env x) = environment x
value_in variables properties environment (Not e) =
    denied (value_in variables properties environment e)
value_in variables properties environment (Neg e) =
    negated (value_in variables properties environment e)
value_in variables properties environment (Bin op a b) =
    operate op (value_in variables properties environment a)
    (value_in variables properties environment b)

-- the value of a step's expression in a role's store: a property and an environment key are Nil
abbrev pub eval : Expression → Store → Value
eval e s = value_in (variable s) (λ name. Nil) (λ name. Nil) e

-- a guard or a condition holds exactly where its value is true
abbrev pub is_true : Value → Bool
is_true (value.Bool b) = b
is_true _ = false

-- the value that the last pair of a name gives it, Nil where no pair has the name
abbrev pub bound : List (List ℕ × Value) → List ℕ → Value
bound pairs name = last_of Nil pairs
  where
    last_of : Value → List (List ℕ × Value) → Value
    last_of so_far [] = so_far
    last_of so_far (pair ∷ rest) = last_of (if name_eq pair.0 name then pair.1 else so_far) rest

-- whether a rule's condition holds
abbrev pub holds : Expression → Store → (List ℕ → Value) → (List ℕ → Value) → Bool
holds condition s properties environment =
    is_true (value_in (variable s) properties environment condition)
