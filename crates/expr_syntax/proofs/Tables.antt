-- Which tokens can go on behind an expression of a level.
use Rattle.std.proofs.Common.{◌≡◌, ◌≢◌, ℕ, suc, ◌≤◌, zero, Bool, true, false, ◌||◌, Option, Some, None, refl, sym, ◌∙◌, ap, arith}
use Rattle.std.specs.Option.{is_some}
use Rattle.dioc_terms.specs.declared.expressions.Oper.{Oper}
use Rattle.aioc_tokens.specs.declared.words.Word.{Word}
use Rattle.aioc_tokens.specs.declared.words.Word.TheVariants as word
use Rattle.aioc_tokens.specs.declared.words.Punctuator.{Punctuator}
use Rattle.aioc_tokens.specs.declared.words.Punctuator.TheVariants as punctuator
use Rattle.aioc_tokens.specs.declared.words.Sort.{Sort}
use Rattle.aioc_tokens.specs.declared.words.Sort.TheVariants as sorts
use Rattle.expr_syntax.specs.Levels.{tighter, disjunction, conjunction, comparison, addition, multiplication, operator, is_inside, is_chain, joined_by, joined_level, looseness}
use Rattle.expr_syntax.specs.declared.levels.ExprKind.{ExprKind}
use Rattle.expr_syntax.specs.declared.levels.ExprKind.TheVariants.{Step, Condition}
use Rattle.expr_syntax.specs.declared.levels.Level.{Level}
use Rattle.expr_syntax.specs.declared.levels.Level.TheVariants.{Disjunction, Conjunction, Negation, Comparison, Sum, Product, Unary}

abbrev is_operator : ExprKind → Level → Sort → Bool
is_operator kind level sort = is_some (operator kind level sort)

abbrev sum_goes : ExprKind → Sort → Bool
sum_goes kind sort = is_operator kind Sum sort || is_operator kind Product sort

abbrev comparison_goes : ExprKind → Sort → Bool
comparison_goes kind sort = is_operator kind Comparison sort || sum_goes kind sort

abbrev conjunction_goes : ExprKind → Sort → Bool
conjunction_goes kind sort = is_operator kind Conjunction sort || comparison_goes kind sort

-- an operator of the level or of a tighter one
abbrev pub goes : ExprKind → Level → Sort → Bool
goes kind Disjunction sort = is_operator kind Disjunction sort || conjunction_goes kind sort
goes kind Conjunction sort = conjunction_goes kind sort
goes kind Negation sort = comparison_goes kind sort
goes kind Comparison sort = comparison_goes kind sort
goes kind Sum sort = sum_goes kind sort
goes kind Product sort = is_operator kind Product sort
goes kind Unary sort = false

or_left : (a b : Bool) → a ≡ true → a || b ≡ true
or_left true b is = refl
or_left false b is = absurd cc

or_right : (a b : Bool) → b ≡ true → a || b ≡ true
or_right true b is = refl
or_right false b is = is

-- what goes on behind an operand goes on behind the whole
pub goes_tighter : (kind : ExprKind) (level : Level) (sort : Sort) → goes kind (tighter level) sort ≡ true → goes kind level sort ≡ true
goes_tighter kind Disjunction sort is = or_right (is_operator kind Disjunction sort) (conjunction_goes kind sort) is
goes_tighter kind Conjunction sort is = or_right (is_operator kind Conjunction sort) (comparison_goes kind sort) is
goes_tighter kind Negation sort is = is
goes_tighter kind Comparison sort is = or_right (is_operator kind Comparison sort) (sum_goes kind sort) is
goes_tighter kind Sum sort is = or_right (is_operator kind Sum sort) (is_operator kind Product sort) is
goes_tighter kind Product sort is = absurd cc
goes_tighter kind Unary sort is = is

found_operator : (kind : ExprKind) (level : Level) (sort : Sort) (oper : Oper) → operator kind level sort ≡ Some oper → is_operator kind level sort ≡ true
found_operator kind level sort oper is = ap is_some is

-- an operator goes on
pub operator_goes : (kind : ExprKind) (level : Level) (sort : Sort) (oper : Oper) → operator kind level sort ≡ Some oper → goes kind level sort ≡ true
operator_goes kind Disjunction sort oper is = or_left (is_operator kind Disjunction sort) (conjunction_goes kind sort) (found_operator kind Disjunction sort oper is)
operator_goes kind Conjunction sort oper is = or_left (is_operator kind Conjunction sort) (comparison_goes kind sort) (found_operator kind Conjunction sort oper is)
operator_goes kind Negation (sorts.Reserved first) oper is = absurd cc
operator_goes kind Negation (sorts.Symbol first) oper is = absurd cc
operator_goes kind Negation _ oper is = absurd cc
operator_goes kind Comparison sort oper is = or_left (is_operator kind Comparison sort) (sum_goes kind sort) (found_operator kind Comparison sort oper is)
operator_goes kind Sum sort oper is = or_left (is_operator kind Sum sort) (is_operator kind Product sort) (found_operator kind Sum sort oper is)
operator_goes kind Product sort oper is = found_operator kind Product sort oper is
operator_goes kind Unary (sorts.Reserved first) oper is = absurd cc
operator_goes kind Unary (sorts.Symbol first) oper is = absurd cc
operator_goes kind Unary _ oper is = absurd cc

disjunction_stops : (kind : ExprKind) (first : Word) (oper : Oper) → disjunction first ≡ Some oper → conjunction_goes kind (sorts.Reserved first) ≡ false
disjunction_stops kind word.Or oper is = refl
disjunction_stops kind _ oper is = absurd cc

conjunction_stops : (kind : ExprKind) (first : Word) (oper : Oper) → conjunction first ≡ Some oper → comparison_goes kind (sorts.Reserved first) ≡ false
conjunction_stops kind first oper is = refl

comparison_stops : (kind : ExprKind) (first : Punctuator) (oper : Oper) → comparison first ≡ Some oper → sum_goes kind (sorts.Symbol first) ≡ false
comparison_stops kind punctuator.EqualEqual oper is = refl
comparison_stops kind punctuator.NotEqual oper is = refl
comparison_stops kind punctuator.Less oper is = refl
comparison_stops kind punctuator.LessEqual oper is = refl
comparison_stops kind punctuator.Greater oper is = refl
comparison_stops kind punctuator.GreaterEqual oper is = refl
comparison_stops kind _ oper is = absurd cc

addition_stops : (kind : ExprKind) (first : Punctuator) (oper : Oper) → addition kind first ≡ Some oper → is_operator kind Product (sorts.Symbol first) ≡ false
addition_stops kind punctuator.Plus oper is = refl
addition_stops kind punctuator.Minus oper is = refl
addition_stops kind punctuator.PlusPlus oper is = refl
addition_stops kind _ oper is = absurd cc

-- but not behind an operand
pub operator_stops : (kind : ExprKind) (level : Level) (sort : Sort) (oper : Oper) → operator kind level sort ≡ Some oper → goes kind (tighter level) sort ≡ false
operator_stops kind Disjunction (sorts.Reserved first) oper is = disjunction_stops kind first oper is
operator_stops kind Conjunction (sorts.Reserved first) oper is = conjunction_stops kind first oper is
operator_stops kind Comparison (sorts.Symbol first) oper is = comparison_stops kind first oper is
operator_stops kind Sum (sorts.Symbol first) oper is = addition_stops kind first oper is
operator_stops kind Product (sorts.Symbol first) oper is = refl
operator_stops kind Disjunction (sorts.Symbol first) oper is = absurd cc
operator_stops kind Conjunction (sorts.Symbol first) oper is = absurd cc
operator_stops kind Comparison (sorts.Reserved first) oper is = absurd cc
operator_stops kind Sum (sorts.Reserved first) oper is = absurd cc
operator_stops kind Product (sorts.Reserved first) oper is = absurd cc
operator_stops kind Negation (sorts.Reserved first) oper is = absurd cc
operator_stops kind Negation (sorts.Symbol first) oper is = absurd cc
operator_stops kind Unary (sorts.Reserved first) oper is = absurd cc
operator_stops kind Unary (sorts.Symbol first) oper is = absurd cc
operator_stops kind _ _ oper is = absurd cc

-- the end of the list goes on with nothing
pub end_stops : (kind : ExprKind) (level : Level) → goes kind level sorts.End ≡ false
end_stops kind Disjunction = refl
end_stops kind Conjunction = refl
end_stops kind Negation = refl
end_stops kind Comparison = refl
end_stops kind Sum = refl
end_stops kind Product = refl
end_stops kind Unary = refl

pub inside_tighter : (level : Level) → is_inside level ≡ true → is_inside (tighter level) ≡ true
inside_tighter Comparison is = refl
inside_tighter Sum is = refl
inside_tighter Product is = refl
inside_tighter Unary is = refl
inside_tighter _ is = absurd cc

-- a tighter level of one where a `not` may stand first
pub outside_looser : (level : Level) → is_inside (tighter level) ≡ false → is_inside level ≡ false
outside_looser Disjunction is = refl
outside_looser Conjunction is = refl
outside_looser Negation is = refl
outside_looser Comparison is = absurd cc
outside_looser Sum is = absurd cc
outside_looser Product is = absurd cc
outside_looser Unary is = absurd cc

pub inside_loose : (level : Level) → is_inside level ≡ true → looseness level ≤ 3
inside_loose Comparison is = omega arith
inside_loose Sum is = omega arith
inside_loose Product is = omega arith
inside_loose Unary is = omega arith
inside_loose _ is = absurd cc

pub loose_inside : (level : Level) → looseness level ≤ 3 → is_inside level ≡ true
loose_inside Comparison less = refl
loose_inside Sum less = refl
loose_inside Product less = refl
loose_inside Unary less = refl
loose_inside Disjunction less = absurd (omega arith)
loose_inside Conjunction less = absurd (omega arith)
loose_inside Negation less = absurd (omega arith)

pub outside_loose : (level : Level) → is_inside level ≡ false → 4 ≤ looseness level
outside_loose Disjunction is = omega arith
outside_loose Conjunction is = omega arith
outside_loose Negation is = omega arith
outside_loose _ is = absurd cc

pub looseness_most : (level : Level) → looseness level ≤ 6
looseness_most Disjunction = omega arith
looseness_most Conjunction = omega arith
looseness_most Negation = omega arith
looseness_most Comparison = omega arith
looseness_most Sum = omega arith
looseness_most Product = omega arith
looseness_most Unary = omega arith

pub looseness_tighter : (level : Level) (n : ℕ) → looseness level ≡ suc n → looseness (tighter level) ≡ n
looseness_tighter Disjunction n is = omega arith
looseness_tighter Conjunction n is = omega arith
looseness_tighter Negation n is = omega arith
looseness_tighter Comparison n is = omega arith
looseness_tighter Sum n is = omega arith
looseness_tighter Product n is = omega arith
looseness_tighter Unary n is = absurd (omega arith)

pub outside_up : (one two : Level) → is_inside one ≡ false → looseness one ≤ looseness two → is_inside two ≡ false
outside_up one two outside less = go (is_inside two) refl
  where
    go : (inside : Bool) → is_inside two ≡ inside → is_inside two ≡ false
    go false is = is
    go true is = absurd (let loose = inside_loose two is in let within = loose_inside one (omega arith) in cc)

-- the level of a looseness
abbrev level_of : ℕ → Level
level_of zero = Unary
level_of (suc zero) = Product
level_of (suc (suc zero)) = Sum
level_of (suc (suc (suc zero))) = Comparison
level_of (suc (suc (suc (suc zero)))) = Negation
level_of (suc (suc (suc (suc (suc zero))))) = Conjunction
level_of (suc (suc (suc (suc (suc (suc n)))))) = Disjunction

level_back : (level : Level) → level_of (looseness level) ≡ level
level_back Disjunction = refl
level_back Conjunction = refl
level_back Negation = refl
level_back Comparison = refl
level_back Sum = refl
level_back Product = refl
level_back Unary = refl

pub same_looseness : (one two : Level) → looseness one ≡ looseness two → one ≡ two
same_looseness one two same = sym (level_back one) ∙ ap level_of same ∙ level_back two

-- an operator of a level joins at it
operator_joins : (kind : ExprKind) (level : Level) (sort : Sort) (oper : Oper) → operator kind level sort ≡ Some oper → joined_level kind sort ≡ Some level
operator_joins kind Disjunction (sorts.Reserved word.Or) oper is = refl
operator_joins kind Conjunction (sorts.Reserved word.And) oper is = refl
operator_joins kind Comparison (sorts.Symbol first) oper is = comparison_joins kind first oper is
  where
    comparison_joins : (kind : ExprKind) (first : Punctuator) (oper : Oper) → comparison first ≡ Some oper → joined_by kind first ≡ Some Comparison
    comparison_joins kind punctuator.EqualEqual oper is = refl
    comparison_joins kind punctuator.NotEqual oper is = refl
    comparison_joins kind punctuator.Less oper is = refl
    comparison_joins kind punctuator.LessEqual oper is = refl
    comparison_joins kind punctuator.Greater oper is = refl
    comparison_joins kind punctuator.GreaterEqual oper is = refl
    comparison_joins kind _ oper is = absurd cc
operator_joins kind Sum (sorts.Symbol first) oper is = addition_joins kind first oper is
  where
    addition_joins : (kind : ExprKind) (first : Punctuator) (oper : Oper) → addition kind first ≡ Some oper → joined_by kind first ≡ Some Sum
    addition_joins kind punctuator.Plus oper is = refl
    addition_joins kind punctuator.Minus oper is = refl
    addition_joins Step punctuator.PlusPlus oper is = refl
    addition_joins Condition punctuator.PlusPlus oper is = absurd cc
    addition_joins kind _ oper is = absurd cc
operator_joins kind Product (sorts.Symbol first) oper is = multiplication_joins kind first oper is
  where
    multiplication_joins : (kind : ExprKind) (first : Punctuator) (oper : Oper) → multiplication first ≡ Some oper → joined_by kind first ≡ Some Product
    multiplication_joins kind punctuator.Star oper is = refl
    multiplication_joins kind punctuator.Slash oper is = refl
    multiplication_joins kind punctuator.Percent oper is = refl
    multiplication_joins kind _ oper is = absurd cc
operator_joins kind Disjunction (sorts.Symbol first) oper is = absurd cc
operator_joins kind Conjunction (sorts.Symbol first) oper is = absurd cc
operator_joins kind Comparison (sorts.Reserved first) oper is = absurd cc
operator_joins kind Sum (sorts.Reserved first) oper is = absurd cc
operator_joins kind Product (sorts.Reserved first) oper is = absurd cc
operator_joins kind Negation (sorts.Reserved first) oper is = absurd cc
operator_joins kind Negation (sorts.Symbol first) oper is = absurd cc
operator_joins kind Unary (sorts.Reserved first) oper is = absurd cc
operator_joins kind Unary (sorts.Symbol first) oper is = absurd cc
operator_joins kind _ _ oper is = absurd cc

-- a token that doesn't join at a level is no operator of it
pub unjoined : (kind : ExprKind) (level : Level) (sort : Sort) → (joined_level kind sort ≡ Some level → ⊥) → operator kind level sort ≡ None
unjoined kind level sort other = go (operator kind level sort) refl
  where
    go : (found : Option Oper) → operator kind level sort ≡ found → operator kind level sort ≡ None
    go None is = is
    go (Some oper) is = absurd (other (operator_joins kind level sort oper is))

-- where a token joins, any number of operators follow one another, or it is a comparison
pub joined_chain : (kind : ExprKind) (sort : Sort) (level : Level) → joined_level kind sort ≡ Some level → level ≢ Comparison → is_chain level ≡ true
joined_chain kind sort Disjunction is other = refl
joined_chain kind sort Conjunction is other = refl
joined_chain kind sort Sum is other = refl
joined_chain kind sort Product is other = refl
joined_chain kind sort Comparison is other = absurd (other refl)
joined_chain kind (sorts.Symbol first) Negation is other = absurd (go kind first is)
  where
    go : (kind : ExprKind) (first : Punctuator) → joined_by kind first ≡ Some Negation → ⊥
    go Step punctuator.PlusPlus is = absurd cc
    go Condition punctuator.PlusPlus is = absurd cc
    go kind _ is = absurd cc
joined_chain kind (sorts.Symbol first) Unary is other = absurd (go kind first is)
  where
    go : (kind : ExprKind) (first : Punctuator) → joined_by kind first ≡ Some Unary → ⊥
    go Step punctuator.PlusPlus is = absurd cc
    go Condition punctuator.PlusPlus is = absurd cc
    go kind _ is = absurd cc
joined_chain kind (sorts.Reserved first) Negation is other = absurd (go first is)
  where
    go : (first : Word) → joined_level kind (sorts.Reserved first) ≡ Some Negation → ⊥
    go word.Or is = absurd cc
    go word.And is = absurd cc
    go _ is = absurd cc
joined_chain kind (sorts.Reserved first) Unary is other = absurd (go first is)
  where
    go : (first : Word) → joined_level kind (sorts.Reserved first) ≡ Some Unary → ⊥
    go word.Or is = absurd cc
    go word.And is = absurd cc
    go _ is = absurd cc
joined_chain kind _ Negation is other = absurd cc
joined_chain kind _ Unary is other = absurd cc
