-- An expression of the grammar goes through, up to what follows it.
use Rattle.std.proofs.Common.{◌≡◌, ℕ, ◌≤◌, Bool, true, false, List, [], ◌∷◌, Option, Some, None, option_map, if◌then◌else◌, drop, refl, sym, ap, ◌∙◌, subst, arith}
use Rattle.std.specs.Prelude.{nat_le}
use Rattle.std.specs.Str.Parse.{digits_value}
use Rattle.std.proofs.lemmas.Bool.Decides.{nat_tests}
use Rattle.dioc_terms.specs.declared.expressions.Oper.{Oper}
use Rattle.dioc_terms.specs.Expressions.{Expression, Prop, Env}
use Rattle.aioc_tokens.specs.declared.words.Word.{Word}
use Rattle.aioc_tokens.specs.declared.words.Word.TheVariants as word
use Rattle.aioc_tokens.specs.declared.words.Punctuator.{Punctuator}
use Rattle.aioc_tokens.specs.declared.words.Punctuator.TheVariants as punctuator
use Rattle.aioc_tokens.specs.Lexemes.{Lexeme, Name, Long, Number, Text, Reserved, Symbol, sort_of}
use Rattle.expr_syntax.specs.Constants.{before, number_up_to, greatest, greatest_negated, positive, negative}
use Rattle.expr_syntax.specs.Levels.{operator}
use Rattle.expr_syntax.specs.Grammar.{Reads, Follows, chain, denied, not_denied, alone, compared, single, negated, bracketed, ended, more, leaf, after_dot, and_left, const_before, begins_with_number}
use Rattle.expr_syntax.proofs.LeafFacts.{same_pair}
use Rattle.expr_syntax.specs.declared.levels.ExprKind.{ExprKind}
use Rattle.expr_syntax.specs.declared.levels.ExprKind.TheVariants as kinds
use Rattle.expr_syntax.specs.declared.levels.Level.{Level}
use Rattle.expr_syntax.specs.declared.levels.Level.TheVariants as levels
use Rattle.wanted_tokens.specs.declared.goals.Goal.{Goal}
use Rattle.wanted_tokens.specs.declared.goals.Goal.TheVariants as goal
use Rattle.wanted_tokens.specs.Looks.{look}
use Rattle.wanted_tokens.specs.declared.looks.Look.TheVariants as looks
use Rattle.wanted_tokens.specs.Goals.{dot, right_paren}
use Rattle.wanted_tokens.specs.Takings.{Takes, Stops}
use Rattle.wanted_tokens.specs.Expressions.{take_operand, take_negated as negated_goal}
use Rattle.wanted_tokens.specs.Wanted.{taking}
use Rattle.bundle_text.proofs.Through.{Through, takes, passes, same_effect}

-- ---- operators

sum_symbol : (second : Bool) (kind : ExprKind) (c : Bool) (p : Punctuator) (others : List Lexeme) (oper : Oper) → operator kind levels.Sum (sort_of (Symbol p ∷ others)) ≡ Some oper
    → taking second (goal.MoreOperands kind c) (look (Symbol p ∷ others)) ≡ Takes (goal.Operand kind c ∷ [])
sum_symbol second kind c punctuator.Plus others oper is = refl
sum_symbol second kind c punctuator.Minus others oper is = refl
sum_symbol second kinds.Step c punctuator.PlusPlus others oper is = refl
sum_symbol second kinds.Condition c punctuator.PlusPlus others oper is = absurd cc
sum_symbol second kind c _ others oper is = absurd cc

product_symbol : (second : Bool) (kind : ExprKind) (c : Bool) (p : Punctuator) (others : List Lexeme) (oper : Oper) → operator kind levels.Product (sort_of (Symbol p ∷ others)) ≡ Some oper
    → taking second (goal.MoreOperands kind c) (look (Symbol p ∷ others)) ≡ Takes (goal.Operand kind c ∷ [])
product_symbol second kind c punctuator.Star others oper is = refl
product_symbol second kind c punctuator.Slash others oper is = refl
product_symbol second kind c punctuator.Percent others oper is = refl
product_symbol second kind c _ others oper is = absurd cc

comparison_symbol : (second : Bool) (kind : ExprKind) (p : Punctuator) (others : List Lexeme) (oper : Oper) → operator kind levels.Comparison (sort_of (Symbol p ∷ others)) ≡ Some oper
    → taking second (goal.MoreOperands kind true) (look (Symbol p ∷ others)) ≡ Takes (goal.Operand kind false ∷ [])
comparison_symbol second kind punctuator.EqualEqual others oper is = refl
comparison_symbol second kind punctuator.NotEqual others oper is = refl
comparison_symbol second kind punctuator.Less others oper is = refl
comparison_symbol second kind punctuator.LessEqual others oper is = refl
comparison_symbol second kind punctuator.Greater others oper is = refl
comparison_symbol second kind punctuator.GreaterEqual others oper is = refl
comparison_symbol second kind _ others oper is = absurd cc

disjunction_word : (second : Bool) (kind : ExprKind) (c : Bool) (w : Word) (others : List Lexeme) (oper : Oper) → operator kind levels.Disjunction (sort_of (Reserved w ∷ others)) ≡ Some oper
    → taking second (goal.MoreOperands kind c) (look (Reserved w ∷ others)) ≡ Takes (goal.Expression kind ∷ [])
disjunction_word second kind c word.Or others oper is = refl
disjunction_word second kind c _ others oper is = absurd cc

conjunction_word : (second : Bool) (kind : ExprKind) (c : Bool) (w : Word) (others : List Lexeme) (oper : Oper) → operator kind levels.Conjunction (sort_of (Reserved w ∷ others)) ≡ Some oper
    → taking second (goal.MoreOperands kind c) (look (Reserved w ∷ others)) ≡ Takes (goal.Expression kind ∷ [])
conjunction_word second kind c word.And others oper is = refl
conjunction_word second kind c _ others oper is = absurd cc

module _ (second : Bool) (kind : ExprKind) (rest : List Goal) where
  after_sum : (c : Bool) (from : List Lexeme) (oper : Oper) → operator kind levels.Sum (sort_of from) ≡ Some oper → Through second (goal.Operand kind c ∷ rest) (drop 1 from) → Through second (goal.MoreOperands kind c ∷ rest) from
  after_sum c (Symbol p ∷ others) oper is through = takes second (goal.MoreOperands kind c) rest (goal.Operand kind c ∷ []) (Symbol p) others (sum_symbol second kind c p others oper is) through
  after_sum c [] oper is through = absurd cc
  after_sum c (Reserved w ∷ others) oper is through = absurd cc
  after_sum c (_ ∷ others) oper is through = absurd cc

  after_product : (c : Bool) (from : List Lexeme) (oper : Oper) → operator kind levels.Product (sort_of from) ≡ Some oper → Through second (goal.Operand kind c ∷ rest) (drop 1 from) → Through second (goal.MoreOperands kind c ∷ rest) from
  after_product c (Symbol p ∷ others) oper is through = takes second (goal.MoreOperands kind c) rest (goal.Operand kind c ∷ []) (Symbol p) others (product_symbol second kind c p others oper is) through
  after_product c [] oper is through = absurd cc
  after_product c (Reserved w ∷ others) oper is through = absurd cc
  after_product c (_ ∷ others) oper is through = absurd cc

  after_comparison : (from : List Lexeme) (oper : Oper) → operator kind levels.Comparison (sort_of from) ≡ Some oper → Through second (goal.Operand kind false ∷ rest) (drop 1 from) → Through second (goal.MoreOperands kind true ∷ rest) from
  after_comparison (Symbol p ∷ others) oper is through = takes second (goal.MoreOperands kind true) rest (goal.Operand kind false ∷ []) (Symbol p) others (comparison_symbol second kind p others oper is) through
  after_comparison [] oper is through = absurd cc
  after_comparison (Reserved w ∷ others) oper is through = absurd cc
  after_comparison (_ ∷ others) oper is through = absurd cc

  after_or : (c : Bool) (from : List Lexeme) (oper : Oper) → operator kind levels.Disjunction (sort_of from) ≡ Some oper → Through second (goal.Expression kind ∷ rest) (drop 1 from) → Through second (goal.MoreOperands kind c ∷ rest) from
  after_or c (Reserved w ∷ others) oper is through = takes second (goal.MoreOperands kind c) rest (goal.Expression kind ∷ []) (Reserved w) others (disjunction_word second kind c w others oper is) through
  after_or c [] oper is through = absurd cc
  after_or c (Symbol p ∷ others) oper is through = absurd cc
  after_or c (_ ∷ others) oper is through = absurd cc

  after_and : (c : Bool) (from : List Lexeme) (oper : Oper) → operator kind levels.Conjunction (sort_of from) ≡ Some oper → Through second (goal.Expression kind ∷ rest) (drop 1 from) → Through second (goal.MoreOperands kind c ∷ rest) from
  after_and c (Reserved w ∷ others) oper is through = takes second (goal.MoreOperands kind c) rest (goal.Expression kind ∷ []) (Reserved w) others (conjunction_word second kind c w others oper is) through
  after_and c [] oper is through = absurd cc
  after_and c (Symbol p ∷ others) oper is through = absurd cc
  after_and c (_ ∷ others) oper is through = absurd cc

-- ---- leaves

least : (v most big : ℕ) → nat_le v most ≡ true → most ≤ big → nat_le v big ≡ true
least v most big fits less = grind (arith, nat_tests)

seen_in : (v n most : ℕ) (b : Bool) → nat_le v most ≡ b → (if b then Some v else None) ≡ Some n → most ≤ greatest_negated
    → ((if nat_le v greatest_negated then Some v else None) ≡ Some n) × (nat_le n most ≡ true)
seen_in v n most true fits is less =
    let same : v ≡ n = cc in
    (ap (λ (b : Bool). if b then Some v else None) (least v most greatest_negated fits less) ∙ ap Some same, subst (λ n. nat_le n most ≡ true) same fits)
seen_in v n most false fits is less = absurd cc

-- a number that the grammar takes at a place is seen, and is at most the greatest one there
pub seen_number : (most : ℕ) (digits : List ℕ) (n : ℕ) → number_up_to most digits ≡ Some n → most ≤ greatest_negated → (number_up_to greatest_negated digits ≡ Some n) × (nat_le n most ≡ true)
seen_number most digits n is less = seen_in (digits_value 10 digits) n most (nat_le (digits_value 10 digits) most) refl is less

module _ (second : Bool) (kind : ExprKind) (rest : List Goal) (c : Bool) where
  number_operand : (digits : List ℕ) (others : List Lexeme) (n : ℕ) → number_up_to greatest digits ≡ Some n → taking second (goal.Operand kind c) (look (Number digits ∷ others)) ≡ Takes (goal.MoreOperands kind c ∷ [])
  number_operand digits others n is =
      let seen = seen_number greatest digits n is (omega arith) in
      ap (λ found. take_operand kind c (looks.Number found)) seen.0 ∙ ap (λ (b : Bool). if b then Takes (goal.MoreOperands kind c ∷ []) else Stops) seen.1

  number_negated : (digits : List ℕ) (others : List Lexeme) (n : ℕ) → number_up_to greatest_negated digits ≡ Some n → taking second (goal.Negated kind c) (look (Number digits ∷ others)) ≡ Takes (goal.MoreOperands kind c ∷ [])
  number_negated digits others n is = ap (λ found. negated_goal kind c (looks.Number found)) is

  number_leaf : (digits : List ℕ) (others to : List Lexeme) (inner : Expression) (found : Option ℕ) → number_up_to greatest digits ≡ found
      → option_map const_before (option_map (λ n. before others (positive n)) found) ≡ Some (and_left to inner)
      → Through second (goal.MoreOperands kind c ∷ rest) to → Through second (goal.Operand kind c ∷ rest) (Number digits ∷ others)
  number_leaf digits others to inner (Some n) is read through =
      takes second (goal.Operand kind c) rest (goal.MoreOperands kind c ∷ []) (Number digits) others (number_operand digits others n is) (subst (Through second (goal.MoreOperands kind c ∷ rest)) (sym (same_pair read).1) through)
  number_leaf digits others to inner None is read through = absurd cc

  negative_leaf : (digits : List ℕ) (others to : List Lexeme) (inner : Expression) (found : Option ℕ) → number_up_to greatest_negated digits ≡ found
      → option_map const_before (option_map (λ n. before others (negative n)) found) ≡ Some (and_left to inner)
      → Through second (goal.MoreOperands kind c ∷ rest) to → Through second (goal.Operand kind c ∷ rest) (Symbol punctuator.Minus ∷ Number digits ∷ others)
  negative_leaf digits others to inner (Some n) is read through =
      takes second (goal.Operand kind c) rest (goal.Negated kind c ∷ []) (Symbol punctuator.Minus) (Number digits ∷ others) refl
      (takes second (goal.Negated kind c) rest (goal.MoreOperands kind c ∷ []) (Number digits) others (number_negated digits others n is) (subst (Through second (goal.MoreOperands kind c ∷ rest)) (sym (same_pair read).1) through))
  negative_leaf digits others to inner None is read through = absurd cc

  symbol_leaf : (p : Punctuator) (others to : List Lexeme) (inner : Expression) → leaf kind (Symbol p ∷ others) ≡ Some (and_left to inner)
      → Through second (goal.MoreOperands kind c ∷ rest) to → Through second (goal.Operand kind c ∷ rest) (Symbol p ∷ others)
  symbol_leaf punctuator.Minus (Number digits ∷ others) to inner read through = negative_leaf digits others to inner (number_up_to greatest_negated digits) refl read through
  symbol_leaf punctuator.Minus [] to inner read through = absurd cc
  symbol_leaf punctuator.Minus (_ ∷ others) to inner read through = absurd cc
  symbol_leaf _ others to inner read through = absurd cc

module _ (second : Bool) (rest : List Goal) (c : Bool) where
  word_leaf_of_step : (w : Word) (others to : List Lexeme) (inner : Expression) → leaf kinds.Step (Reserved w ∷ others) ≡ Some (and_left to inner)
      → Through second (goal.MoreOperands kinds.Step c ∷ rest) to → Through second (goal.Operand kinds.Step c ∷ rest) (Reserved w ∷ others)
  word_leaf_of_step word.Nil others to inner read through = takes second (goal.Operand kinds.Step c) rest (goal.MoreOperands kinds.Step c ∷ []) (Reserved word.Nil) others refl (subst (Through second (goal.MoreOperands kinds.Step c ∷ rest)) (sym (same_pair read).1) through)
  word_leaf_of_step word.True others to inner read through = takes second (goal.Operand kinds.Step c) rest (goal.MoreOperands kinds.Step c ∷ []) (Reserved word.True) others refl (subst (Through second (goal.MoreOperands kinds.Step c ∷ rest)) (sym (same_pair read).1) through)
  word_leaf_of_step word.False others to inner read through = takes second (goal.Operand kinds.Step c) rest (goal.MoreOperands kinds.Step c ∷ []) (Reserved word.False) others refl (subst (Through second (goal.MoreOperands kinds.Step c ∷ rest)) (sym (same_pair read).1) through)
  word_leaf_of_step _ others to inner read through = absurd cc

  member : (w : Word) (make : List ℕ → Expression) (others to : List Lexeme) (inner : Expression) → taking second (goal.Operand kinds.Condition c) (look (Reserved w ∷ others)) ≡ Takes (dot ∷ goal.Name ∷ goal.MoreOperands kinds.Condition c ∷ [])
      → after_dot make others ≡ Some (and_left to inner)
      → Through second (goal.MoreOperands kinds.Condition c ∷ rest) to → Through second (goal.Operand kinds.Condition c ∷ rest) (Reserved w ∷ others)
  member w make (Symbol punctuator.Dot ∷ Name name ∷ others) to inner takes_it read through =
      takes second (goal.Operand kinds.Condition c) rest (dot ∷ goal.Name ∷ goal.MoreOperands kinds.Condition c ∷ []) (Reserved w) (Symbol punctuator.Dot ∷ Name name ∷ others) takes_it
      (takes second dot (goal.Name ∷ goal.MoreOperands kinds.Condition c ∷ rest) [] (Symbol punctuator.Dot) (Name name ∷ others) refl
      (takes second goal.Name (goal.MoreOperands kinds.Condition c ∷ rest) [] (Name name) others refl
      (subst (Through second (goal.MoreOperands kinds.Condition c ∷ rest)) (sym (same_pair read).1) through)))
  member w make _ to inner takes_it read through = absurd cc

  word_leaf_of_condition : (w : Word) (others to : List Lexeme) (inner : Expression) → leaf kinds.Condition (Reserved w ∷ others) ≡ Some (and_left to inner)
      → Through second (goal.MoreOperands kinds.Condition c ∷ rest) to → Through second (goal.Operand kinds.Condition c ∷ rest) (Reserved w ∷ others)
  word_leaf_of_condition word.N others to inner read through = member word.N Prop others to inner refl read through
  word_leaf_of_condition word.E others to inner read through = member word.E Env others to inner refl read through
  word_leaf_of_condition word.Nil others to inner read through = takes second (goal.Operand kinds.Condition c) rest (goal.MoreOperands kinds.Condition c ∷ []) (Reserved word.Nil) others refl (subst (Through second (goal.MoreOperands kinds.Condition c ∷ rest)) (sym (same_pair read).1) through)
  word_leaf_of_condition word.True others to inner read through = takes second (goal.Operand kinds.Condition c) rest (goal.MoreOperands kinds.Condition c ∷ []) (Reserved word.True) others refl (subst (Through second (goal.MoreOperands kinds.Condition c ∷ rest)) (sym (same_pair read).1) through)
  word_leaf_of_condition word.False others to inner read through = takes second (goal.Operand kinds.Condition c) rest (goal.MoreOperands kinds.Condition c ∷ []) (Reserved word.False) others refl (subst (Through second (goal.MoreOperands kinds.Condition c ∷ rest)) (sym (same_pair read).1) through)
  word_leaf_of_condition _ others to inner read through = absurd cc

word_leaf : (second : Bool) (kind : ExprKind) (rest : List Goal) (c : Bool) (w : Word) (others to : List Lexeme) (inner : Expression) → leaf kind (Reserved w ∷ others) ≡ Some (and_left to inner)
    → Through second (goal.MoreOperands kind c ∷ rest) to → Through second (goal.Operand kind c ∷ rest) (Reserved w ∷ others)
word_leaf second kinds.Step rest c = word_leaf_of_step second rest c
word_leaf second kinds.Condition rest c = word_leaf_of_condition second rest c

-- a leaf goes through
leaf_goes : (second : Bool) (kind : ExprKind) (rest : List Goal) (c : Bool) (from to : List Lexeme) (inner : Expression) → leaf kind from ≡ Some (and_left to inner)
    → Through second (goal.MoreOperands kind c ∷ rest) to → Through second (goal.Operand kind c ∷ rest) from
leaf_goes second kind rest c (Name name ∷ others) to inner read through = takes second (goal.Operand kind c) rest (goal.MoreOperands kind c ∷ []) (Name name) others refl (subst (Through second (goal.MoreOperands kind c ∷ rest)) (sym (same_pair read).1) through)
leaf_goes second kind rest c (Text value ∷ others) to inner read through = takes second (goal.Operand kind c) rest (goal.MoreOperands kind c ∷ []) (Text value) others refl (subst (Through second (goal.MoreOperands kind c ∷ rest)) (sym (same_pair read).1) through)
leaf_goes second kind rest c (Number digits ∷ others) to inner read through = number_leaf second kind rest c digits others to inner (number_up_to greatest digits) refl read through
leaf_goes second kind rest c (Reserved w ∷ others) to inner read through = word_leaf second kind rest c w others to inner read through
leaf_goes second kind rest c (Symbol p ∷ others) to inner read through = symbol_leaf second kind rest c p others to inner read through
leaf_goes second kind rest c (Long ∷ others) to inner read through = absurd cc
leaf_goes second kind rest c [] to inner read through = absurd cc

-- ---- what an expression and a negated operand may begin with

no_not : (second : Bool) (kind : ExprKind) (rest : List Goal) (others : List Lexeme) → Through second (goal.Operand kind true ∷ rest) (Reserved word.Not ∷ others) → ⊥
no_not second kinds.Step rest others through = cc
no_not second kinds.Condition rest others through = cc

as_expression : (second : Bool) (kind : ExprKind) (rest : List Goal) (from : List Lexeme) → Through second (goal.Operand kind true ∷ rest) from → Through second (goal.Expression kind ∷ rest) from
as_expression second kind rest (Reserved word.Not ∷ others) through = absurd (no_not second kind rest others through)
as_expression second kind rest (Reserved w ∷ others) through = same_effect second (goal.Expression kind) (goal.Operand kind true) rest (Reserved w ∷ others) refl refl through
as_expression second kind rest from through = same_effect second (goal.Expression kind) (goal.Operand kind true) rest from refl refl through

as_negated : (second : Bool) (kind : ExprKind) (c : Bool) (rest : List Goal) (from : List Lexeme) → begins_with_number from ≡ false → Through second (goal.Operand kind c ∷ rest) from → Through second (goal.Negated kind c ∷ rest) from
as_negated second kind c rest (Number digits ∷ others) other through = absurd cc
as_negated second kind c rest from other through = same_effect second (goal.Negated kind c) (goal.Operand kind c) rest from refl refl through

-- ---- expressions

module _ (second : Bool) (kind : ExprKind) (rest : List Goal) (c : Bool) where
  behind_minus : (from inside : List Lexeme) → from ≡ Symbol punctuator.Minus ∷ inside → begins_with_number inside ≡ false → Through second (goal.Operand kind c ∷ rest) inside → Through second (goal.Operand kind c ∷ rest) from
  behind_minus from inside begins other through =
      subst (Through second (goal.Operand kind c ∷ rest)) (sym begins)
      (takes second (goal.Operand kind c) rest (goal.Negated kind c ∷ []) (Symbol punctuator.Minus) inside refl (as_negated second kind c rest inside other through))

  behind_paren : (from inside : List Lexeme) → from ≡ Symbol punctuator.LeftParen ∷ inside → Through second (goal.Expression kind ∷ right_paren ∷ goal.MoreOperands kind c ∷ rest) inside → Through second (goal.Operand kind c ∷ rest) from
  behind_paren from inside begins through =
      subst (Through second (goal.Operand kind c ∷ rest)) (sym begins)
      (takes second (goal.Operand kind c) rest (goal.Expression kind ∷ right_paren ∷ goal.MoreOperands kind c ∷ []) (Symbol punctuator.LeftParen) inside refl through)

  before_paren : (middle to : List Lexeme) → middle ≡ Symbol punctuator.RightParen ∷ to → Through second (goal.MoreOperands kind c ∷ rest) to
      → (b : Bool) → Through second (goal.MoreOperands kind b ∷ right_paren ∷ goal.MoreOperands kind c ∷ rest) middle
  before_paren middle to ends through b =
      subst (Through second (goal.MoreOperands kind b ∷ right_paren ∷ goal.MoreOperands kind c ∷ rest)) (sym ends)
      (passes second (goal.MoreOperands kind b) (right_paren ∷ goal.MoreOperands kind c ∷ rest) (Symbol punctuator.RightParen ∷ to) refl
      (takes second right_paren (goal.MoreOperands kind c ∷ rest) [] (Symbol punctuator.RightParen) to refl through))

abbrev is_tight : Level → Bool
is_tight levels.Sum = true
is_tight levels.Product = true
is_tight levels.Unary = true
is_tight _ = false

abbrev is_loose : Level → Bool
is_loose levels.Disjunction = true
is_loose levels.Conjunction = true
is_loose _ = false

module _ (second : Bool) (kind : ExprKind) where
  mutual
    operand_goes : {l : Level} {room : ℕ} {from to : List Lexeme} {whole : Expression} → Reads kind l room from whole to → is_tight l ≡ true → (rest : List Goal) (c : Bool)
        → Through second (goal.MoreOperands kind c ∷ rest) to → Through second (goal.Operand kind c ∷ rest) from
    operand_goes {l = levels.Sum} (chain is r f) tight rest c through = operand_goes r refl rest c (tight_follows f refl rest c through)
    operand_goes {l = levels.Product} (chain is r f) tight rest c through = operand_goes r refl rest c (tight_follows f refl rest c through)
    operand_goes {l = levels.Disjunction} (chain is r f) tight rest c through = absurd cc
    operand_goes {l = levels.Conjunction} (chain is r f) tight rest c through = absurd cc
    operand_goes {l = levels.Negation} (chain is r f) tight rest c through = absurd cc
    operand_goes {l = levels.Comparison} (chain is r f) tight rest c through = absurd cc
    operand_goes {l = levels.Unary} (chain is r f) tight rest c through = absurd cc
    operand_goes (denied begins r) tight rest c through = absurd cc
    operand_goes (not_denied r) tight rest c through = absurd cc
    operand_goes (alone r) tight rest c through = absurd cc
    operand_goes (compared r is s) tight rest c through = absurd cc
    operand_goes {from = from} {to = to} {whole = whole} (single is) tight rest c through = leaf_goes second kind rest c from to whole is through
    operand_goes {from = from} (negated {inside = inside} begins other r) tight rest c through = behind_minus second kind rest c from inside begins other (operand_goes r refl rest c through)
    operand_goes {from = from} (bracketed {inside = inside} {middle = middle} {to = to} rooms begins r ends) tight rest c through =
        behind_paren second kind rest c from inside begins (expression_goes r (right_paren ∷ goal.MoreOperands kind c ∷ rest) (before_paren second kind rest c middle to ends through))

    tight_follows : {l : Level} {room : ℕ} {from to : List Lexeme} {first whole : Expression} → Follows kind l room first from whole to → is_tight l ≡ true → (rest : List Goal) (c : Bool)
        → Through second (goal.MoreOperands kind c ∷ rest) to → Through second (goal.MoreOperands kind c ∷ rest) from
    tight_follows ended tight rest c through = through
    tight_follows {l = levels.Sum} {from = from} (more {oper = oper} is r f) tight rest c through = after_sum second kind rest c from oper is (operand_goes r refl rest c (tight_follows f refl rest c through))
    tight_follows {l = levels.Product} {from = from} (more {oper = oper} is r f) tight rest c through = after_product second kind rest c from oper is (operand_goes r refl rest c (tight_follows f refl rest c through))
    tight_follows {l = levels.Unary} (more is r f) tight rest c through = absurd cc
    tight_follows {l = levels.Disjunction} (more is r f) tight rest c through = absurd cc
    tight_follows {l = levels.Conjunction} (more is r f) tight rest c through = absurd cc
    tight_follows {l = levels.Negation} (more is r f) tight rest c through = absurd cc
    tight_follows {l = levels.Comparison} (more is r f) tight rest c through = absurd cc

    pub expression_goes : {l : Level} {room : ℕ} {from to : List Lexeme} {whole : Expression} → Reads kind l room from whole to → (rest : List Goal)
        → ((c : Bool) → Through second (goal.MoreOperands kind c ∷ rest) to) → Through second (goal.Expression kind ∷ rest) from
    expression_goes {l = levels.Disjunction} (chain is r f) rest through = expression_goes r rest (loose_follows f refl rest through)
    expression_goes {l = levels.Conjunction} (chain is r f) rest through = expression_goes r rest (loose_follows f refl rest through)
    expression_goes {l = levels.Sum} {from = from} (chain is r f) rest through = as_expression second kind rest from (operand_goes r refl rest true (tight_follows f refl rest true (through true)))
    expression_goes {l = levels.Product} {from = from} (chain is r f) rest through = as_expression second kind rest from (operand_goes r refl rest true (tight_follows f refl rest true (through true)))
    expression_goes {l = levels.Negation} (chain is r f) rest through = absurd cc
    expression_goes {l = levels.Comparison} (chain is r f) rest through = absurd cc
    expression_goes {l = levels.Unary} (chain is r f) rest through = absurd cc
    expression_goes (denied {inside = inside} begins r) rest through =
        subst (Through second (goal.Expression kind ∷ rest)) (sym begins) (takes second (goal.Expression kind) rest (goal.Expression kind ∷ []) (Reserved word.Not) inside refl (expression_goes r rest through))
    expression_goes (not_denied r) rest through = expression_goes r rest through
    expression_goes {from = from} (alone r) rest through = as_expression second kind rest from (operand_goes r refl rest true (through true))
    expression_goes {from = from} (compared {middle = middle} {oper = oper} r is s) rest through =
        as_expression second kind rest from (operand_goes r refl rest true (after_comparison second kind rest middle oper is (operand_goes s refl rest false (through false))))
    expression_goes {from = from} {to = to} {whole = whole} (single is) rest through = as_expression second kind rest from (leaf_goes second kind rest true from to whole is (through true))
    expression_goes {from = from} (negated {inside = inside} begins other r) rest through =
        as_expression second kind rest from (behind_minus second kind rest true from inside begins other (operand_goes r refl rest true (through true)))
    expression_goes {from = from} (bracketed {inside = inside} {middle = middle} {to = to} rooms begins r ends) rest through =
        as_expression second kind rest from
        (behind_paren second kind rest true from inside begins (expression_goes r (right_paren ∷ goal.MoreOperands kind true ∷ rest) (before_paren second kind rest true middle to ends (through true))))

    loose_follows : {l : Level} {room : ℕ} {from to : List Lexeme} {first whole : Expression} → Follows kind l room first from whole to → is_loose l ≡ true → (rest : List Goal)
        → ((c : Bool) → Through second (goal.MoreOperands kind c ∷ rest) to) → (c : Bool) → Through second (goal.MoreOperands kind c ∷ rest) from
    loose_follows ended loose rest through c = through c
    loose_follows {l = levels.Disjunction} {from = from} (more {oper = oper} is r f) loose rest through c = after_or second kind rest c from oper is (expression_goes r rest (loose_follows f refl rest through))
    loose_follows {l = levels.Conjunction} {from = from} (more {oper = oper} is r f) loose rest through c = after_and second kind rest c from oper is (expression_goes r rest (loose_follows f refl rest through))
    loose_follows {l = levels.Negation} (more is r f) loose rest through c = absurd cc
    loose_follows {l = levels.Comparison} (more is r f) loose rest through c = absurd cc
    loose_follows {l = levels.Sum} (more is r f) loose rest through c = absurd cc
    loose_follows {l = levels.Product} (more is r f) loose rest through c = absurd cc
    loose_follows {l = levels.Unary} (more is r f) loose rest through c = absurd cc
