-- What the leaves of the grammar take of the list, and what begins none.
use Rattle.std.proofs.Common.{◌≡◌, ◌≢◌, Result, Ok, Err, IfOk, ℕ, add_assoc, ◌+◌, ◌<◌, ◌≤◌, false, List, [], ◌∷◌, length, drop, Option, Some, None, refl, ap, sym, ◌∙◌, arith, length-drop}
use Rattle.std.specs.Option.{option_map}
use Rattle.dioc_terms.specs.declared.expressions.Expr.{Expr}
use Rattle.dioc_terms.specs.Expressions.{Expression, Prop, Env, expression, expression_depth}
use Rattle.aioc_tokens.specs.declared.words.Sort.TheVariants as sorts
use Rattle.dioc_terms.specs.declared.values.Value.{Value}
use Rattle.aioc_tokens.specs.declared.words.Word.{Word}
use Rattle.aioc_tokens.specs.declared.words.Word.TheVariants as word
use Rattle.aioc_tokens.specs.declared.words.Punctuator.{Punctuator}
use Rattle.aioc_tokens.specs.declared.words.Punctuator.TheVariants as punctuator
use Rattle.aioc_tokens.specs.Lexemes.{Lexeme, Name, Long, Number, Text, Reserved, Symbol, sort_of, Begins}
use Rattle.expr_syntax.specs.Constants.{greatest, greatest_negated, number_up_to, positive, negative, before, constant}
use Rattle.expr_syntax.specs.Grammar.{leaf, after_dot, and_left, const_before, begins_with_number}
use Rattle.expr_syntax.specs.Readers.{LeafAt, ConstantLeafAt, MemberAt}
use Rattle.expr_syntax.specs.declared.levels.ExprKind.{ExprKind}
use Rattle.expr_syntax.specs.declared.levels.ExprKind.TheVariants.{Step, Condition}

-- a value with what is left, by its parts
pub same_pair : {A B : Type 0} {x y : A} {to end : B} → ◌≡◌ {A = Option (A × B)} (Some (x, to)) (Some (y, end)) → (x ≡ y) × (to ≡ end)
same_pair {A} {B} {x} {y} {to} {end} same = (ap first_of_pair same, ap second_of_pair same)
  where
    first_of_pair : Option (A × B) → A
    first_of_pair (Some pair) = pair.0
    first_of_pair None = x

    second_of_pair : Option (A × B) → B
    second_of_pair (Some pair) = pair.1
    second_of_pair None = to

number_shorter : (found : Option ℕ) (make : ℕ → Value) (others to : List Lexeme) (value : Value) → option_map (λ n. before others (make n)) found ≡ Some (before to value) → length to ≤ length others
number_shorter (Some n) make others to value is = let same = (same_pair is).1 in omega (arith, ap length same)
number_shorter None make others to value is = absurd cc

negative_shorter : (others to : List Lexeme) (value : Value) → constant (Symbol punctuator.Minus ∷ others) ≡ Some (before to value) → length to ≤ length others
negative_shorter (Number digits ∷ others) to value is = let less = number_shorter (number_up_to greatest_negated digits) negative others to value is in omega arith
negative_shorter [] to value is = absurd cc
negative_shorter (Long ∷ others) to value is = absurd cc
negative_shorter (_ ∷ others) to value is = absurd cc

word_shorter : (first : Word) (others to : List Lexeme) (value : Value) → constant (Reserved first ∷ others) ≡ Some (before to value) → length to ≤ length others
word_shorter word.Nil others to value is = omega (arith, ap length (same_pair is).1)
word_shorter word.True others to value is = omega (arith, ap length (same_pair is).1)
word_shorter word.False others to value is = omega (arith, ap length (same_pair is).1)
word_shorter _ others to value is = absurd cc

punctuator_shorter : (first : Punctuator) (others to : List Lexeme) (value : Value) → constant (Symbol first ∷ others) ≡ Some (before to value) → length to ≤ length others
punctuator_shorter punctuator.Minus others to value is = negative_shorter others to value is
punctuator_shorter _ others to value is = absurd cc

pub constant_shorter : (from to : List Lexeme) (value : Value) → constant from ≡ Some (before to value) → length to < length from
constant_shorter [] to value is = absurd cc
constant_shorter (Name name ∷ others) to value is = absurd cc
constant_shorter (Long ∷ others) to value is = absurd cc
constant_shorter (Number digits ∷ others) to value is = let less = number_shorter (number_up_to greatest digits) positive others to value is in omega arith
constant_shorter (Text bytes ∷ others) to value is = omega (arith, ap length (same_pair is).1)
constant_shorter (Reserved first ∷ others) to value is = let less = word_shorter first others to value is in omega arith
constant_shorter (Symbol first ∷ others) to value is = let less = punctuator_shorter first others to value is in omega arith

const_shorter : (found : Option (Value × List Lexeme)) (from to : List Lexeme) (inner : Expression) → constant from ≡ found → option_map const_before found ≡ Some (and_left to inner) → length to < length from
const_shorter (Some read) from to inner is same = let less = constant_shorter from read.1 read.0 is in omega (arith, ap length (same_pair same).1)
const_shorter None from to inner is same = absurd cc

member_shorter : (make : List ℕ → Expression) (from to : List Lexeme) (inner : Expression) → after_dot make from ≡ Some (and_left to inner) → length to < length from
member_shorter make (Symbol punctuator.Dot ∷ Name name ∷ others) to inner is = omega (arith, ap length (same_pair is).1)
member_shorter make (Symbol punctuator.Dot ∷ []) to inner is = absurd cc
member_shorter make (Symbol punctuator.Dot ∷ Long ∷ others) to inner is = absurd cc
member_shorter make (Symbol punctuator.Dot ∷ _ ∷ others) to inner is = absurd cc
member_shorter make (Symbol first ∷ others) to inner is = absurd cc
member_shorter make [] to inner is = absurd cc
member_shorter make (Long ∷ others) to inner is = absurd cc
member_shorter make (_ ∷ others) to inner is = absurd cc

pub leaf_shorter : (kind : ExprKind) (from to : List Lexeme) (inner : Expression) → leaf kind from ≡ Some (and_left to inner) → length to < length from
leaf_shorter kind (Name name ∷ others) to inner is = omega (arith, ap length (same_pair is).1)
leaf_shorter Condition (Reserved word.N ∷ others) to inner is = let less = member_shorter Prop others to inner is in omega arith
leaf_shorter Condition (Reserved word.E ∷ others) to inner is = let less = member_shorter Env others to inner is in omega arith
leaf_shorter kind from to inner is = const_shorter (constant from) from to inner refl is

-- a `-` begins a leaf only before a number
pub no_minus : (kind : ExprKind) (inside : List Lexeme) → begins_with_number inside ≡ false → leaf kind (Symbol punctuator.Minus ∷ inside) ≡ None
no_minus Step (Number digits ∷ others) other = absurd cc
no_minus Step [] other = refl
no_minus Step (Long ∷ others) other = refl
no_minus Step (_ ∷ others) other = refl
no_minus Condition (Number digits ∷ others) other = absurd cc
no_minus Condition [] other = refl
no_minus Condition (Long ∷ others) other = refl
no_minus Condition (_ ∷ others) other = refl

pub no_paren : (kind : ExprKind) (inside : List Lexeme) → leaf kind (Symbol punctuator.LeftParen ∷ inside) ≡ None
no_paren Step inside = refl
no_paren Condition inside = refl

pub no_not : (kind : ExprKind) (inside : List Lexeme) → leaf kind (Reserved word.Not ∷ inside) ≡ None
no_not Step inside = refl
no_not Condition inside = refl

module _ (text : List Lexeme) (at : ℕ) where
  pub member_taken : (name : List ℕ) → drop at text ≡ Symbol punctuator.Dot ∷ drop (at + 1) text → drop (at + 1) text ≡ Name name ∷ drop ((at + 1) + 1) text → MemberAt text at (Some (name, at + 2))
  member_taken name dot named =
      let both : drop at text ≡ Symbol punctuator.Dot ∷ Name name ∷ drop (at + 2) text = dot ∙ ap (λ others. Symbol punctuator.Dot ∷ others) (named ∙ ap (λ place. Name name ∷ drop place text) (add_assoc at 1 1)) in
      (λ make. ap (after_dot make) both, (omega arith, omega (arith, ap length both, length-drop at text)))

  pub member_none : ¬ Begins (sorts.Symbol punctuator.Dot ∷ sorts.Name ∷ []) (drop at text) → MemberAt text at None
  member_none other = (λ make. go make (drop at text) other, tt)
    where
      go : (make : List ℕ → Expression) (from : List Lexeme) → ¬ Begins (sorts.Symbol punctuator.Dot ∷ sorts.Name ∷ []) from → after_dot make from ≡ None
      go make (Symbol punctuator.Dot ∷ Name name ∷ others) other = absurd (other (refl, (refl, tt)))
      go make (Symbol punctuator.Dot ∷ []) other = refl
      go make (Symbol punctuator.Dot ∷ Long ∷ others) other = refl
      go make (Symbol punctuator.Dot ∷ _ ∷ others) other = refl
      go make [] other = refl
      go make (Long ∷ others) other = refl
      go make (_ ∷ others) other = refl

  -- a leaf that is a member
  pub member_leaf : (first : Word) (make : List ℕ → Expression) (wrap : List ℕ → Expr) (found : Option (List ℕ × ℕ)) → drop at text ≡ Reserved first ∷ drop (at + 1) text
      → leaf Condition (Reserved first ∷ drop (at + 1) text) ≡ after_dot make (drop (at + 1) text) → ((name : List ℕ) → expression (wrap name) ≡ make name) → MemberAt text (at + 1) found
      → LeafAt Condition text at (option_map (λ (read : List ℕ × ℕ). (wrap read.0, read.1)) found)
  member_leaf first make wrap None begins is wraps holds = (ap (leaf Condition) begins ∙ is ∙ holds.0 make, tt)
  member_leaf first make wrap (Some read) begins is wraps holds =
      let bounds = holds.1 in
      (ap (leaf Condition) begins ∙ is ∙ holds.0 make ∙ ap (λ inner. Some (and_left (drop read.1 text) inner)) (sym (wraps read.0)), (omega arith, omega arith))

-- where neither a name stands nor, in a condition, `N` or `E`, a leaf is a constant
pub leaf_word : (first : Word) → first ≢ word.N → first ≢ word.E → (others : List Lexeme) → leaf Condition (Reserved first ∷ others) ≡ option_map const_before (constant (Reserved first ∷ others))
leaf_word word.N other other2 others = absurd (other refl)
leaf_word word.E other other2 others = absurd (other2 refl)
leaf_word _ other other2 others = refl

pub leaf_step : (first : Word) (others : List Lexeme) → leaf Step (Reserved first ∷ others) ≡ option_map const_before (constant (Reserved first ∷ others))
leaf_step first others = refl

pub leaf_other : (kind : ExprKind) (from : List Lexeme) → sort_of from ≢ sorts.Name → ((word : Word) → sort_of from ≢ sorts.Reserved word) → leaf kind from ≡ option_map const_before (constant from)
leaf_other kind (Name name ∷ others) other word = absurd (other refl)
leaf_other kind (Reserved first ∷ others) other word = absurd (word first refl)
leaf_other Step [] other word = refl
leaf_other Step (Long ∷ others) other word = refl
leaf_other Step (_ ∷ others) other word = refl
leaf_other Condition [] other word = refl
leaf_other Condition (Long ∷ others) other word = refl
leaf_other Condition (_ ∷ others) other word = refl

pub constant_leaf : (kind : ExprKind) (text : List Lexeme) (at : ℕ) (found : Option (Expr × ℕ)) → leaf kind (drop at text) ≡ option_map const_before (constant (drop at text)) → ConstantLeafAt text at found → LeafAt kind text at found
constant_leaf kind text at found is holds = (is ∙ holds.0, holds.1)

pub if_ok : {A E : Type 0} {P Q : A → Type 0} (result : Result A E) → ((found : A) → P found → Q found) → IfOk result P → IfOk result Q
if_ok (Ok found) more holds = more found holds
if_ok (Err fault) more holds = tt

-- what follows from four facts of an answer
pub if_ok_four : {A E : Type 0} {P Q R S T : A → Type 0} (result : Result A E) → ((found : A) → P found → Q found → R found → S found → T found) → IfOk result P → IfOk result Q → IfOk result R → IfOk result S → IfOk result T
if_ok_four (Ok found) more one two three four = more found one two three four
if_ok_four (Err fault) more one two three four = tt

pub word_default : {E : Type 0} (text : List Lexeme) (at : ℕ) (first : Word) (result : Result (Option (Expr × ℕ)) E) → drop at text ≡ Reserved first ∷ drop (at + 1) text → first ≢ word.N → first ≢ word.E
    → IfOk result (λ found. ConstantLeafAt text at found) → IfOk result (λ found. LeafAt Condition text at found)
word_default text at first result begins other other2 holds =
    if_ok result (λ found is. constant_leaf Condition text at found (ap (leaf Condition) begins ∙ leaf_word first other other2 (drop (at + 1) text) ∙ ap (λ from. option_map const_before (constant from)) (sym begins)) is) holds

pub step_default : {E : Type 0} (text : List Lexeme) (at : ℕ) (first : Word) (result : Result (Option (Expr × ℕ)) E) → drop at text ≡ Reserved first ∷ drop (at + 1) text
    → IfOk result (λ found. ConstantLeafAt text at found) → IfOk result (λ found. LeafAt Step text at found)
step_default text at first result begins holds =
    if_ok result (λ found is. constant_leaf Step text at found (ap (leaf Step) begins ∙ leaf_step first (drop (at + 1) text) ∙ ap (λ from. option_map const_before (constant from)) (sym begins)) is) holds

pub other_default : {E : Type 0} (kind : ExprKind) (text : List Lexeme) (at : ℕ) (result : Result (Option (Expr × ℕ)) E) → sort_of (drop at text) ≢ sorts.Name → ((first : Word) → sort_of (drop at text) ≢ sorts.Reserved first)
    → IfOk result (λ found. ConstantLeafAt text at found) → IfOk result (λ found. LeafAt kind text at found)
other_default kind text at result other word holds = if_ok result (λ found is. constant_leaf kind text at found (leaf_other kind (drop at text) other word) is) holds

-- a leaf has depth 1
const_depth : (found : Option (Value × List Lexeme)) (to : List Lexeme) (inner : Expression) → option_map const_before found ≡ Some (and_left to inner) → expression_depth inner ≡ 1
const_depth (Some read) to inner same = ap expression_depth (sym (same_pair same).0)
const_depth None to inner same = absurd cc

member_depth : (make : List ℕ → Expression) (from to : List Lexeme) (inner : Expression) → ((name : List ℕ) → expression_depth (make name) ≡ 1) → after_dot make from ≡ Some (and_left to inner) → expression_depth inner ≡ 1
member_depth make (Symbol punctuator.Dot ∷ Name name ∷ others) to inner one is = ap expression_depth (sym (same_pair is).0) ∙ one name
member_depth make (Symbol punctuator.Dot ∷ []) to inner one is = absurd cc
member_depth make (Symbol punctuator.Dot ∷ Long ∷ others) to inner one is = absurd cc
member_depth make (Symbol punctuator.Dot ∷ _ ∷ others) to inner one is = absurd cc
member_depth make (Symbol first ∷ others) to inner one is = absurd cc
member_depth make [] to inner one is = absurd cc
member_depth make (Long ∷ others) to inner one is = absurd cc
member_depth make (_ ∷ others) to inner one is = absurd cc

pub leaf_depth : (kind : ExprKind) (from to : List Lexeme) (inner : Expression) → leaf kind from ≡ Some (and_left to inner) → expression_depth inner ≡ 1
leaf_depth kind (Name name ∷ others) to inner is = ap expression_depth (sym (same_pair is).0)
leaf_depth Condition (Reserved word.N ∷ others) to inner is = member_depth Prop others to inner (λ name. refl) is
leaf_depth Condition (Reserved word.E ∷ others) to inner is = member_depth Env others to inner (λ name. refl) is
leaf_depth kind from to inner is = const_depth (constant from) to inner is
