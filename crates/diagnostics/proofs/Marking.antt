-- Between the constructs of a choreography no mark stands.
use Rattle.std.proofs.Common.{◌≡◌, ℕ, suc, ◌+◌, true, false, List, [], ◌∷◌, ◌++◌, drop, Option, Some, None, option_map, refl, sym, ap, ◌∙◌, subst, arith}
use Rattle.dioc_terms.specs.declared.values.Value.{Value}
use Rattle.dioc_terms.specs.declared.expressions.Oper.{Oper}
use Rattle.dioc_terms.specs.Expressions.{Expression}
use Rattle.aioc_tokens.specs.Lexemes.{Lexeme, Name, Number, Text, Reserved, Symbol, sort_of}
use Rattle.aioc_tokens.specs.declared.words.Word.TheVariants as word
use Rattle.aioc_tokens.specs.declared.words.Punctuator.TheVariants as punctuator
use Rattle.expr_syntax.specs.declared.levels.ExprKind.{ExprKind}
use Rattle.expr_syntax.specs.declared.levels.ExprKind.TheVariants.{Condition}
use Rattle.expr_syntax.specs.declared.levels.Level.{Level}
use Rattle.expr_syntax.specs.declared.levels.Level.TheVariants.{Disjunction, Conjunction, Comparison, Sum, Product}
use Rattle.expr_syntax.specs.Levels.{operator}
use Rattle.dioc_terms.specs.declared.names.Role.{Role}
use Rattle.dioc_terms.specs.Terms.{Term, constructs}
use Rattle.expr_syntax.specs.Constants.{constant, before, number_up_to, greatest, greatest_negated, positive, negative}
use Rattle.expr_syntax.specs.Grammar.{Reads, chain, denied, not_denied, alone, compared, single, negated, bracketed, Follows, ended, more, leaf, and_left, const_before}
use Rattle.dioc_syntax.specs.Choreographies.{NamesRoles, last_role, more_roles, HasExtraRoles, no_roles, roles, GivesProperties, last_property, more_properties, HasProperties, no_properties, empty_properties, properties, Form, Block, Otherwise, Stands, one_part, beside, one_step, last_step, in_turn, nothing, interaction, input, assignment, choice, loop, scope, group, block, no_else, otherwise}
use Rattle.diagnostics.specs.Marked.{is_mark, is_calm, Marks, no_more, other, mark, places, IsPlace, ArePlaces, AreMarked}

pub counted : {from to : List Lexeme} {m n : ℕ} → m ≡ n → Marks from m to → Marks from n to
counted {from} {to} is marks = subst (λ k. Marks from k to) is marks

-- marks of two pieces of a list, one behind the other
pub join : {from middle to : List Lexeme} {m n : ℕ} → Marks from m middle → Marks middle n to → Marks from (m + n) to
join {n = n} no_more later = let e : n ≡ 0 + n = omega arith in counted e later
join (other is rest) later = other is (join rest later)
join {n = n} (mark {count = count} is rest) later =
    let e : suc (count + n) ≡ suc count + n = omega arith in counted e (mark is (join rest later))

-- behind a piece without marks
pub past : {from middle to : List Lexeme} {n : ℕ} → Marks from 0 middle → Marks middle n to → Marks from n to
past {n = n} first later = let e : 0 + n ≡ n = omega arith in counted e (join first later)

-- before one
pub before_none : {from middle to : List Lexeme} {n : ℕ} → Marks from n middle → Marks middle 0 to → Marks from n to
before_none {n = n} first later = let e : n + 0 ≡ n = omega arith in counted e (join first later)

pub at_list : {from other to : List Lexeme} {n : ℕ} → from ≡ other → Marks other n to → Marks from n to
at_list {from} {other} {to} {n} is marks = subst (λ l. Marks l n to) (sym is) marks

pub to_list : {from other to : List Lexeme} {n : ℕ} → to ≡ other → Marks from n other → Marks from n to
to_list {from} {other} {to} {n} is marks = subst (λ l. Marks from n l) (sym is) marks

pub calm_as : {from other : List Lexeme} → from ≡ other → is_calm other ≡ false → is_calm from ≡ false
calm_as is calm = ap is_calm is ∙ calm

-- an operator is no mark, and makes none of a name before it
operator_calm : (kind : ExprKind) (level : Level) (middle : List Lexeme) (oper : Oper) → operator kind level (sort_of middle) ≡ Some oper → (is_calm middle ≡ false) × Marks middle 0 (drop 1 middle)
operator_calm kind Disjunction (Reserved word.Or ∷ others) oper is = (refl, other refl no_more)
operator_calm kind Conjunction (Reserved word.And ∷ others) oper is = (refl, other refl no_more)
operator_calm kind Comparison (Symbol punctuator.EqualEqual ∷ others) oper is = (refl, other refl no_more)
operator_calm kind Comparison (Symbol punctuator.NotEqual ∷ others) oper is = (refl, other refl no_more)
operator_calm kind Comparison (Symbol punctuator.Less ∷ others) oper is = (refl, other refl no_more)
operator_calm kind Comparison (Symbol punctuator.LessEqual ∷ others) oper is = (refl, other refl no_more)
operator_calm kind Comparison (Symbol punctuator.Greater ∷ others) oper is = (refl, other refl no_more)
operator_calm kind Comparison (Symbol punctuator.GreaterEqual ∷ others) oper is = (refl, other refl no_more)
operator_calm kind Sum (Symbol punctuator.Plus ∷ others) oper is = (refl, other refl no_more)
operator_calm kind Sum (Symbol punctuator.Minus ∷ others) oper is = (refl, other refl no_more)
operator_calm kind Sum (Symbol punctuator.PlusPlus ∷ others) oper is = (refl, other refl no_more)
operator_calm kind Product (Symbol punctuator.Star ∷ others) oper is = (refl, other refl no_more)
operator_calm kind Product (Symbol punctuator.Slash ∷ others) oper is = (refl, other refl no_more)
operator_calm kind Product (Symbol punctuator.Percent ∷ others) oper is = (refl, other refl no_more)
operator_calm kind level middle oper is = absurd cc

-- ---- values

some_same : {A : Type 0} {a b : A} → Some a ≡ Some b → a ≡ b
some_same e = cc

rest_of : {others : List Lexeme} {v : Value} (read : Value × List Lexeme) → Some (before others v) ≡ Some read → others ≡ read.1
rest_of read e = ap (λ (p : Value × List Lexeme). p.1) (some_same e)

number_rest : (make : ℕ → Value) (others : List Lexeme) (read : Value × List Lexeme) (found : Option ℕ) → option_map (λ n. before others (make n)) found ≡ Some read → others ≡ read.1
number_rest make others read None is = absurd cc
number_rest make others read (Some n) is = rest_of read is

-- no mark stands in a value
constant_marks : (from : List Lexeme) (read : Value × List Lexeme) → constant from ≡ Some read → Marks from 0 read.1
constant_marks (Reserved word.Nil ∷ others) read is = other refl (at_list (rest_of read is) no_more)
constant_marks (Reserved word.True ∷ others) read is = other refl (at_list (rest_of read is) no_more)
constant_marks (Reserved word.False ∷ others) read is = other refl (at_list (rest_of read is) no_more)
constant_marks (Text bytes ∷ others) read is = other refl (at_list (rest_of read is) no_more)
constant_marks (Number digits ∷ others) read is = other refl (at_list (number_rest positive others read (number_up_to greatest digits) is) no_more)
constant_marks (Symbol punctuator.Minus ∷ Number digits ∷ others) read is = other refl (other refl (at_list (number_rest negative others read (number_up_to greatest_negated digits) is) no_more))
constant_marks from read is = absurd cc

-- ---- expressions

from_const : (from to : List Lexeme) (inner : Expression) (found : Option (Value × List Lexeme)) → constant from ≡ found → option_map const_before found ≡ Some (and_left to inner) → Marks from 0 to
from_const from to inner None is made = absurd cc
from_const from to inner (Some read) is made =
    let same : read.1 ≡ to = ap (λ (p : Expression × List Lexeme). p.1) (some_same made) in
    to_list (sym same) (constant_marks from read is)

leaf_marks : (kind : ExprKind) (from to : List Lexeme) (inner : Expression) → leaf kind from ≡ Some (and_left to inner) → is_calm to ≡ false → Marks from 0 to
leaf_marks kind (Name name ∷ others) to inner found calm =
    let same : others ≡ to = ap (λ (p : Expression × List Lexeme). p.1) (some_same found) in
    other (calm_as same calm) (at_list same no_more)
leaf_marks Condition (Reserved word.N ∷ Symbol punctuator.Dot ∷ Name name ∷ others) to inner found calm =
    let same : others ≡ to = ap (λ (p : Expression × List Lexeme). p.1) (some_same found) in
    other refl (other refl (other (calm_as same calm) (at_list same no_more)))
leaf_marks Condition (Reserved word.E ∷ Symbol punctuator.Dot ∷ Name name ∷ others) to inner found calm =
    let same : others ≡ to = ap (λ (p : Expression × List Lexeme). p.1) (some_same found) in
    other refl (other refl (other (calm_as same calm) (at_list same no_more)))
leaf_marks kind (Reserved word.Nil ∷ others) to inner found calm = from_const (Reserved word.Nil ∷ others) to inner (constant (Reserved word.Nil ∷ others)) refl found
leaf_marks kind (Reserved word.True ∷ others) to inner found calm = from_const (Reserved word.True ∷ others) to inner (constant (Reserved word.True ∷ others)) refl found
leaf_marks kind (Reserved word.False ∷ others) to inner found calm = from_const (Reserved word.False ∷ others) to inner (constant (Reserved word.False ∷ others)) refl found
leaf_marks kind (Text bytes ∷ others) to inner found calm = from_const (Text bytes ∷ others) to inner (constant (Text bytes ∷ others)) refl found
leaf_marks kind (Number digits ∷ others) to inner found calm = from_const (Number digits ∷ others) to inner (constant (Number digits ∷ others)) refl found
leaf_marks kind (Symbol punctuator.Minus ∷ Number digits ∷ others) to inner found calm = from_const (Symbol punctuator.Minus ∷ Number digits ∷ others) to inner (constant (Symbol punctuator.Minus ∷ Number digits ∷ others)) refl found
leaf_marks kind from to inner found calm = absurd cc

mutual
  pub expression_marks : {kind : ExprKind} {level : Level} {room : ℕ} {from to : List Lexeme} {whole : Expression} → Reads kind level room from whole to → is_calm to ≡ false → Marks from 0 to
  expression_marks (chain c r f) calm = let after = follows_marks f calm in past (expression_marks r after.0) after.1
  expression_marks (denied begins r) calm = at_list begins (other refl (expression_marks r calm))
  expression_marks (not_denied r) calm = expression_marks r calm
  expression_marks (alone r) calm = expression_marks r calm
  expression_marks {kind} (compared {middle = middle} {oper = oper} r o s) calm =
      let here = operator_calm kind Comparison middle oper o in
      past (expression_marks r here.0) (past here.1 (expression_marks s calm))
  expression_marks {kind} {from = from} {to = to} (single {inner = inner} found) calm = leaf_marks kind from to inner found calm
  expression_marks (negated begins minus r) calm = at_list begins (other refl (expression_marks r calm))
  expression_marks (bracketed rooms begins r ends) calm =
      at_list begins (other refl (past (expression_marks r (calm_as ends refl)) (at_list ends (other refl no_more))))

  follows_marks : {kind : ExprKind} {level : Level} {room : ℕ} {from to : List Lexeme} {first whole : Expression} → Follows kind level room first from whole to → is_calm to ≡ false → (is_calm from ≡ false) × Marks from 0 to
  follows_marks ended calm = (calm, no_more)
  follows_marks {kind} {level} {from = from} (more {oper = oper} o r f) calm =
      let after = follows_marks f calm in
      let here = operator_calm kind level from oper o in
      (here.0, past here.1 (past (expression_marks r after.0) after.1))

-- ---- roles and properties

names_marks : {from to : List Lexeme} {named : List Role} → NamesRoles from named to → is_calm to ≡ false → Marks from 0 to
names_marks (last_role begins) calm = at_list begins (other calm no_more)
names_marks (more_roles begins rest) calm = at_list begins (other refl (other refl (names_marks rest calm)))

extra_marks : {version : ℕ} {from to : List Lexeme} {extra : List Role} → HasExtraRoles version from extra to → is_calm to ≡ false → (is_calm from ≡ false) × Marks from 0 to
extra_marks no_roles calm = (calm, no_more)
extra_marks (roles second begins named ends) calm =
    (calm_as begins refl, at_list begins (other refl (other refl (past (names_marks named (calm_as ends refl)) (at_list ends (other refl no_more))))))

given_marks : {from to : List Lexeme} {props : List (List ℕ × Value)} → GivesProperties from props to → Marks from 0 to
given_marks {to = to} (last_property {given = given} {value = value} begins is) =
    at_list begins (other refl (other refl (other refl (other refl (constant_marks given (before to value) is)))))
given_marks (more_properties {given = given} {behind = behind} {value = value} begins is comma rest) =
    at_list begins (other refl (other refl (other refl (other refl (past (constant_marks given (before behind value) is) (at_list comma (other refl (given_marks rest))))))))

properties_marks : {from to : List Lexeme} {props : List (List ℕ × Value)} → HasProperties from props to → is_calm to ≡ false → (is_calm from ≡ false) × Marks from 0 to
properties_marks no_properties calm = (calm, no_more)
properties_marks (empty_properties begins) calm = (calm_as begins refl, at_list begins (other refl (other refl (other refl no_more))))
properties_marks (properties begins given ends) calm =
    (calm_as begins refl, at_list begins (other refl (other refl (past (given_marks given) (at_list ends (other refl no_more))))))

-- ---- choreographies

shifted : (from behind : List Lexeme) (earlier later k : ℕ) → Marks from k behind → earlier + k ≡ later → (list : List (ℕ × List Lexeme)) → ArePlaces behind later list → ArePlaces from earlier list
shifted from behind earlier later k on is [] each = tt
shifted from behind earlier later k on is (first ∷ others) each =
    let here = each.0 in
    let number : first.0 ≡ earlier + (k + here.before) = omega (arith, here.number, is) in
    (record { before = k + here.before; number = number; marks = join on here.marks; begins = here.begins }, shifted from behind earlier later k on is others each.1)

both : (from : List Lexeme) (earlier : ℕ) (some others : List (ℕ × List Lexeme)) → ArePlaces from earlier some → ArePlaces from earlier others → ArePlaces from earlier (some ++ others)
both from earlier [] others a b = b
both from earlier (first ∷ some) others a b = (a.0, both from earlier some others a.1 b)

here : (from : List Lexeme) (earlier : ℕ) → is_mark from ≡ true → IsPlace from earlier (earlier, from)
here from earlier begins = let e : earlier ≡ earlier + 0 = omega arith in record { before = 0; number = e; marks = no_more; begins = begins }

block_opens : {version room earlier : ℕ} {from to : List Lexeme} {whole : Term} → Stands version Block room earlier from whole to → (inside : List Lexeme) × (from ≡ Symbol punctuator.LeftBrace ∷ inside)
block_opens (block {inside = inside} rooms opens within closes) = (inside, opens)

block_calm : {version room earlier : ℕ} {from to : List Lexeme} {whole : Term} → Stands version Block room earlier from whole to → is_calm from ≡ false
block_calm b = let opens = block_opens b in calm_as opens.1 refl

otherwise_calm : {version room earlier : ℕ} {from to : List Lexeme} {whole : Term} → Stands version Otherwise room earlier from whole to → is_calm to ≡ false → is_calm from ≡ false
otherwise_calm no_else calm = calm
otherwise_calm (otherwise begins body) calm = calm_as begins refl

-- `@ name` before a block
leader_calm : {head body inside : List Lexeme} {leader : List ℕ} → head ≡ Symbol punctuator.At ∷ Name leader ∷ body → body ≡ Symbol punctuator.LeftBrace ∷ inside → is_calm head ≡ false
leader_calm {leader = leader} begins opens = calm_as (begins ∙ ap (λ l. Symbol punctuator.At ∷ Name leader ∷ l) opens) refl

leader_marks : {head body : List Lexeme} {leader : List ℕ} → head ≡ Symbol punctuator.At ∷ Name leader ∷ body → is_calm body ≡ false → Marks head 0 body
leader_marks begins calm = at_list begins (other refl (other calm no_more))

pub marked : {version : ℕ} {form : Form} {room earlier : ℕ} {from to : List Lexeme} {whole : Term} (stands : Stands version form room earlier from whole to) → is_calm to ≡ false → AreMarked stands
marked (one_part part) calm = let m = marked part calm in record { each = m.each; all = m.all }
marked {earlier = earlier} {from = from} (beside {behind = behind} {first = one} first bar second) calm =
    let m = marked first (calm_as bar refl) in
    let n = marked second calm in
    let on = before_none m.all (at_list bar (other refl no_more)) in
    record { each = both from earlier (places first) (places second) m.each (shifted from behind earlier (earlier + constructs one) (constructs one) on refl (places second) n.each); all = join on n.all }
marked (one_step step) calm = let m = marked step calm in record { each = m.each; all = m.all }
marked (last_step step semicolon) calm =
    let m = marked step (calm_as semicolon refl) in
    record { each = m.each; all = before_none m.all (at_list semicolon (other refl no_more)) }
marked {earlier = earlier} {from = from} (in_turn {behind = behind} {first = one} first semicolon second) calm =
    let m = marked first (calm_as semicolon refl) in
    let n = marked second calm in
    let on = before_none m.all (at_list semicolon (other refl no_more)) in
    record { each = both from earlier (places first) (places second) m.each (shifted from behind earlier (earlier + constructs one) (constructs one) on refl (places second) n.each); all = join on n.all }
marked (nothing begins) calm = record { each = tt; all = at_list begins (other refl no_more) }
marked {earlier = earlier} {from = from} (interaction rooms begins sends ends) calm =
    record {
      each = (here from earlier (ap is_mark begins), tt);
      all = at_list begins (mark refl (other refl (other refl (other refl (past (expression_marks sends.reads (calm_as ends refl)) (at_list ends (other refl (other refl (other refl (other refl (other refl (other refl no_more))))))))))));
    }
marked {earlier = earlier} {from = from} (input rooms begins) calm =
    record {
      each = (here from earlier (ap is_mark begins), tt);
      all = at_list begins (mark refl (other refl (other refl (other refl (other refl (other refl (other refl no_more)))))));
    }
marked {earlier = earlier} {from = from} (assignment begins given) calm =
    record {
      each = (here from earlier (ap is_mark begins), tt);
      all = at_list begins (mark refl (other refl (other refl (other refl (expression_marks given.reads calm)))));
    }
marked {earlier = earlier} {from = from} (choice {body = lines} {behind = behind} {first = one} {second = two} begins guard head first second) calm =
    let opens = block_opens first in
    let on = at_list begins (mark refl (past (expression_marks guard.reads (leader_calm head opens.1)) (leader_marks head (block_calm first)))) in
    let m = marked first (otherwise_calm second calm) in
    let n = marked second calm in
    let next : earlier + 1 ≡ suc earlier = omega arith in
    let after = join on m.all in
    let one_more : 1 + (constructs one + constructs two) ≡ suc (constructs one + constructs two) = omega arith in
    let far : earlier + (1 + constructs one) ≡ suc earlier + constructs one = omega arith in
    record {
      each = (here from earlier (ap is_mark begins), both from earlier (places first) (places second) (shifted from lines earlier (suc earlier) 1 on next (places first) m.each) (shifted from behind earlier (suc earlier + constructs one) (1 + constructs one) after far (places second) n.each));
      all = counted one_more (join on (join m.all n.all));
    }
marked {earlier = earlier} {from = from} (loop {body = lines} {inner = inner} begins guard head body) calm =
    let opens = block_opens body in
    let on = at_list begins (mark refl (past (expression_marks guard.reads (leader_calm head opens.1)) (leader_marks head (block_calm body)))) in
    let m = marked body calm in
    let one_more : 1 + constructs inner ≡ suc (constructs inner) = omega arith in
    let next : earlier + 1 ≡ suc earlier = omega arith in
    record { each = (here from earlier (ap is_mark begins), shifted from lines earlier (suc earlier) 1 on next (places body) m.each); all = counted one_more (join on m.all) }
marked {earlier = earlier} {from = from} (scope {body = lines} {inner = inner} begins body extra props) calm =
    let given = properties_marks props calm in
    let named = extra_marks extra given.0 in
    let on = at_list begins (mark refl (other refl (other (block_calm body) no_more))) in
    let m = marked body named.0 in
    let one_more : 1 + constructs inner ≡ suc (constructs inner) = omega arith in
    let next : earlier + 1 ≡ suc earlier = omega arith in
    record {
      each = (here from earlier (ap is_mark begins), shifted from lines earlier (suc earlier) 1 on next (places body) m.each);
      all = counted one_more (join on (before_none m.all (past named.1 given.1)));
    }
marked {earlier = earlier} {from = from} (group {inside = within} rooms opens inside closes) calm =
    let m = marked inside (calm_as closes refl) in
    let on = at_list opens (other refl no_more) in
    let same : earlier + 0 ≡ earlier = omega arith in
    record { each = shifted from within earlier earlier 0 on same (places inside) m.each; all = past on (before_none m.all (at_list closes (other refl no_more))) }
marked {earlier = earlier} {from = from} (block {inside = within} rooms opens inside closes) calm =
    let m = marked inside (calm_as closes refl) in
    let on = at_list opens (other refl no_more) in
    let same : earlier + 0 ≡ earlier = omega arith in
    record { each = shifted from within earlier earlier 0 on same (places inside) m.each; all = past on (before_none m.all (at_list closes (other refl no_more))) }
marked no_else calm = record { each = tt; all = no_more }
marked {earlier = earlier} {from = from} (otherwise {body = lines} begins body) calm =
    let m = marked body calm in
    let on = at_list begins (other refl no_more) in
    let same : earlier + 0 ≡ earlier = omega arith in
    record { each = shifted from lines earlier earlier 0 on same (places body) m.each; all = past on m.all }
