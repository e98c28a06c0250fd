-- What is read is formed: its names and constants are those of the grammar, and it has what its kind allows.
use Rattle.std.proofs.Common.{◌≡◌, ◌≢◌, ℕ, zero, suc, ◌≤◌, List, [], ◌∷◌, ◌&&◌, Bool, true, false, cond, not, length, map, drop, Option, Some, None, refl, sym, ap, ◌∙◌, subst, arith}
use Rattle.std.proofs.lemmas.Bool.{le-leb, leb-true}
use Rattle.std.proofs.lemmas.List.Elements.{recursion_from_All}
use Rattle.std.specs.Int.{is_in_range}
use Rattle.std.specs.Prelude.{find, ◌||◌, ◌==◌, nat_le, option_map}
use Rattle.std.specs.List.{list_any, list_all, AllByRecursion}
use Rattle.std.specs.Str.{bytes_eq}
use Rattle.std.specs.Str.Parse.{digits_value}
use Rattle.dioc_terms.specs.declared.values.Value.{Value}
use Rattle.dioc_terms.specs.declared.values.Value.TheVariants as value
use Rattle.dioc_terms.specs.declared.expressions.Oper.{Oper}
use Rattle.dioc_terms.specs.Bundles.{is_identifier, is_constant, is_step_expression, is_condition, joins}
use Rattle.dioc_terms.specs.Expressions.{Expression, Const, Var, Prop, Env, Not, Neg, Bin, expression_depth}
use Rattle.dioc_terms.specs.Names.{is_name, is_word, is_letter, is_reserved, is_text}
use Rattle.dioc_terms.specs.Names as names
use Rattle.aioc_tokens.specs.declared.words.Word.{Word}
use Rattle.aioc_tokens.specs.declared.words.Word.TheVariants as word
use Rattle.aioc_tokens.specs.declared.words.Punctuator.{Punctuator}
use Rattle.aioc_tokens.specs.declared.words.Punctuator.TheVariants as punctuator
use Rattle.aioc_tokens.specs.declared.words.Sort.{Sort}
use Rattle.aioc_tokens.specs.declared.words.Sort.TheVariants as sorts
use Rattle.aioc_tokens.specs.Words.{word_of, word_spelling, reserved_words}
use Rattle.aioc_tokens.specs.Tokens as tokens
use Rattle.aioc_tokens.specs.Tokens.{IsNameSpelling, is_name_byte}
use Rattle.aioc_tokens.specs.Lexemes.{Lexeme, Name, Long, Number, Text, Reserved, Symbol, sort_of, HasSpelling, HasLexemes}
use Rattle.aioc_tokens.proofs.Readings.{read_spelling}
use Rattle.expr_syntax.specs.Constants.{constant, before, positive, negative, greatest, greatest_negated, number_up_to}
use Rattle.expr_syntax.specs.Grammar.{leaf, after_dot, and_left, const_before, Reads, Follows, chain, denied, not_denied, alone, compared, single, negated, bracketed, ended, more, IsExpression}
use Rattle.expr_syntax.specs.Laws.{is_formed, ReadIsFormed}
use Rattle.expr_syntax.specs.Levels.{operator, comparison, addition, multiplication, disjunction, conjunction}
use Rattle.expr_syntax.specs.declared.levels.ExprKind.{ExprKind}
use Rattle.expr_syntax.specs.declared.levels.ExprKind.TheVariants.{Step, Condition}
use Rattle.expr_syntax.specs.declared.levels.Level.{Level}
use Rattle.expr_syntax.specs.declared.levels.Level.TheVariants.{Disjunction, Conjunction, Comparison, Sum, Product}
use Rattle.expr_syntax.proofs.LeafFacts.{same_pair}

some_none : (word : Word) → Some word ≡ None → ⊥
some_none word h = cc

reordered : (d u l w : Bool) → (((d || u) || l) || w) ≡ (((u || l) || d) || w)
reordered true true true w = refl
reordered true true false w = refl
reordered true false true w = refl
reordered true false false w = refl
reordered false true true w = refl
reordered false true false w = refl
reordered false false true w = refl
reordered false false false w = refl

same_byte : (byte : ℕ) → is_name_byte byte ≡ is_word byte
same_byte byte = reordered (is_in_range 48 57 byte) (is_in_range 65 90 byte) (is_in_range 97 122 byte) (byte == 95)

same_tests : (bytes : List ℕ) → list_all is_name_byte bytes ≡ list_all is_word bytes
same_tests [] = refl
same_tests (byte ∷ others) = λ j. same_byte byte j && same_tests others j

not_found : (bytes : List ℕ) (words : List Word) → find (λ word. bytes_eq bytes (word_spelling word)) words ≡ None → list_any (bytes_eq bytes) (map word_spelling words) ≡ false
not_found bytes [] h = refl
not_found bytes (word ∷ words) h = by_test (bytes_eq bytes (word_spelling word)) refl (λ g. not_found bytes words g)
  where
    by_test : (t : Bool) → bytes_eq bytes (word_spelling word) ≡ t → (find (λ w. bytes_eq bytes (word_spelling w)) words ≡ None → list_any (bytes_eq bytes) (map word_spelling words) ≡ false)
        → (bytes_eq bytes (word_spelling word) || list_any (bytes_eq bytes) (map word_spelling words)) ≡ false
    by_test true e others = absurd (some_none word (sym (ap (λ t. cond t (Some word) (find (λ w. bytes_eq bytes (word_spelling w)) words)) e) ∙ h))
    by_test false e others = ap (λ t. t || list_any (bytes_eq bytes) (map word_spelling words)) e
        ∙ others (sym (ap (λ t. cond t (Some word) (find (λ w. bytes_eq bytes (word_spelling w)) words)) e) ∙ h)

not_reserved : (bytes : List ℕ) → word_of bytes ≡ None → is_reserved bytes ≡ false
unfolding word_of is_reserved names.reserved_words
not_reserved bytes h = not_found bytes reserved_words h

pub name_valid : (bytes : List ℕ) → HasSpelling (Name bytes) → is_name bytes ≡ true
name_valid [] h = absurd h.0
name_valid (first ∷ others) h =
    λ j. (h.0.0 j && (sym (same_tests others) ∙ h.0.1) j) && le-leb (length others) 63 (omega (arith, h.1)) j

pub identifier_valid : (bytes : List ℕ) → HasSpelling (Name bytes) → is_identifier bytes ≡ true
identifier_valid bytes h = λ j. name_valid bytes h j && not (not_reserved bytes h.2 j)

-- a lexeme that isn't too long has a spelling
abbrev pub CanBeWritten : Lexeme → Type 0
CanBeWritten lexeme = lexeme ≢ Long → HasSpelling lexeme

same_printable : (bytes : List ℕ) → list_all tokens.is_printable bytes ≡ list_all names.is_printable bytes
same_printable [] = refl
same_printable (byte ∷ others) = ap (λ t. tokens.is_printable byte && t) (same_printable others)

text_valid : (bytes : List ℕ) → HasSpelling (Text bytes) → is_text bytes ≡ true
text_valid bytes h = λ j. le-leb (length bytes) 1024 h.1 j && (sym (same_printable bytes) ∙ h.0) j

abbrev value_in : Option (Value × List Lexeme) → Value
value_in None = value.Nil
value_in (Some found) = found.0

abbrev rest_in : Option (Value × List Lexeme) → List Lexeme
rest_in None = []
rest_in (Some found) = found.1

-- what is read of a constant
abbrev pub IsValid : Value → List Lexeme → Type 0
IsValid v to = (is_constant v ≡ true) × AllByRecursion CanBeWritten to

read_as : (found : Option (Value × List Lexeme)) (v w : Value) (to rest : List Lexeme) → found ≡ Some (w, rest) → found ≡ Some (v, to) → IsValid w rest → IsValid v to
read_as found v w to rest e h valid = subst (λ u. IsValid u to) (ap value_in (sym e ∙ h)) (subst (IsValid w) (ap rest_in (sym e ∙ h)) valid)

numbered : (make : ℕ → Value) (most : ℕ) (digits : List ℕ) (rest to : List Lexeme) (v : Value) → ((n : ℕ) → n ≤ most → is_constant (make n) ≡ true) → AllByRecursion CanBeWritten rest
    → option_map (λ n. before rest (make n)) (number_up_to most digits) ≡ Some (v, to) → IsValid v to
numbered make most digits rest to v valid others h = by_test (nat_le (digits_value 10 digits) most) refl
  where
    by_test : (t : Bool) → nat_le (digits_value 10 digits) most ≡ t → IsValid v to
    by_test true small =
        read_as (option_map (λ n. before rest (make n)) (number_up_to most digits)) v (make (digits_value 10 digits)) to rest
        (ap (λ t. option_map (λ n. before rest (make n)) (cond t (Some (digits_value 10 digits)) None)) small) h
        (valid (digits_value 10 digits) (leb-true (digits_value 10 digits) most small), others)
    by_test false great = absurd (none_is (sym (ap (λ t. option_map (λ n. before rest (make n)) (cond t (Some (digits_value 10 digits)) None)) great) ∙ h))
      where
        none_is : ◌≡◌ {A = Option (Value × List Lexeme)} None (Some (v, to)) → ⊥
        none_is e = cc

positive_valid : (n : ℕ) → n ≤ 9223372036854775807 → is_constant (positive n) ≡ true
positive_valid n h = le-leb n 9223372036854775807 h

negative_valid : (n : ℕ) → n ≤ 9223372036854775808 → is_constant (negative n) ≡ true
negative_valid zero h = refl
negative_valid (suc n) h = ap (λ t. t && true) (le-leb n 9223372036854775807 (omega (arith, h)))

pub constant_valid : (from : List Lexeme) (v : Value) (to : List Lexeme) → AllByRecursion CanBeWritten from → constant from ≡ Some (v, to) → IsValid v to
constant_valid (Reserved word.Nil ∷ others) v to valid e = read_as _ v value.Nil to others refl e (refl, valid.1)
constant_valid (Reserved word.True ∷ others) v to valid e = read_as _ v (value.Bool true) to others refl e (refl, valid.1)
constant_valid (Reserved word.False ∷ others) v to valid e = read_as _ v (value.Bool false) to others refl e (refl, valid.1)
constant_valid (Text bytes ∷ others) v to valid e = read_as _ v (value.Text bytes) to others refl e (text_valid bytes (valid.0 (λ is. cc)), valid.1)
constant_valid (Number digits ∷ others) v to valid e = numbered positive greatest digits others to v positive_valid valid.1 e
constant_valid (Symbol punctuator.Minus ∷ Number digits ∷ others) v to valid e = numbered negative greatest_negated digits others to v negative_valid valid.1.1 e
constant_valid _ v to valid e = cc

-- an expression with what its kind allows, however deep
abbrev pub is_of : ExprKind → Expression → Bool
is_of Step e = is_step_expression e
is_of Condition e = is_condition e

-- what was read is of its kind, and what is left can be written
abbrev pub IsOf : ExprKind → Expression → List Lexeme → Type 0
IsOf kind e to = (is_of kind e ≡ true) × AllByRecursion CanBeWritten to

is_of-const : (kind : ExprKind) (v : Value) → is_constant v ≡ true → is_of kind (Const v) ≡ true
is_of-const Step v h = h
is_of-const Condition v h = h

is_of-var : (kind : ExprKind) (name : List ℕ) → is_identifier name ≡ true → is_of kind (Var name) ≡ true
is_of-var Step name h = h
is_of-var Condition name h = h

is_of-not : (kind : ExprKind) (e : Expression) → is_of kind e ≡ true → is_of kind (Not e) ≡ true
is_of-not Step e h = h
is_of-not Condition e h = h

is_of-neg : (kind : ExprKind) (e : Expression) → is_of kind e ≡ true → is_of kind (Neg e) ≡ true
is_of-neg Step e h = h
is_of-neg Condition e h = h

-- no operator of a condition joins texts
some_joins : {op op' : Oper} → joins op ≡ false → Some op ≡ Some op' → joins op' ≡ false
some_joins {op} {op'} h e = subst (λ o. joins o ≡ false) (same e) h
  where
    same : {o o' : Oper} → Some o ≡ Some o' → o ≡ o'
    same f = cc

disjunction_joins : (first : Word) (op : Oper) → disjunction first ≡ Some op → joins op ≡ false
disjunction_joins word.Or op h = some_joins refl h
disjunction_joins _ op h = absurd cc

conjunction_joins : (first : Word) (op : Oper) → conjunction first ≡ Some op → joins op ≡ false
conjunction_joins word.And op h = some_joins refl h
conjunction_joins _ op h = absurd cc

comparison_joins : (first : Punctuator) (op : Oper) → comparison first ≡ Some op → joins op ≡ false
comparison_joins punctuator.EqualEqual op h = some_joins refl h
comparison_joins punctuator.NotEqual op h = some_joins refl h
comparison_joins punctuator.Less op h = some_joins refl h
comparison_joins punctuator.LessEqual op h = some_joins refl h
comparison_joins punctuator.Greater op h = some_joins refl h
comparison_joins punctuator.GreaterEqual op h = some_joins refl h
comparison_joins _ op h = absurd cc

addition_joins : (first : Punctuator) (op : Oper) → addition Condition first ≡ Some op → joins op ≡ false
addition_joins punctuator.Plus op h = some_joins refl h
addition_joins punctuator.Minus op h = some_joins refl h
addition_joins punctuator.PlusPlus op h = absurd cc
addition_joins _ op h = absurd cc

multiplication_joins : (first : Punctuator) (op : Oper) → multiplication first ≡ Some op → joins op ≡ false
multiplication_joins punctuator.Star op h = some_joins refl h
multiplication_joins punctuator.Slash op h = some_joins refl h
multiplication_joins punctuator.Percent op h = some_joins refl h
multiplication_joins _ op h = absurd cc

operator_joins : (level : Level) (sort : Sort) (op : Oper) → operator Condition level sort ≡ Some op → joins op ≡ false
operator_joins Disjunction (sorts.Reserved first) op h = disjunction_joins first op h
operator_joins Conjunction (sorts.Reserved first) op h = conjunction_joins first op h
operator_joins Comparison (sorts.Symbol first) op h = comparison_joins first op h
operator_joins Sum (sorts.Symbol first) op h = addition_joins first op h
operator_joins Product (sorts.Symbol first) op h = multiplication_joins first op h
operator_joins _ sort op h = absurd cc

is_of-bin : (kind : ExprKind) (level : Level) (sort : Sort) (op : Oper) (a b : Expression) → operator kind level sort ≡ Some op → is_of kind a ≡ true → is_of kind b ≡ true
    → is_of kind (Bin op a b) ≡ true
is_of-bin Step level sort op a b is left right = λ j. left j && right j
is_of-bin Condition level sort op a b is left right = λ j. not (operator_joins level sort op is j) && left j && right j

-- a leaf is of its kind
same_read : (kind : ExprKind) (e inner : Expression) (others to : List Lexeme) → Some (and_left others e) ≡ Some (and_left to inner) → IsOf kind e others → IsOf kind inner to
same_read kind e inner others to is h = let same = same_pair is in subst (λ whole. IsOf kind whole to) same.0 (subst (IsOf kind e) same.1 h)

member_formed : (make : List ℕ → Expression) (from to : List Lexeme) (inner : Expression) → ((name : List ℕ) → is_identifier name ≡ true → is_condition (make name) ≡ true)
    → AllByRecursion CanBeWritten from → after_dot make from ≡ Some (and_left to inner) → IsOf Condition inner to
member_formed make (Symbol punctuator.Dot ∷ Name name ∷ others) to inner makes valid is =
    same_read Condition (make name) inner others to is (makes name (identifier_valid name (valid.1.0 (λ e. cc))), valid.1.1)
member_formed make (Symbol punctuator.Dot ∷ []) to inner makes valid is = absurd cc
member_formed make (Symbol punctuator.Dot ∷ Long ∷ others) to inner makes valid is = absurd cc
member_formed make (Symbol punctuator.Dot ∷ _ ∷ others) to inner makes valid is = absurd cc
member_formed make (Symbol first ∷ others) to inner makes valid is = absurd cc
member_formed make [] to inner makes valid is = absurd cc
member_formed make (Long ∷ others) to inner makes valid is = absurd cc
member_formed make (_ ∷ others) to inner makes valid is = absurd cc

const_formed : (kind : ExprKind) (found : Option (Value × List Lexeme)) (from to : List Lexeme) (inner : Expression) → AllByRecursion CanBeWritten from → constant from ≡ found
    → option_map const_before found ≡ Some (and_left to inner) → IsOf kind inner to
const_formed kind (Some read) from to inner valid is same =
    let constant = constant_valid from read.0 read.1 valid is in same_read kind (Const read.0) inner read.1 to same (is_of-const kind read.0 constant.0, constant.1)
const_formed kind None from to inner valid is same = absurd cc

leaf_formed : (kind : ExprKind) (from to : List Lexeme) (inner : Expression) → AllByRecursion CanBeWritten from → leaf kind from ≡ Some (and_left to inner) → IsOf kind inner to
leaf_formed kind (Name name ∷ others) to inner valid is =
    same_read kind (Var name) inner others to is (is_of-var kind name (identifier_valid name (valid.0 (λ e. cc))), valid.1)
leaf_formed Condition (Reserved word.N ∷ others) to inner valid is = member_formed Prop others to inner (λ name h. h) valid.1 is
leaf_formed Condition (Reserved word.E ∷ others) to inner valid is = member_formed Env others to inner (λ name h. h) valid.1 is
leaf_formed kind from to inner valid is = const_formed kind (constant from) from to inner valid refl is

rest_valid : (from : List Lexeme) → AllByRecursion CanBeWritten from → AllByRecursion CanBeWritten (drop 1 from)
rest_valid [] valid = tt
rest_valid (first ∷ others) valid = valid.1

mutual
  reads_formed : {kind : ExprKind} {level : Level} {room : ℕ} {from to : List Lexeme} {whole : Expression} → AllByRecursion CanBeWritten from → Reads kind level room from whole to
      → IsOf kind whole to
  reads_formed valid (chain chains r f) = let first = reads_formed valid r in follows_formed first.0 first.1 f
  reads_formed {kind} valid (denied {inner = inner} begins r) =
      let inside = reads_formed (subst (AllByRecursion CanBeWritten) begins valid).1 r in (is_of-not kind inner inside.0, inside.1)
  reads_formed valid (not_denied r) = reads_formed valid r
  reads_formed valid (alone r) = reads_formed valid r
  reads_formed {kind} valid (compared {middle = middle} {left = left} {right = right} {oper = op} r o s) =
      let first = reads_formed valid r in
      let second = reads_formed (rest_valid middle first.1) s in
      (is_of-bin kind Comparison (sort_of middle) op left right o first.0 second.0, second.1)
  reads_formed {kind} {level} {room} {from} {to} {whole} valid (single is) = leaf_formed kind from to whole valid is
  reads_formed {kind} valid (negated {inner = inner} begins other r) =
      let inside = reads_formed (subst (AllByRecursion CanBeWritten) begins valid).1 r in (is_of-neg kind inner inside.0, inside.1)
  reads_formed valid (bracketed rooms begins r ends) =
      let inside = reads_formed (subst (AllByRecursion CanBeWritten) begins valid).1 r in (inside.0, (subst (AllByRecursion CanBeWritten) ends inside.1).1)

  follows_formed : {kind : ExprKind} {level : Level} {room : ℕ} {from to : List Lexeme} {first whole : Expression} → is_of kind first ≡ true → AllByRecursion CanBeWritten from
      → Follows kind level room first from whole to → IsOf kind whole to
  follows_formed is valid ended = (is, valid)
  follows_formed {kind} {level} {room} {from} {to} {first} is valid (more {second = second} {oper = op} o r f) =
      let next = reads_formed (rest_valid from valid) r in
      follows_formed (is_of-bin kind level (sort_of from) op first second o is next.0) next.1 f

formed_of : (kind : ExprKind) (e : Expression) → is_of kind e ≡ true → expression_depth e ≤ 64 → is_formed kind e ≡ true
formed_of Step e is shallow = λ j. is j && le-leb (expression_depth e) 64 shallow j
formed_of Condition e is shallow = λ j. is j && le-leb (expression_depth e) 64 shallow j

pub valid_from : (at : ℕ) (found : List Lexeme) → AllByRecursion CanBeWritten found → AllByRecursion CanBeWritten (drop at found)
valid_from zero found valid = valid
valid_from (suc at) [] valid = tt
valid_from (suc at) (first ∷ others) valid = valid_from at others valid.1

-- what is read of an expression, and what is left
pub expression_formed : {kind : ExprKind} {room : ℕ} {from to : List Lexeme} {whole : Expression} → AllByRecursion CanBeWritten from → IsExpression kind room from whole to
    → (is_formed kind whole ≡ true) × AllByRecursion CanBeWritten to
expression_formed {kind} {whole = whole} valid is = let read = reads_formed valid is.reads in (formed_of kind whole read.0 is.shallow, read.1)

pub all_valid : (bytes : List ℕ) (found : List Lexeme) → HasLexemes bytes found → AllByRecursion CanBeWritten found
all_valid bytes found has = recursion_from_All CanBeWritten found (read_spelling bytes found has)

pub read_formed : ReadIsFormed
read_formed kind room bytes found at whole to has is = (expression_formed (valid_from at found (all_valid bytes found has)) is).0
