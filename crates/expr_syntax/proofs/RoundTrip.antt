-- What is written is read again.
use Rattle.std.proofs.Common.{◌≡◌, ℕ, suc, ◌-◌, ◌^◌, ◌<◌, ◌≤◌, Bool, true, false, ◌&&◌, not, ◌||◌, List, [], ◌∷◌, length, map, Some, None, pos, negsuc, refl, ap, ◌∙◌, arith, decimal, nat_le, cond, ◌==◌}
use Rattle.std.specs.Option.{option_map}
use Rattle.std.specs.Str.{all_ascii_digits, bytes_eq}
use Rattle.std.specs.Str.Parse.{digits_value}
use Rattle.std.proofs.lemmas.Str.Parse.{tells_all_ascii_digits, numerals_by_value}
use Rattle.std.proofs.lemmas.Fmt.{digits_value-decimal}
use Rattle.std.proofs.lemmas.Bool.Decides.{nat_tests}
use Rattle.std.specs.Prelude.{int_le}
use borrow.Author.Tests.{leb-true}
use Rattle.dioc_terms.specs.declared.values.Value.{Value}
use Rattle.dioc_terms.specs.declared.values.Value.TheVariants as value
use Rattle.dioc_terms.specs.declared.expressions.Oper.{Oper}
use Rattle.dioc_terms.specs.declared.expressions.Oper.TheVariants.{Add, Sub, Mul, Div, Rem, Join, Eq, Ne, Lt, Le, Gt, Ge, And, Or}
use Rattle.dioc_terms.specs.Expressions.{Expression, Const, Var, Prop, Env, Not, Neg, Bin, expression_depth}
use Rattle.dioc_terms.specs.Bundles.{is_constant, is_step_expression, is_condition, joins, is_identifier}
use Rattle.aioc_tokens.specs.declared.words.Word.TheVariants as word
use Rattle.aioc_tokens.specs.declared.words.Punctuator.TheVariants as punctuator
use Rattle.aioc_tokens.specs.Lexemes.{Lexeme, Name, Number, Text, Reserved, Symbol, sort_of, HasSpelling, HasLexemes}
use Rattle.aioc_tokens.specs.Fronts.{Longest}
use Rattle.std.specs.Int.{is_in_range}
use Rattle.std.proofs.lemmas.Fmt.{decimal_nonempty, digits_decimal}
use Rattle.aioc_tokens.specs.Spelling.{spelled}
use Rattle.aioc_tokens.proofs.Written.{spelled_lexemes}
use Rattle.expr_syntax.proofs.ConstantFacts.{digits_tested}
use Rattle.std.specs.List.{find, list_any, list_all, AllByRecursion}
use Rattle.dioc_terms.specs.Names.{is_letter, is_word, is_name, is_reserved, reserved_words, is_text, is_printable}
use Rattle.aioc_tokens.specs.declared.words.Word.{Word}
use Rattle.aioc_tokens.specs.Words.{word_spelling, word_of}
use Rattle.aioc_tokens.specs.Words as words
use Rattle.aioc_tokens.specs.Tokens.{is_name_byte}
use Rattle.expr_syntax.specs.Constants.{greatest, greatest_negated, number_up_to, positive, negative, before, constant}
use Rattle.expr_syntax.specs.Grammar.{Reads, chain, denied, not_denied, alone, compared, single, negated, bracketed, ended, more, leaf, and_left, const_before, IsExpression}
use Rattle.expr_syntax.specs.Writing.{is_compound, operator_lexeme, written_value, with_open, with_close, written}
use Rattle.expr_syntax.specs.Laws.{is_formed, NoOperatorFirst}
use Rattle.expr_syntax.specs.declared.levels.ExprKind.{ExprKind}
use Rattle.expr_syntax.specs.declared.levels.ExprKind.TheVariants.{Step, Condition}
use Rattle.expr_syntax.specs.declared.levels.Level.TheVariants.{Disjunction, Conjunction, Negation, Comparison, Sum, Product, Unary}
use Rattle.expr_syntax.proofs.Tables.{goes}
use Rattle.expr_syntax.proofs.Fronts.{some_depth}
use Rattle.expr_syntax.proofs.Compare.{Compared, same, further, nearer, compare}

decimal_value : (n : ℕ) → n < 2 ^ 64 → digits_value 10 (decimal n) ≡ n
decimal_value n small = digits_value-decimal (numerals_by_value (λ digits. all_ascii_digits digits ≡ true) tells_all_ascii_digits) n small

decimal_number : (most n : ℕ) → n < 2 ^ 64 → n ≤ most → number_up_to most (decimal n) ≡ Some n
decimal_number most n fits small = rw (decimal_value n fits) (grind (arith, nat_tests))

-- whether a kind has an expression, its depth aside
abbrev is_of : ExprKind → Expression → Bool
is_of Step whole = is_step_expression whole
is_of Condition whole = is_condition whole

both_true : (a b : Bool) → a && b ≡ true → (a ≡ true) × (b ≡ true)
both_true true b is = (refl, is)
both_true false b is = absurd cc

-- a constant is read as it was written
positive_written : (n : ℕ) (others : List Lexeme) → is_constant (value.Int (pos n)) ≡ true → constant (Number (decimal n) ∷ others) ≡ Some (before others (value.Int (pos n)))
positive_written n others is = ap (option_map (λ n. before others (positive n))) (let small : n ≤ greatest = leb-true n greatest is in decimal_number greatest n (omega arith) small)

negative_written : (n : ℕ) (others : List Lexeme) → is_constant (value.Int (negsuc n)) ≡ true → constant (Symbol punctuator.Minus ∷ Number (decimal (suc n)) ∷ others) ≡ Some (before others (value.Int (negsuc n)))
negative_written n others is = ap (option_map (λ n. before others (negative n))) (let small : n ≤ greatest = leb-true n greatest (both_true (int_le (negsuc greatest) (negsuc n)) true is).0 in decimal_number greatest_negated (suc n) (omega arith) (omega arith))

constant_written : (v : Value) (others : List Lexeme) → is_constant v ≡ true → constant (written_value v others) ≡ Some (before others v)
constant_written value.Nil others is = refl
constant_written (value.Bool true) others is = refl
constant_written (value.Bool false) others is = refl
constant_written (value.Int (pos n)) others is = positive_written n others is
constant_written (value.Int (negsuc n)) others is = negative_written n others is
constant_written (value.Text bytes) others is = refl

leaf_constant : (kind : ExprKind) (v : Value) (others : List Lexeme) → leaf kind (written_value v others) ≡ option_map const_before (constant (written_value v others))
leaf_constant Step value.Nil others = refl
leaf_constant Step (value.Bool true) others = refl
leaf_constant Step (value.Bool false) others = refl
leaf_constant Step (value.Int (pos n)) others = refl
leaf_constant Step (value.Int (negsuc n)) others = refl
leaf_constant Step (value.Text bytes) others = refl
leaf_constant Condition value.Nil others = refl
leaf_constant Condition (value.Bool true) others = refl
leaf_constant Condition (value.Bool false) others = refl
leaf_constant Condition (value.Int (pos n)) others = refl
leaf_constant Condition (value.Int (negsuc n)) others = refl
leaf_constant Condition (value.Text bytes) others = refl

module _ {kind : ExprKind} {room : ℕ} {from to : List Lexeme} {whole : Expression} where
  as_product : Reads kind Unary room from whole to → Reads kind Product room from whole to
  as_product r = chain refl r ended

  as_sum : Reads kind Product room from whole to → Reads kind Sum room from whole to
  as_sum r = chain refl r ended

  as_negation : Reads kind Comparison room from whole to → Reads kind Negation room from whole to
  as_negation r = not_denied r

  as_conjunction : Reads kind Negation room from whole to → Reads kind Conjunction room from whole to
  as_conjunction r = chain refl r ended

  as_disjunction : Reads kind Conjunction room from whole to → Reads kind Disjunction room from whole to
  as_disjunction r = chain refl r ended

  from_sum : Reads kind Sum room from whole to → Reads kind Comparison room from whole to
  from_sum r = alone r

  unary_sum : Reads kind Unary room from whole to → Reads kind Sum room from whole to
  unary_sum r = as_sum (as_product r)

  unary_negation : Reads kind Unary room from whole to → Reads kind Negation room from whole to
  unary_negation r = not_denied (alone (unary_sum r))

  unary_conjunction : Reads kind Unary room from whole to → Reads kind Conjunction room from whole to
  unary_conjunction r = as_conjunction (unary_negation r)

  unary_disjunction : Reads kind Unary room from whole to → Reads kind Disjunction room from whole to
  unary_disjunction r = as_disjunction (unary_conjunction r)

  comparison_disjunction : Reads kind Comparison room from whole to → Reads kind Disjunction room from whole to
  comparison_disjunction r = as_disjunction (as_conjunction (not_denied r))

-- two operands with an operator between them
binary_reads : (kind : ExprKind) (room : ℕ) (oper : Oper) (left right : Expression) (from rest others : List Lexeme) → (kind ≡ Condition → joins oper ≡ false) → Reads kind Unary room from left (operator_lexeme oper ∷ rest)
    → Reads kind Unary room rest right others → Reads kind Disjunction room from (Bin oper left right) others
binary_reads kind room Or left right from rest others joined r s = chain refl (unary_conjunction r) (more refl (unary_conjunction s) ended)
binary_reads kind room And left right from rest others joined r s = as_disjunction (chain refl (unary_negation r) (more refl (unary_negation s) ended))
binary_reads kind room Eq left right from rest others joined r s = comparison_disjunction (compared (unary_sum r) refl (unary_sum s))
binary_reads kind room Ne left right from rest others joined r s = comparison_disjunction (compared (unary_sum r) refl (unary_sum s))
binary_reads kind room Lt left right from rest others joined r s = comparison_disjunction (compared (unary_sum r) refl (unary_sum s))
binary_reads kind room Le left right from rest others joined r s = comparison_disjunction (compared (unary_sum r) refl (unary_sum s))
binary_reads kind room Gt left right from rest others joined r s = comparison_disjunction (compared (unary_sum r) refl (unary_sum s))
binary_reads kind room Ge left right from rest others joined r s = comparison_disjunction (compared (unary_sum r) refl (unary_sum s))
binary_reads kind room Add left right from rest others joined r s = comparison_disjunction (alone (chain refl (as_product r) (more refl (as_product s) ended)))
binary_reads kind room Sub left right from rest others joined r s = comparison_disjunction (alone (chain refl (as_product r) (more refl (as_product s) ended)))
binary_reads Step room Join left right from rest others joined r s = comparison_disjunction (alone (chain refl (as_product r) (more refl (as_product s) ended)))
binary_reads Condition room Join left right from rest others joined r s = absurd (let no_join = joined refl in cc)
binary_reads kind room Mul left right from rest others joined r s = comparison_disjunction (alone (as_sum (chain refl r (more refl s ended))))
binary_reads kind room Div left right from rest others joined r s = comparison_disjunction (alone (as_sum (chain refl r (more refl s ended))))
binary_reads kind room Rem left right from rest others joined r s = comparison_disjunction (alone (as_sum (chain refl r (more refl s ended))))

-- an operand, in brackets where it needs them
operand_reads : (kind : ExprKind) (room : ℕ) (compound : Bool) (whole : Expression) (others : List Lexeme) → (compound ≡ false → Reads kind Unary room (written whole others) whole others)
    → (compound ≡ true → (left : ℕ) × (room ≡ suc left) × Reads kind Disjunction left (written whole (Symbol punctuator.RightParen ∷ others)) whole (Symbol punctuator.RightParen ∷ others))
    → Reads kind Unary room (with_open compound (written whole (with_close compound others))) whole others
operand_reads kind room false whole others simple held = simple refl
operand_reads kind room true whole others simple held = let (left, rooms, r) = held refl in bracketed rooms refl r refl

of_not : (kind : ExprKind) (inner : Expression) → is_of kind (Not inner) ≡ true → is_of kind inner ≡ true
of_not Step inner is = is
of_not Condition inner is = is

of_neg : (kind : ExprKind) (inner : Expression) → is_of kind (Neg inner) ≡ true → is_of kind inner ≡ true
of_neg Step inner is = is
of_neg Condition inner is = is

record OfBoth (kind : ExprKind) (oper : Oper) (left right : Expression) : Type 0 where
  joined : kind ≡ Condition → joins oper ≡ false
  left_is : is_of kind left ≡ true
  right_is : is_of kind right ≡ true

not_true : (a : Bool) → not a ≡ true → a ≡ false
not_true true is = absurd cc
not_true false is = refl

of_both : (kind : ExprKind) (oper : Oper) (left right : Expression) → is_of kind (Bin oper left right) ≡ true → OfBoth kind oper left right
of_both Step oper left right is = let both = both_true (is_step_expression left) (is_step_expression right) is in record { joined = λ other. absurd cc; left_is = both.0; right_is = both.1 }
of_both Condition oper left right is =
    let one = both_true (not (joins oper) && is_condition left) (is_condition right) is in
    let both = both_true (not (joins oper)) (is_condition left) one.0 in
    record { joined = λ same. not_true (joins oper) both.0; left_is = both.1; right_is = one.1 }

leaf_variable : (kind : ExprKind) (name : List ℕ) (others : List Lexeme) → leaf kind (Name name ∷ others) ≡ Some (and_left others (Var name))
leaf_variable Step name others = refl
leaf_variable Condition name others = refl

constant_reads : (kind : ExprKind) (room : ℕ) (v : Value) (others : List Lexeme) → is_of kind (Const v) ≡ true → Reads kind Unary room (written_value v others) (Const v) others
constant_reads Step room v others is = single (leaf_constant Step v others ∙ ap (option_map const_before) (constant_written v others is))
constant_reads Condition room v others is = single (leaf_constant Condition v others ∙ ap (option_map const_before) (constant_written v others is))

property_reads : (kind : ExprKind) (room : ℕ) (name : List ℕ) (others : List Lexeme) → is_of kind (Prop name) ≡ true → Reads kind Unary room (Reserved word.N ∷ Symbol punctuator.Dot ∷ Name name ∷ others) (Prop name) others
property_reads Step room name others is = absurd cc
property_reads Condition room name others is = single refl

key_reads : (kind : ExprKind) (room : ℕ) (name : List ℕ) (others : List Lexeme) → is_of kind (Env name) ≡ true → Reads kind Unary room (Reserved word.E ∷ Symbol punctuator.Dot ∷ Name name ∷ others) (Env name) others
key_reads Step room name others is = absurd cc
key_reads Condition room name others is = single refl

-- how a written expression reads: as a unary unless it needs brackets, and as a whole
record ReadsWritten (kind : ExprKind) (room : ℕ) (whole : Expression) (others : List Lexeme) : Type 0 where
  simple : is_compound whole ≡ false → Reads kind Unary room (written whole others) whole others
  full : Reads kind Disjunction room (written whole others) whole others

simple_reads : {kind : ExprKind} {room : ℕ} {whole : Expression} {others : List Lexeme} → Reads kind Unary room (written whole others) whole others → ReadsWritten kind room whole others
simple_reads r = record { simple = λ is. r; full = unary_disjunction r }

-- each bracket that is open holds an expression that is less deep
whole_reads : (kind : ExprKind) (whole : Expression) (room : ℕ) (others : List Lexeme) → is_of kind whole ≡ true → expression_depth whole ≤ suc room → ReadsWritten kind room whole others
whole_reads kind (Const v) room others is deep = simple_reads (constant_reads kind room v others is)
whole_reads kind (Var x) room others is deep = simple_reads (single (leaf_variable kind x others))
whole_reads kind (Prop x) room others is deep = simple_reads (property_reads kind room x others is)
whole_reads kind (Env x) room others is deep = simple_reads (key_reads kind room x others is)
whole_reads kind (Not e) room others is deep =
    let inner = of_not kind e is in
    let some = some_depth e in
    let r = operand_reads kind room (is_compound e) e others (whole_reads kind e room others inner (omega arith)).simple
    (λ compound. (room - 1, omega arith, (whole_reads kind e (room - 1) (Symbol punctuator.RightParen ∷ others) inner (omega arith)).full)) in
    record { simple = λ other. absurd cc; full = as_disjunction (as_conjunction (denied refl (unary_negation r))) }
whole_reads kind (Neg e) room others is deep =
    let inner = of_neg kind e is in
    let some = some_depth e in
    let r = (whole_reads kind e (room - 1) (Symbol punctuator.RightParen ∷ others) inner (omega arith)).full in
    record { simple = λ other. absurd cc; full = unary_disjunction (negated refl refl (bracketed {left = room - 1} (omega arith) refl r refl)) }
whole_reads kind (Bin oper a b) room others is deep =
    let parts = of_both kind oper a b is in
    let some_a = some_depth a in
    let some_b = some_depth b in
    let rest = with_open (is_compound b) (written b (with_close (is_compound b) others)) in
    let r = operand_reads kind room (is_compound a) a (operator_lexeme oper ∷ rest) (whole_reads kind a room (operator_lexeme oper ∷ rest) parts.left_is (omega arith)).simple
    (λ compound. (room - 1, omega arith, (whole_reads kind a (room - 1) (Symbol punctuator.RightParen ∷ operator_lexeme oper ∷ rest) parts.left_is (omega arith)).full)) in
    let s = operand_reads kind room (is_compound b) b others (whole_reads kind b room others parts.right_is (omega arith)).simple
    (λ compound. (room - 1, omega arith, (whole_reads kind b (room - 1) (Symbol punctuator.RightParen ∷ others) parts.right_is (omega arith)).full)) in
    record { simple = λ other. absurd cc; full = binary_reads kind room oper a b (with_open (is_compound a) (written a (with_close (is_compound a) (operator_lexeme oper ∷ rest)))) rest others parts.joined r s }

-- the lexemes of what is written can be spelled
name_free : (name : List ℕ) (words : List Word) → list_any (bytes_eq name) (map word_spelling words) ≡ false → find (λ word. bytes_eq name (word_spelling word)) words ≡ None
name_free name [] free = refl
name_free name (first ∷ others) free = go (bytes_eq name (word_spelling first)) free (name_free name others)
  where
    go : (found : Bool) → found || list_any (bytes_eq name) (map word_spelling others) ≡ false → (list_any (bytes_eq name) (map word_spelling others) ≡ false → find (λ word. bytes_eq name (word_spelling word)) others ≡ None)
        → cond found (Some first) (find (λ word. bytes_eq name (word_spelling word)) others) ≡ None
    go true none rest = absurd cc
    go false none rest = rest none

not_reserved : (name : List ℕ) → is_reserved name ≡ false → word_of name ≡ None
unfolding is_reserved reserved_words word_of
not_reserved name free = name_free name words.reserved_words free

swap_or : (upper lower digit other : Bool) → ((upper || lower) || digit) || other ≡ true → ((digit || upper) || lower) || other ≡ true
swap_or true lower true other is = refl
swap_or true lower false other is = refl
swap_or false true true other is = refl
swap_or false true false other is = refl
swap_or false false true other is = refl
swap_or false false false other is = is

word_byte : (byte : ℕ) → is_word byte ≡ true → is_name_byte byte ≡ true
word_byte byte is = swap_or (is_in_range 65 90 byte) (is_in_range 97 122 byte) (is_in_range 48 57 byte) (byte == 95) is

word_bytes : (bytes : List ℕ) → list_all is_word bytes ≡ true → list_all is_name_byte bytes ≡ true
word_bytes [] is = refl
word_bytes (first ∷ others) is =
    let both = both_true (is_word first) (list_all is_word others) is in
    rw (word_byte first both.0, word_bytes others both.1) refl

name_spelled : (name : List ℕ) → is_identifier name ≡ true → HasSpelling (Name name)
name_spelled name is =
    let both = both_true (is_name name) (not (is_reserved name)) is in
    go name both.0 (not_true (is_reserved name) both.1)
  where
    go : (name : List ℕ) → is_name name ≡ true → is_reserved name ≡ false → HasSpelling (Name name)
    go [] named free = absurd cc
    go (first ∷ others) named free =
        let one = both_true (is_letter first && list_all is_word others) (nat_le (length others) 63) named in
        let two = both_true (is_letter first) (list_all is_word others) one.0 in
        ((two.0, word_bytes others two.1), omega (arith, leb-true (length others) 63 one.1), not_reserved (first ∷ others) free)

decimal_spelled : (n : ℕ) → n < 2 ^ 64 → HasSpelling (Number (decimal n))
decimal_spelled n small = (decimal_nonempty n small, digits_tested (decimal n) ∙ digits_decimal (numerals_by_value (λ digits. all_ascii_digits digits ≡ true) tells_all_ascii_digits) n small)

text_spelled : (bytes : List ℕ) → is_text bytes ≡ true → HasSpelling (Text bytes)
text_spelled bytes is = let both = both_true (nat_le (length bytes) 1024) (list_all is_printable bytes) is in (both.1, leb-true (length bytes) 1024 both.0)

value_spelled : (v : Value) (others : List Lexeme) → is_constant v ≡ true → AllByRecursion HasSpelling others → AllByRecursion HasSpelling (written_value v others)
value_spelled value.Nil others is rest = (tt, rest)
value_spelled (value.Bool true) others is rest = (tt, rest)
value_spelled (value.Bool false) others is rest = (tt, rest)
value_spelled (value.Int (pos n)) others is rest = let small : n ≤ greatest = leb-true n greatest is in (decimal_spelled n (omega arith), rest)
value_spelled (value.Int (negsuc n)) others is rest =
    let small : n ≤ greatest = leb-true n greatest (both_true (int_le (negsuc greatest) (negsuc n)) true is).0 in (tt, (decimal_spelled (suc n) (omega arith), rest))
value_spelled (value.Text bytes) others is rest = (text_spelled bytes is, rest)

constant_of : (kind : ExprKind) (v : Value) → is_of kind (Const v) ≡ true → is_constant v ≡ true
constant_of Step v is = is
constant_of Condition v is = is

variable_of : (kind : ExprKind) (name : List ℕ) → is_of kind (Var name) ≡ true → is_identifier name ≡ true
variable_of Step name is = is
variable_of Condition name is = is

property_of : (kind : ExprKind) (name : List ℕ) → is_of kind (Prop name) ≡ true → is_identifier name ≡ true
property_of Step name is = absurd cc
property_of Condition name is = is

key_of : (kind : ExprKind) (name : List ℕ) → is_of kind (Env name) ≡ true → is_identifier name ≡ true
key_of Step name is = absurd cc
key_of Condition name is = is

opened_all : (compound : Bool) (others : List Lexeme) → AllByRecursion HasSpelling others → AllByRecursion HasSpelling (with_open compound others)
opened_all true others rest = (tt, rest)
opened_all false others rest = rest

closed_all : (compound : Bool) (others : List Lexeme) → AllByRecursion HasSpelling others → AllByRecursion HasSpelling (with_close compound others)
closed_all true others rest = (tt, rest)
closed_all false others rest = rest

operator_spelled : (oper : Oper) → HasSpelling (operator_lexeme oper)
operator_spelled And = tt
operator_spelled Or = tt
operator_spelled Add = tt
operator_spelled Sub = tt
operator_spelled Mul = tt
operator_spelled Div = tt
operator_spelled Rem = tt
operator_spelled Join = tt
operator_spelled Eq = tt
operator_spelled Ne = tt
operator_spelled Lt = tt
operator_spelled Le = tt
operator_spelled Gt = tt
operator_spelled Ge = tt

-- each lexeme of what is written has a spelling, if those that follow have one
pub written_all : (kind : ExprKind) (whole : Expression) (others : List Lexeme) → is_of kind whole ≡ true → AllByRecursion HasSpelling others → AllByRecursion HasSpelling (written whole others)
written_all kind (Const v) others is rest = value_spelled v others (constant_of kind v is) rest
written_all kind (Var x) others is rest = (name_spelled x (variable_of kind x is), rest)
written_all kind (Prop x) others is rest = (tt, (tt, (name_spelled x (property_of kind x is), rest)))
written_all kind (Env x) others is rest = (tt, (tt, (name_spelled x (key_of kind x is), rest)))
written_all kind (Not e) others is rest =
    (tt, opened_all (is_compound e) (written e (with_close (is_compound e) others)) (written_all kind e (with_close (is_compound e) others) (of_not kind e is) (closed_all (is_compound e) others rest)))
written_all kind (Neg e) others is rest = (tt, (tt, written_all kind e (Symbol punctuator.RightParen ∷ others) (of_neg kind e is) (tt, rest)))
written_all kind (Bin oper a b) others is rest =
    let parts = of_both kind oper a b is in
    let right = with_open (is_compound b) (written b (with_close (is_compound b) others)) in
    let right_all = opened_all (is_compound b) (written b (with_close (is_compound b) others)) (written_all kind b (with_close (is_compound b) others) parts.right_is (closed_all (is_compound b) others rest)) in
    let left = with_close (is_compound a) (operator_lexeme oper ∷ right) in
    opened_all (is_compound a) (written a left) (written_all kind a left parts.left_is (closed_all (is_compound a) (operator_lexeme oper ∷ right) (operator_spelled oper, right_all)))

-- what no operator of any level begins goes on with nothing
no_goes : (kind : ExprKind) (others : List Lexeme) → NoOperatorFirst kind others → goes kind Disjunction (sort_of others) ≡ false
no_goes kind others none = rw (none Disjunction, none Conjunction, none Comparison, none Sum, none Product) refl

record IsFormedOf (kind : ExprKind) (whole : Expression) : Type 0 where
  is : is_of kind whole ≡ true
  shallow : expression_depth whole ≤ 64

formed_of : (kind : ExprKind) (whole : Expression) → is_formed kind whole ≡ true → IsFormedOf kind whole
formed_of Step whole formed = let both = both_true (is_step_expression whole) (nat_le (expression_depth whole) 64) formed in record { is = both.0; shallow = leb-true (expression_depth whole) 64 both.1 }
formed_of Condition whole formed = let both = both_true (is_condition whole) (nat_le (expression_depth whole) 64) formed in record { is = both.0; shallow = leb-true (expression_depth whole) 64 both.1 }

longest_go : {kind : ExprKind} {whole other : Expression} {to end : List Lexeme} → goes kind Disjunction (sort_of to) ≡ false → Compared kind Disjunction whole other to end → length to ≤ length end
longest_go stops (same is at) = omega (arith, ap length at)
longest_go stops (further less going) = absurd cc
longest_go stops (nearer less going) = omega arith

pub written_reads : (kind : ExprKind) (whole : Expression) (room : ℕ) (others : List Lexeme) → is_formed kind whole ≡ true → 63 ≤ room → NoOperatorFirst kind others → Longest (IsExpression kind room (written whole others)) whole others
written_reads kind whole room others formed roomy none =
    let parts = formed_of kind whole formed in
    let shallow = parts.shallow in
    let r = (whole_reads kind whole room others parts.is (omega arith)).full in
    record {
      reads = record { reads = r; shallow = shallow };
      longest = λ other end is. longest_go (no_goes kind others none) (compare r room (written whole others) end other refl refl is.reads);
    }

one_longest_go : {kind : ExprKind} {whole other : Expression} {to end : List Lexeme} → length to ≤ length end → length end ≤ length to → Compared kind Disjunction whole other to end → (whole ≡ other) × (to ≡ end)
one_longest_go one two (same is at) = (is, at)
one_longest_go one two (further less going) = absurd (omega arith)
one_longest_go one two (nearer less going) = absurd (omega arith)

pub one_longest : (kind : ExprKind) (room : ℕ) (from to end : List Lexeme) (whole other : Expression) → Longest (IsExpression kind room from) whole to → Longest (IsExpression kind room from) other end → (whole ≡ other) × (to ≡ end)
one_longest kind room from to end whole other one two =
    one_longest_go (one.longest other end two.reads) (two.longest whole to one.reads) (compare one.reads.reads room from end other refl refl two.reads.reads)

pub written_lexemes : (kind : ExprKind) (whole : Expression) → is_formed kind whole ≡ true → HasLexemes (spelled (written whole [])) (written whole [])
written_lexemes kind whole formed = spelled_lexemes (written whole []) (written_all kind whole [] (formed_of kind whole formed).is tt)
