-- What is written before others is what is written alone, and then the others.
use Rattle.std.proofs.Common.{◌≡◌, ℕ, zero, suc, Bool, true, false, List, [], ◌∷◌, ◌++◌, codes, decimal, pos, negsuc, ℤ, refl, ap, ◌∙◌}
use Rattle.dioc_terms.specs.declared.names.Role.{Role}
use Rattle.dioc_terms.specs.declared.values.Value.{Value}
use Rattle.dioc_terms.specs.declared.values.Value.TheVariants as value
use Rattle.dioc_terms.specs.Expressions.{Expression, Const, Var, Prop, Env, Not, Neg, Bin}
use Rattle.dioc_terms.specs.Terms.{Term, Skip, Com, Set, Input, Seq, Par, If, While, Scope}
use Rattle.dioc_terms.specs.Plain.{PlainRule}
use Rattle.aioc_tokens.specs.declared.words.Word.TheVariants as word
use Rattle.aioc_tokens.specs.declared.words.Punctuator.TheVariants as punctuator
use Rattle.aioc_tokens.specs.Lexemes.{Lexeme, Name, Number, Reserved, Symbol}
use Rattle.expr_syntax.specs.Writing.{is_compound, operator_lexeme, written_integer, written_value, with_open, with_close}
use Rattle.expr_syntax.specs.Writing.{written as written_expression}
use Rattle.dioc_syntax.specs.Writing.{is_joined, is_parallel, written_names, written_roles, written_property, written_list, written_properties}
use Rattle.dioc_syntax.specs.Writing.{written as written_choreography}
use Rattle.rule_syntax.specs.Grammar.{PlainChange, opening, doing, closing}
use Rattle.rule_syntax.specs.Grammar.{Add, Drop, Env as EnvChange}
use Rattle.rule_syntax.specs.Writing.{written_priority}
use Rattle.rule_syntax.specs.Writing.{written as written_rule}
use Rattle.bundle_text.specs.Grammar.{PlainTimed}
use Rattle.bundle_text.specs.Writing.{written_all, written_bound, written_next_value, written_values, written_input, written_change, written_timed}

-- a writer of something before other lexemes
abbrev pub GoesOn : (List Lexeme → List Lexeme) → Type 0
GoesOn writes = (others more : List Lexeme) → writes (others ++ more) ≡ writes others ++ more

pub opened_on : (bracketed : Bool) → GoesOn (with_open bracketed)
opened_on true others more = refl
opened_on false others more = refl

pub closed_on : (bracketed : Bool) → GoesOn (with_close bracketed)
closed_on true others more = refl
closed_on false others more = refl

pub integer_on : (z : ℤ) → GoesOn (written_integer z)
integer_on (pos n) others more = refl
integer_on (negsuc n) others more = refl

pub value_on : (v : Value) → GoesOn (written_value v)
value_on value.Nil others more = refl
value_on (value.Bool b) others more = refl
value_on (value.Int z) others more = integer_on z others more
value_on (value.Text bytes) others more = refl

-- one part in a bracket where one is needed
part_on : (bracketed : Bool) (writes : List Lexeme → List Lexeme) → GoesOn writes → GoesOn (λ others. with_open bracketed (writes (with_close bracketed others)))
part_on bracketed writes goes others more =
    ap (λ list. with_open bracketed (writes list)) (closed_on bracketed others more) ∙ ap (with_open bracketed) (goes (with_close bracketed others) more) ∙ opened_on bracketed (writes (with_close bracketed others)) more

pub expression_on : (whole : Expression) → GoesOn (written_expression whole)
expression_on (Const v) others more = value_on v others more
expression_on (Var x) others more = refl
expression_on (Prop x) others more = refl
expression_on (Env x) others more = refl
expression_on (Not e) others more = ap (λ list. Reserved word.Not ∷ list) (part_on (is_compound e) (written_expression e) (expression_on e) others more)
expression_on (Neg e) others more = ap (λ list. Symbol punctuator.Minus ∷ Symbol punctuator.LeftParen ∷ list) (expression_on e (Symbol punctuator.RightParen ∷ others) more)
expression_on (Bin oper a b) others more =
    ap (λ list. with_open (is_compound a) (written_expression a (with_close (is_compound a) (operator_lexeme oper ∷ list)))) (part_on (is_compound b) (written_expression b) (expression_on b) others more)
    ∙ part_on (is_compound a) (written_expression a) (expression_on a) (operator_lexeme oper ∷ with_open (is_compound b) (written_expression b (with_close (is_compound b) others))) more

names_on : (names : List Role) → GoesOn (written_names names)
names_on [] others more = refl
names_on (last ∷ []) others more = refl
names_on (first ∷ next ∷ rest) others more = ap (λ list. Name first.0 ∷ Symbol punctuator.Comma ∷ list) (names_on (next ∷ rest) others more)

roles_on : (extra : List Role) → GoesOn (written_roles extra)
roles_on [] others more = refl
roles_on (first ∷ rest) others more = ap (λ list. Name (codes "roles") ∷ Symbol punctuator.LeftBrace ∷ list) (names_on (first ∷ rest) (Symbol punctuator.RightBrace ∷ others) more)

property_on : (property : List ℕ × Value) → GoesOn (written_property property)
property_on property others more = ap (λ list. Reserved word.N ∷ Symbol punctuator.Dot ∷ Name property.0 ∷ Symbol punctuator.Equal ∷ list) (value_on property.1 others more)

list_on : (props : List (List ℕ × Value)) → GoesOn (written_list props)
list_on [] others more = refl
list_on (last ∷ []) others more = property_on last others more
list_on (first ∷ next ∷ rest) others more =
    ap (λ list. written_property first (Symbol punctuator.Comma ∷ list)) (list_on (next ∷ rest) others more) ∙ property_on first (Symbol punctuator.Comma ∷ written_list (next ∷ rest) others) more

properties_on : (props : List (List ℕ × Value)) → GoesOn (written_properties props)
properties_on [] others more = refl
properties_on (first ∷ rest) others more = ap (λ list. Reserved word.Prop ∷ Symbol punctuator.LeftBrace ∷ list) (list_on (first ∷ rest) (Symbol punctuator.RightBrace ∷ others) more)

pub choreography_on : (whole : Term) → GoesOn (written_choreography whole)
choreography_on Skip others more = refl
choreography_on (Com index operation sender value receiver variable) others more =
    ap (λ list. Name operation ∷ Symbol punctuator.Colon ∷ Name sender.0 ∷ Symbol punctuator.LeftParen ∷ list)
    (expression_on value (Symbol punctuator.RightParen ∷ Symbol punctuator.Arrow ∷ Name receiver.0 ∷ Symbol punctuator.LeftParen ∷ Name variable ∷ Symbol punctuator.RightParen ∷ others) more)
choreography_on (Set index variable owner value) others more = ap (λ list. Name variable ∷ Symbol punctuator.At ∷ Name owner.0 ∷ Symbol punctuator.Equal ∷ list) (expression_on value others more)
choreography_on (Input index variable owner) others more = refl
choreography_on (Seq first second) others more =
    ap (λ list. with_open (is_joined first) (written_choreography first (with_close (is_joined first) (Symbol punctuator.Semicolon ∷ list)))) (part_on (is_parallel second) (written_choreography second) (choreography_on second) others more)
    ∙ part_on (is_joined first) (written_choreography first) (choreography_on first) (Symbol punctuator.Semicolon ∷ with_open (is_parallel second) (written_choreography second (with_close (is_parallel second) others))) more
choreography_on (Par first second) others more =
    ap (λ list. with_open (is_parallel first) (written_choreography first (with_close (is_parallel first) (Symbol punctuator.Bar ∷ list)))) (choreography_on second others more)
    ∙ part_on (is_parallel first) (written_choreography first) (choreography_on first) (Symbol punctuator.Bar ∷ written_choreography second others) more
choreography_on (If index leader guard first second) others more =
    let last = Symbol punctuator.RightBrace ∷ others in
    let between = λ (list : List Lexeme). Symbol punctuator.RightBrace ∷ Reserved word.Else ∷ Symbol punctuator.LeftBrace ∷ list in
    let head = λ (list : List Lexeme). Symbol punctuator.At ∷ Name leader.0 ∷ Symbol punctuator.LeftBrace ∷ list in
    ap (λ list. Reserved word.If ∷ written_expression guard (head (written_choreography first (between list)))) (choreography_on second last more)
    ∙ ap (λ list. Reserved word.If ∷ written_expression guard (head list)) (choreography_on first (between (written_choreography second last)) more)
    ∙ ap (λ list. Reserved word.If ∷ list) (expression_on guard (head (written_choreography first (between (written_choreography second last)))) more)
choreography_on (While index leader guard inner) others more =
    let head = λ (list : List Lexeme). Symbol punctuator.At ∷ Name leader.0 ∷ Symbol punctuator.LeftBrace ∷ list in
    ap (λ list. Reserved word.While ∷ written_expression guard (head list)) (choreography_on inner (Symbol punctuator.RightBrace ∷ others) more)
    ∙ ap (λ list. Reserved word.While ∷ list) (expression_on guard (head (written_choreography inner (Symbol punctuator.RightBrace ∷ others))) more)
choreography_on (Scope index leader inner extra props level) others more =
    let head = λ (list : List Lexeme). Reserved word.Scope ∷ Symbol punctuator.At ∷ Name leader.0 ∷ Symbol punctuator.LeftBrace ∷ list in
    ap (λ list. head (written_choreography inner (Symbol punctuator.RightBrace ∷ written_roles extra list))) (properties_on props others more)
    ∙ ap (λ list. head (written_choreography inner (Symbol punctuator.RightBrace ∷ list))) (roles_on extra (written_properties props others) more)
    ∙ ap head (choreography_on inner (Symbol punctuator.RightBrace ∷ written_roles extra (written_properties props others)) more)

priority_on : (z : ℤ) → GoesOn (written_priority z)
priority_on (pos zero) others more = refl
priority_on (pos (suc n)) others more = refl
priority_on (negsuc n) others more = refl

pub rule_on : (rule : PlainRule) → GoesOn (written_rule rule)
rule_on rule others more =
    let head = λ (list : List Lexeme). Reserved word.Rule ∷ Name rule.name ∷ list in
    let body = written_choreography rule.body (closing others) in
    let cond = written_expression rule.cond (doing body) in
    ap (λ list. head (written_priority rule.priority (opening (written_expression rule.cond (doing list))))) (choreography_on rule.body (closing others) more)
    ∙ ap (λ list. head (written_priority rule.priority (opening list))) (expression_on rule.cond (doing body) more)
    ∙ ap head (priority_on rule.priority (opening cond) more)

pub bound_on : (bound : List ℕ × Value) → GoesOn (written_bound bound)
bound_on bound others more = ap (λ list. Name bound.0 ∷ Symbol punctuator.Equal ∷ list) (value_on bound.1 (Symbol punctuator.Semicolon ∷ others) more)

pub next_value_on : (value : Value) → GoesOn (written_next_value value)
next_value_on value others more = ap (λ list. Symbol punctuator.Comma ∷ list) (value_on value others more)

-- items one after another
pub all_on : {A : Type 0} (write : A → List Lexeme → List Lexeme) → ((item : A) → GoesOn (write item)) → (items : List A) → GoesOn (written_all write items)
all_on write each [] others more = refl
all_on write each (first ∷ rest) others more = ap (write first) (all_on write each rest others more) ∙ each first (written_all write rest others) more

values_on : (values : List Value) → GoesOn (written_values values)
values_on [] others more = refl
values_on (first ∷ rest) others more = ap (written_value first) (all_on written_next_value next_value_on rest others more) ∙ value_on first (written_all written_next_value rest others) more

pub input_on : (input : Role × List Value) → GoesOn (written_input input)
input_on input others more = ap (λ list. Name input.0.0 ∷ Symbol punctuator.Colon ∷ list) (values_on input.1 (Symbol punctuator.Semicolon ∷ others) more)

change_on : (change : PlainChange) → GoesOn (written_change change)
change_on (Add rule) others more = ap (λ list. Name (codes "add") ∷ list) (rule_on rule others more)
change_on (Drop name) others more = refl
change_on (EnvChange key value) others more = ap (λ list. Name (codes "env") ∷ Name key ∷ Symbol punctuator.Equal ∷ list) (value_on value others more)

pub timed_on : (timed : PlainTimed) → GoesOn (written_timed timed)
timed_on timed others more = ap (λ list. Name (codes "after") ∷ Number (decimal timed.after) ∷ list) (change_on timed.change others more)
