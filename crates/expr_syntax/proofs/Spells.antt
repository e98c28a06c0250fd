-- The bytes of an expression are the spelling of its lexemes.
use Rattle.std.proofs.Common.{◌≡◌, ℕ, suc, ◌<◌, Bool, true, false, List, [], ◌∷◌, ◌++◌, pos, negsuc, refl, ap, sym, ◌∙◌, append_assoc, append-nil, decimal, length, arith}
use Rattle.dioc_terms.specs.declared.values.Value.{Value}
use Rattle.dioc_terms.specs.declared.values.Value.TheVariants as value
use Rattle.dioc_terms.specs.Expressions.{Expression, Const, Var, Prop, Env, Not, Neg, Bin}
use Rattle.aioc_tokens.specs.declared.words.Word.TheVariants as word
use Rattle.aioc_tokens.specs.declared.words.Punctuator.TheVariants as punctuator
use Rattle.aioc_tokens.specs.Lexemes.{Lexeme, Name, Number, Text, Reserved, Symbol}
use Rattle.aioc_tokens.specs.Spelling.{spelling, spelled}
use Rattle.text_pieces.specs.declared.values.Minus.TheVariants.{Apart}
use Rattle.text_pieces.specs.Pieces.{value_text}
use Rattle.expr_syntax.specs.Writing.{is_compound, operator_lexeme, written_value, with_open, with_close, written}
use Rattle.expr_syntax.specs.Pieces.{opening_text, closing_text, expression_text}

-- what follows, with a space before it
abbrev pub behind : List Lexeme → List ℕ
behind [] = []
behind (first ∷ others) = 32 ∷ spelled (first ∷ others)

pub spelled_first : (first : Lexeme) (others : List Lexeme) → spelled (first ∷ others) ≡ spelling first ++ behind others
spelled_first first [] = sym (append-nil (spelling first))
spelled_first first (next ∷ others) = refl

value_spelled : (v : Value) (others : List Lexeme) → spelled (written_value v others) ≡ value_text Apart v ++ behind others
value_spelled value.Nil others = spelled_first (Reserved word.Nil) others
value_spelled (value.Bool true) others = spelled_first (Reserved word.True) others
value_spelled (value.Bool false) others = spelled_first (Reserved word.False) others
value_spelled (value.Int (pos n)) others = spelled_first (Number (decimal n)) others
value_spelled (value.Int (negsuc n)) others = ap (λ rest. 45 ∷ 32 ∷ rest) (spelled_first (Number (decimal (suc n))) others)
value_spelled (value.Text bytes) others = spelled_first (Text bytes) others

-- an expression has a lexeme
opened_some : (compound : Bool) (others : List Lexeme) → 0 < length others → 0 < length (with_open compound others)
opened_some true others some = omega arith
opened_some false others some = some

value_some : (v : Value) (others : List Lexeme) → 0 < length (written_value v others)
value_some (value.Int (pos n)) others = omega arith
value_some (value.Int (negsuc n)) others = omega arith
value_some value.Nil others = omega arith
value_some (value.Bool b) others = omega arith
value_some (value.Text bytes) others = omega arith

pub written_some : (whole : Expression) (others : List Lexeme) → 0 < length (written whole others)
written_some (Const v) others = value_some v others
written_some (Var x) others = omega arith
written_some (Prop x) others = omega arith
written_some (Env x) others = omega arith
written_some (Not e) others = omega arith
written_some (Neg e) others = omega arith
written_some (Bin oper a b) others =
    let rest = with_close (is_compound a) (operator_lexeme oper ∷ with_open (is_compound b) (written b (with_close (is_compound b) others))) in
    opened_some (is_compound a) (written a rest) (written_some a rest)

pub behind_some : (others : List Lexeme) → 0 < length others → behind others ≡ 32 ∷ spelled others
behind_some [] some = absurd (omega arith)
behind_some (first ∷ others) some = refl

opened_spelled : (compound : Bool) (others : List Lexeme) → 0 < length others → spelled (with_open compound others) ≡ opening_text compound ++ spelled others
opened_spelled true others some = spelled_first (Symbol punctuator.LeftParen) others ∙ ap (λ rest. 40 ∷ rest) (behind_some others some)
opened_spelled false others some = refl

closed_behind : (compound : Bool) (others : List Lexeme) → behind (with_close compound others) ≡ closing_text compound ++ behind others
closed_behind true others = ap (λ rest. 32 ∷ rest) (spelled_first (Symbol punctuator.RightParen) others)
closed_behind false others = refl

operand_spelled : (e : Expression) (others : List Lexeme) → spelled (written e (with_close (is_compound e) others)) ≡ expression_text e ++ behind (with_close (is_compound e) others)
    → spelled (with_open (is_compound e) (written e (with_close (is_compound e) others))) ≡ opening_text (is_compound e) ++ (expression_text e ++ (closing_text (is_compound e) ++ behind others))
operand_spelled e others is =
    opened_spelled (is_compound e) (written e (with_close (is_compound e) others)) (written_some e (with_close (is_compound e) others))
    ∙ ap (λ rest. opening_text (is_compound e) ++ rest) (is ∙ ap (λ rest. expression_text e ++ rest) (closed_behind (is_compound e) others))

operand_some : (e : Expression) (others : List Lexeme) → 0 < length (with_open (is_compound e) (written e (with_close (is_compound e) others)))
operand_some e others = opened_some (is_compound e) (written e (with_close (is_compound e) others)) (written_some e (with_close (is_compound e) others))

pub written_spelled : (whole : Expression) (others : List Lexeme) → spelled (written whole others) ≡ expression_text whole ++ behind others
written_spelled (Const v) others = value_spelled v others
written_spelled (Var x) others = spelled_first (Name x) others
written_spelled (Prop x) others = ap (λ rest. 78 ∷ 32 ∷ 46 ∷ 32 ∷ rest) (spelled_first (Name x) others)
written_spelled (Env x) others = ap (λ rest. 69 ∷ 32 ∷ 46 ∷ 32 ∷ rest) (spelled_first (Name x) others)
written_spelled (Not e) others =
    let inside = with_open (is_compound e) (written e (with_close (is_compound e) others)) in
    spelled_first (Reserved word.Not) inside
    ∙ ap (λ rest. 110 ∷ 111 ∷ 116 ∷ rest) (behind_some inside (operand_some e others))
    ∙ ap (λ rest. 110 ∷ 111 ∷ 116 ∷ 32 ∷ rest) (operand_spelled e others (written_spelled e (with_close (is_compound e) others)))
    ∙ simp append_assoc
written_spelled (Neg e) others =
    let inside = written e (Symbol punctuator.RightParen ∷ others) in
    ap (λ rest. 45 ∷ 32 ∷ rest) (spelled_first (Symbol punctuator.LeftParen) inside)
    ∙ ap (λ rest. 45 ∷ 32 ∷ 40 ∷ rest) (behind_some inside (written_some e (Symbol punctuator.RightParen ∷ others)))
    ∙ ap (λ rest. 45 ∷ 32 ∷ 40 ∷ 32 ∷ rest) (written_spelled e (Symbol punctuator.RightParen ∷ others))
    ∙ ap (λ rest. 45 ∷ 32 ∷ 40 ∷ 32 ∷ (expression_text e ++ 32 ∷ rest)) (spelled_first (Symbol punctuator.RightParen) others)
    ∙ simp append_assoc
written_spelled (Bin oper a b) others =
    let right = with_open (is_compound b) (written b (with_close (is_compound b) others)) in
    let rest = operator_lexeme oper ∷ right in
    operand_spelled a rest (written_spelled a (with_close (is_compound a) rest))
    ∙ ap (λ more. opening_text (is_compound a) ++ (expression_text a ++ (closing_text (is_compound a) ++ 32 ∷ more)))
    (spelled_first (operator_lexeme oper) right
    ∙ ap (λ more. spelling (operator_lexeme oper) ++ more) (behind_some right (operand_some b others) ∙ ap (λ more. 32 ∷ more) (operand_spelled b others (written_spelled b (with_close (is_compound b) others)))))
    ∙ simp append_assoc

-- the text of an expression alone
pub text_spelled : (whole : Expression) → expression_text whole ≡ spelled (written whole [])
text_spelled whole = sym (written_spelled whole [] ∙ append-nil (expression_text whole))

-- an expression is written alike whatever follows
pub spelled_before : (whole : Expression) (others : List Lexeme) → spelled (written whole others) ≡ spelled (written whole []) ++ behind others
spelled_before whole others = written_spelled whole others ∙ ap (λ text. text ++ behind others) (text_spelled whole)
