-- How choreographies are written.
use Rattle.std.specs.Prelude.{ℕ, Bool, true, false, List, [], ◌∷◌, codes}
use Rattle.dioc_terms.specs.declared.names.Role.{Role}
use Rattle.dioc_terms.specs.declared.values.Value.{Value}
use Rattle.dioc_terms.specs.Terms.{Term, Skip, Com, Set, Input, Seq, Par, If, While, Scope}
use Rattle.aioc_tokens.specs.declared.words.Word.TheVariants as word
use Rattle.aioc_tokens.specs.declared.words.Punctuator.TheVariants as punctuator
use Rattle.aioc_tokens.specs.Lexemes.{Lexeme, Name, Reserved, Symbol}
use Rattle.expr_syntax.specs.Writing.{written_value, with_open, with_close}
use Rattle.expr_syntax.specs.Writing.{written as written_expression}

-- the left part of a sequence stands in brackets where it is one of these
abbrev pub is_joined : Term → Bool
is_joined (Seq first second) = true
is_joined (Par first second) = true
is_joined _ = false

-- the right part of a sequence and the left part of a parallel stand in brackets where they are
-- this
abbrev pub is_parallel : Term → Bool
is_parallel (Par first second) = true
is_parallel _ = false

-- the lexemes of roles with commas between them, and those that follow
abbrev pub written_names : List Role → List Lexeme → List Lexeme
written_names [] others = others
written_names (last ∷ []) others = Name last.0 ∷ others
written_names (first ∷ next ∷ rest) others =
    Name first.0 ∷ Symbol punctuator.Comma ∷ written_names (next ∷ rest) others

abbrev pub written_roles : List Role → List Lexeme → List Lexeme
written_roles [] others = others
written_roles extra others =
    Name (codes "roles") ∷ Symbol punctuator.LeftBrace
    ∷ written_names extra (Symbol punctuator.RightBrace ∷ others)

abbrev pub written_property : List ℕ × Value → List Lexeme → List Lexeme
written_property property others =
    Reserved word.N ∷ Symbol punctuator.Dot ∷ Name property.0 ∷ Symbol punctuator.Equal
    ∷ written_value property.1 others

abbrev pub written_list : List (List ℕ × Value) → List Lexeme → List Lexeme
written_list [] others = others
written_list (last ∷ []) others = written_property last others
written_list (first ∷ next ∷ rest) others =
    written_property first (Symbol punctuator.Comma ∷ written_list (next ∷ rest) others)

abbrev pub written_properties : List (List ℕ × Value) → List Lexeme → List Lexeme
written_properties [] others = others
written_properties props others =
    Reserved word.Prop ∷ Symbol punctuator.LeftBrace
    ∷ written_list props (Symbol punctuator.RightBrace ∷ others)

-- the lexemes of a choreography, and those that follow
abbrev pub written : Term → List Lexeme → List Lexeme
written Skip others = Reserved word.Skip ∷ others
written (Com index operation sender value receiver variable) others =
    Name operation ∷ Symbol punctuator.Colon ∷ Name sender.0 ∷ Symbol punctuator.LeftParen
    ∷ written_expression value (Symbol punctuator.RightParen ∷ Symbol punctuator.Arrow
    ∷ Name receiver.0 ∷ Symbol punctuator.LeftParen ∷ Name variable ∷ Symbol punctuator.RightParen
    ∷ others)
written (Set index variable owner value) others =
    Name variable ∷ Symbol punctuator.At ∷ Name owner.0 ∷ Symbol punctuator.Equal
    ∷ written_expression value others
written (Input index variable owner) others =
    Name variable ∷ Symbol punctuator.At ∷ Name owner.0 ∷ Symbol punctuator.Equal
    ∷ Reserved word.Input ∷ Symbol punctuator.LeftParen ∷ Symbol punctuator.RightParen ∷ others
written (Seq first second) others =
    with_open (is_joined first) (written first
    (with_close (is_joined first) (Symbol punctuator.Semicolon
    ∷ with_open (is_parallel second) (written second (with_close (is_parallel second) others)))))
written (Par first second) others =
    with_open (is_parallel first) (written first
    (with_close (is_parallel first) (Symbol punctuator.Bar ∷ written second others)))
written (If index leader guard first second) others =
    Reserved word.If ∷ written_expression guard
    (Symbol punctuator.At ∷ Name leader.0 ∷ Symbol punctuator.LeftBrace
    ∷ written first (Symbol punctuator.RightBrace ∷ Reserved word.Else ∷ Symbol punctuator.LeftBrace
    ∷ written second (Symbol punctuator.RightBrace ∷ others)))
written (While index leader guard inner) others =
    Reserved word.While ∷ written_expression guard
    (Symbol punctuator.At ∷ Name leader.0 ∷ Symbol punctuator.LeftBrace
    ∷ written inner (Symbol punctuator.RightBrace ∷ others))
written (Scope index leader inner extra props level) others =
    Reserved word.Scope ∷ Symbol punctuator.At ∷ Name leader.0 ∷ Symbol punctuator.LeftBrace
    ∷ written inner (Symbol punctuator.RightBrace
    ∷ written_roles extra (written_properties props others))
