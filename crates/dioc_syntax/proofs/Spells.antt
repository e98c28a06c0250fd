-- The bytes of a choreography are the spelling of its lexemes.
use Rattle.std.proofs.Common.{◌≡◌, ℕ, ◌<◌, Bool, true, false, List, [], ◌∷◌, ◌++◌, refl, ap, sym, ◌∙◌, append_assoc, append-nil, length, arith, codes}
use Rattle.std.specs.List.{flat_map}
use Rattle.dioc_terms.specs.declared.names.Role.{Role}
use Rattle.dioc_terms.specs.declared.values.Value.{Value}
use Rattle.dioc_terms.specs.Expressions.{Expression, Const}
use Rattle.dioc_terms.specs.Terms.{Term, Skip, Com, Set, Input, Seq, Par, If, While, Scope}
use Rattle.aioc_tokens.specs.declared.words.Word.TheVariants as word
use Rattle.aioc_tokens.specs.declared.words.Punctuator.TheVariants as punctuator
use Rattle.aioc_tokens.specs.Lexemes.{Lexeme, Name, Reserved, Symbol}
use Rattle.aioc_tokens.specs.Spelling.{spelling, spelled}
use Rattle.expr_syntax.specs.Writing.{with_open, with_close}
use Rattle.expr_syntax.specs.Writing.{written as written_expression}
use Rattle.expr_syntax.specs.Pieces.{opening_text, closing_text}
use Rattle.expr_syntax.proofs.Spells.{behind, spelled_first, behind_some}
use Rattle.expr_syntax.proofs.Spells.{spelled_before as expression_before}
use Rattle.expr_syntax.proofs.Spells.{written_some as expression_some}
use Rattle.dioc_syntax.specs.Writing.{is_joined, is_parallel, written_names, written_roles, written_property, written_list, written_properties, written}
use Rattle.dioc_syntax.specs.Pieces.{expression_text, next_role_text, roles_text, property_text, next_property_text, properties_text, receiver_text, leader_text, choreography_text}

-- a lexeme that others follow
spelled_on : (first : Lexeme) (others : List Lexeme) → 0 < length others → spelled (first ∷ others) ≡ spelling first ++ 32 ∷ spelled others
spelled_on first others some = spelled_first first others ∙ ap (λ rest. spelling first ++ rest) (behind_some others some)

-- a lexeme that an expression follows
before_expression : (first : Lexeme) (e : Expression) (others : List Lexeme) → spelled (first ∷ written_expression e others) ≡ spelling first ++ 32 ∷ (expression_text e ++ behind others)
before_expression first e others =
    spelled_on first (written_expression e others) (expression_some e others) ∙ ap (λ rest. spelling first ++ 32 ∷ rest) (expression_before e others)

-- a choreography has a lexeme
opened_some : (bracketed : Bool) (others : List Lexeme) → 0 < length others → 0 < length (with_open bracketed others)
opened_some true others some = omega arith
opened_some false others some = some

pub written_some : (whole : Term) (others : List Lexeme) → 0 < length (written whole others)
written_some Skip others = omega arith
written_some (Com index operation sender value receiver variable) others = omega arith
written_some (Set index variable owner value) others = omega arith
written_some (Input index variable owner) others = omega arith
written_some (Seq first second) others =
    let rest = with_close (is_joined first) (Symbol punctuator.Semicolon ∷ with_open (is_parallel second) (written second (with_close (is_parallel second) others))) in
    opened_some (is_joined first) (written first rest) (written_some first rest)
written_some (Par first second) others =
    let rest = with_close (is_parallel first) (Symbol punctuator.Bar ∷ written second others) in opened_some (is_parallel first) (written first rest) (written_some first rest)
written_some (If index leader guard first second) others = omega arith
written_some (While index leader guard inner) others = omega arith
written_some (Scope index leader inner extra props level) others = omega arith

-- a part, in brackets where it needs them
opened_spelled : (bracketed : Bool) (others : List Lexeme) → 0 < length others → spelled (with_open bracketed others) ≡ opening_text bracketed ++ spelled others
opened_spelled true others some = spelled_on (Symbol punctuator.LeftParen) others some
opened_spelled false others some = refl

closed_behind : (bracketed : Bool) (others : List Lexeme) → behind (with_close bracketed others) ≡ closing_text bracketed ++ behind others
closed_behind true others = ap (λ rest. 32 ∷ rest) (spelled_first (Symbol punctuator.RightParen) others)
closed_behind false others = refl

part_spelled : (bracketed : Bool) (whole : Term) (others : List Lexeme) → spelled (written whole (with_close bracketed others)) ≡ choreography_text whole ++ behind (with_close bracketed others)
    → spelled (with_open bracketed (written whole (with_close bracketed others))) ≡ opening_text bracketed ++ (choreography_text whole ++ (closing_text bracketed ++ behind others))
part_spelled bracketed whole others is =
    opened_spelled bracketed (written whole (with_close bracketed others)) (written_some whole (with_close bracketed others))
    ∙ ap (λ rest. opening_text bracketed ++ rest) (is ∙ ap (λ rest. choreography_text whole ++ rest) (closed_behind bracketed others))

part_some : (bracketed : Bool) (whole : Term) (others : List Lexeme) → 0 < length (with_open bracketed (written whole (with_close bracketed others)))
part_some bracketed whole others = opened_some bracketed (written whole (with_close bracketed others)) (written_some whole (with_close bracketed others))

-- a block
block_spelled : (whole : Term) (others : List Lexeme) → spelled (written whole (Symbol punctuator.RightBrace ∷ others)) ≡ choreography_text whole ++ behind (Symbol punctuator.RightBrace ∷ others)
    → spelled (Symbol punctuator.LeftBrace ∷ written whole (Symbol punctuator.RightBrace ∷ others)) ≡ 123 ∷ 32 ∷ (choreography_text whole ++ 32 ∷ 125 ∷ behind others)
block_spelled whole others is =
    spelled_on (Symbol punctuator.LeftBrace) (written whole (Symbol punctuator.RightBrace ∷ others)) (written_some whole (Symbol punctuator.RightBrace ∷ others))
    ∙ ap (λ rest. 123 ∷ 32 ∷ rest) (is ∙ ap (λ rest. choreography_text whole ++ 32 ∷ rest) (spelled_first (Symbol punctuator.RightBrace) others))

-- the further roles of a scope
names_some : (first : Role) (rest : List Role) (others : List Lexeme) → 0 < length (written_names (first ∷ rest) others)
names_some first [] others = omega arith
names_some first (next ∷ rest) others = omega arith

names_spelled : (first : Role) (rest : List Role) (others : List Lexeme) → spelled (written_names (first ∷ rest) others) ≡ first.0 ++ (flat_map next_role_text rest ++ behind others)
names_spelled first [] others = spelled_first (Name first.0) others
names_spelled first (next ∷ rest) others =
    ap (λ more. first.0 ++ 32 ∷ more) (spelled_on (Symbol punctuator.Comma) (written_names (next ∷ rest) others) (names_some next rest others))
    ∙ ap (λ more. first.0 ++ 32 ∷ 44 ∷ 32 ∷ more) (names_spelled next rest others) ∙ simp append_assoc

roles_behind : (extra : List Role) (others : List Lexeme) → behind (written_roles extra others) ≡ roles_text extra ++ behind others
roles_behind [] others = refl
roles_behind (first ∷ rest) others =
    let names = written_names (first ∷ rest) (Symbol punctuator.RightBrace ∷ others) in
    ap (λ more. codes " roles " ++ more) (spelled_on (Symbol punctuator.LeftBrace) names (names_some first rest (Symbol punctuator.RightBrace ∷ others)))
    ∙ ap (λ more. codes " roles { " ++ more) (names_spelled first rest (Symbol punctuator.RightBrace ∷ others))
    ∙ ap (λ more. codes " roles { " ++ (first.0 ++ (flat_map next_role_text rest ++ 32 ∷ more))) (spelled_first (Symbol punctuator.RightBrace) others) ∙ simp append_assoc

-- the properties of a scope
property_spelled : (property : List ℕ × Value) (others : List Lexeme) → spelled (written_property property others) ≡ property_text property ++ behind others
property_spelled property others =
    ap (λ more. codes "N . " ++ (property.0 ++ 32 ∷ more)) (before_expression (Symbol punctuator.Equal) (Const property.1) others) ∙ simp append_assoc

list_some : (first : List ℕ × Value) (rest : List (List ℕ × Value)) (others : List Lexeme) → 0 < length (written_list (first ∷ rest) others)
list_some first [] others = omega arith
list_some first (next ∷ rest) others = omega arith

list_spelled : (first : List ℕ × Value) (rest : List (List ℕ × Value)) (others : List Lexeme) → spelled (written_list (first ∷ rest) others) ≡ property_text first ++ (flat_map next_property_text rest ++ behind others)
list_spelled first [] others = property_spelled first others
list_spelled first (next ∷ rest) others =
    property_spelled first (Symbol punctuator.Comma ∷ written_list (next ∷ rest) others)
    ∙ ap (λ more. property_text first ++ 32 ∷ more) (spelled_on (Symbol punctuator.Comma) (written_list (next ∷ rest) others) (list_some next rest others))
    ∙ ap (λ more. property_text first ++ 32 ∷ 44 ∷ 32 ∷ more) (list_spelled next rest others) ∙ simp append_assoc

properties_behind : (props : List (List ℕ × Value)) (others : List Lexeme) → behind (written_properties props others) ≡ properties_text props ++ behind others
properties_behind [] others = refl
properties_behind (first ∷ rest) others =
    let list = written_list (first ∷ rest) (Symbol punctuator.RightBrace ∷ others) in
    ap (λ more. codes " prop " ++ more) (spelled_on (Symbol punctuator.LeftBrace) list (list_some first rest (Symbol punctuator.RightBrace ∷ others)))
    ∙ ap (λ more. codes " prop { " ++ more) (list_spelled first rest (Symbol punctuator.RightBrace ∷ others))
    ∙ ap (λ more. codes " prop { " ++ (property_text first ++ (flat_map next_property_text rest ++ 32 ∷ more))) (spelled_first (Symbol punctuator.RightBrace) others) ∙ simp append_assoc

-- what is sent, and what receives it
sent_spelled : (value : Expression) (receiver : Role) (variable : List ℕ) (others : List Lexeme)
    → spelled (Symbol punctuator.LeftParen ∷ written_expression value (Symbol punctuator.RightParen ∷ Symbol punctuator.Arrow ∷ Name receiver.0 ∷ Symbol punctuator.LeftParen ∷ Name variable ∷ Symbol punctuator.RightParen ∷ others))
    ≡ codes "( " ++ (expression_text value ++ (receiver_text receiver variable ++ behind others))
sent_spelled value receiver variable others =
    before_expression (Symbol punctuator.LeftParen) value (Symbol punctuator.RightParen ∷ Symbol punctuator.Arrow ∷ Name receiver.0 ∷ Symbol punctuator.LeftParen ∷ Name variable ∷ Symbol punctuator.RightParen ∷ others)
    ∙ ap (λ rest. codes "( " ++ (expression_text value ++ (codes " ) -> " ++ (receiver.0 ++ (codes " ( " ++ (variable ++ 32 ∷ rest)))))) (spelled_first (Symbol punctuator.RightParen) others)
    ∙ simp append_assoc

leader_on : (leader : Role) (rest : List ℕ) → leader_text leader ++ rest ≡ codes " @ " ++ (leader.0 ++ (codes " { " ++ rest))
leader_on leader rest = simp append_assoc

regrouped_choice : (a b c d e f g rest : List ℕ) → a ++ (b ++ (c ++ (d ++ (e ++ (f ++ (g ++ rest)))))) ≡ ((a ++ b ++ c) ++ d ++ e ++ f ++ g) ++ rest
regrouped_choice a b c d e f g rest = simp append_assoc

regrouped_loop : (a b c d e rest : List ℕ) → a ++ (b ++ (c ++ (d ++ (e ++ rest)))) ≡ ((a ++ b ++ c) ++ d ++ e) ++ rest
regrouped_loop a b c d e rest = simp append_assoc

regrouped_scope : (a b c d e f rest : List ℕ) → a ++ (b ++ (c ++ (d ++ (e ++ (f ++ rest))))) ≡ ((a ++ b) ++ c ++ d ++ e ++ f) ++ rest
regrouped_scope a b c d e f rest = simp append_assoc

pub written_spelled : (whole : Term) (others : List Lexeme) → spelled (written whole others) ≡ choreography_text whole ++ behind others
written_spelled Skip others = spelled_first (Reserved word.Skip) others
written_spelled (Com index operation sender value receiver variable) others =
    ap (λ rest. operation ++ (codes " : " ++ (sender.0 ++ 32 ∷ rest))) (sent_spelled value receiver variable others) ∙ simp append_assoc
written_spelled (Set index variable owner value) others =
    ap (λ rest. variable ++ (codes " @ " ++ (owner.0 ++ 32 ∷ rest))) (before_expression (Symbol punctuator.Equal) value others) ∙ simp append_assoc
written_spelled (Input index variable owner) others =
    ap (λ rest. variable ++ (codes " @ " ++ (owner.0 ++ (codes " = input ( " ++ rest)))) (spelled_first (Symbol punctuator.RightParen) others) ∙ simp append_assoc
written_spelled (Seq first second) others =
    let right = with_open (is_parallel second) (written second (with_close (is_parallel second) others)) in
    let rest = Symbol punctuator.Semicolon ∷ right in
    part_spelled (is_joined first) first rest (written_spelled first (with_close (is_joined first) rest))
    ∙ ap (λ more. opening_text (is_joined first) ++ (choreography_text first ++ (closing_text (is_joined first) ++ 32 ∷ more)))
    (spelled_on (Symbol punctuator.Semicolon) right (part_some (is_parallel second) second others)
    ∙ ap (λ more. 59 ∷ 32 ∷ more) (part_spelled (is_parallel second) second others (written_spelled second (with_close (is_parallel second) others))))
    ∙ simp append_assoc
written_spelled (Par first second) others =
    let rest = Symbol punctuator.Bar ∷ written second others in
    part_spelled (is_parallel first) first rest (written_spelled first (with_close (is_parallel first) rest))
    ∙ ap (λ more. opening_text (is_parallel first) ++ (choreography_text first ++ (closing_text (is_parallel first) ++ 32 ∷ more)))
    (spelled_on (Symbol punctuator.Bar) (written second others) (written_some second others) ∙ ap (λ more. 124 ∷ 32 ∷ more) (written_spelled second others))
    ∙ simp append_assoc
written_spelled (If index leader guard first second) others =
    let other = Symbol punctuator.LeftBrace ∷ written second (Symbol punctuator.RightBrace ∷ others) in
    let tail = Symbol punctuator.RightBrace ∷ Reserved word.Else ∷ other in
    before_expression (Reserved word.If) guard (Symbol punctuator.At ∷ Name leader.0 ∷ Symbol punctuator.LeftBrace ∷ written first tail)
    ∙ ap (λ rest. codes "if " ++ (expression_text guard ++ (codes " @ " ++ (leader.0 ++ 32 ∷ rest)))) (block_spelled first (Reserved word.Else ∷ other) (written_spelled first tail))
    ∙ ap (λ rest. codes "if " ++ (expression_text guard ++ (codes " @ " ++ (leader.0 ++ (codes " { " ++ (choreography_text first ++ (codes " } else " ++ rest)))))))
    (block_spelled second others (written_spelled second (Symbol punctuator.RightBrace ∷ others)))
    ∙ ap (λ rest. codes "if " ++ (expression_text guard ++ rest))
    (sym (leader_on leader (choreography_text first ++ (codes " } else { " ++ (choreography_text second ++ (codes " }" ++ behind others))))))
    ∙ regrouped_choice (codes "if ") (expression_text guard) (leader_text leader) (choreography_text first) (codes " } else { ") (choreography_text second) (codes " }") (behind others)
written_spelled (While index leader guard inner) others =
    before_expression (Reserved word.While) guard (Symbol punctuator.At ∷ Name leader.0 ∷ Symbol punctuator.LeftBrace ∷ written inner (Symbol punctuator.RightBrace ∷ others))
    ∙ ap (λ rest. codes "while " ++ (expression_text guard ++ (codes " @ " ++ (leader.0 ++ 32 ∷ rest)))) (block_spelled inner others (written_spelled inner (Symbol punctuator.RightBrace ∷ others)))
    ∙ ap (λ rest. codes "while " ++ (expression_text guard ++ rest)) (sym (leader_on leader (choreography_text inner ++ (codes " }" ++ behind others))))
    ∙ regrouped_loop (codes "while ") (expression_text guard) (leader_text leader) (choreography_text inner) (codes " }") (behind others)
written_spelled (Scope index leader inner extra props level) others =
    let tail = written_roles extra (written_properties props others) in
    ap (λ rest. codes "scope @ " ++ (leader.0 ++ 32 ∷ rest)) (block_spelled inner tail (written_spelled inner (Symbol punctuator.RightBrace ∷ tail)))
    ∙ ap (λ rest. codes "scope @ " ++ (leader.0 ++ (codes " { " ++ (choreography_text inner ++ (codes " }" ++ rest)))))
    (roles_behind extra (written_properties props others) ∙ ap (λ rest. roles_text extra ++ rest) (properties_behind props others))
    ∙ ap (λ rest. codes "scope" ++ rest) (sym (leader_on leader (choreography_text inner ++ (codes " }" ++ (roles_text extra ++ (properties_text props ++ behind others))))))
    ∙ regrouped_scope (codes "scope") (leader_text leader) (choreography_text inner) (codes " }") (roles_text extra) (properties_text props) (behind others)

-- the text of a choreography alone
pub text_spelled : (whole : Term) → choreography_text whole ≡ spelled (written whole [])
text_spelled whole = sym (written_spelled whole [] ∙ append-nil (choreography_text whole))

-- a choreography is written alike whatever follows
pub spelled_before : (whole : Term) (others : List Lexeme) → spelled (written whole others) ≡ spelled (written whole []) ++ behind others
spelled_before whole others = written_spelled whole others ∙ ap (λ text. text ++ behind others) (text_spelled whole)
