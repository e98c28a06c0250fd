-- The bytes of a rule are the spelling of its lexemes.
use Rattle.std.proofs.Common.{◌≡◌, ◌≢◌, ℕ, zero, suc, ◌<◌, List, [], ◌∷◌, ◌++◌, length, ℤ, pos, negsuc, codes, decimal, refl, ap, sym, ◌∙◌, append_assoc, append-nil, arith}
use Rattle.dioc_terms.specs.Terms.{Term}
use Rattle.dioc_terms.specs.Expressions.{Expression}
use Rattle.dioc_terms.specs.Plain.{PlainRule}
use Rattle.aioc_tokens.specs.declared.words.Word.TheVariants as word
use Rattle.aioc_tokens.specs.declared.words.Punctuator.TheVariants as punctuator
use Rattle.aioc_tokens.specs.Lexemes.{Lexeme, Name, Number, Reserved, Symbol}
use Rattle.aioc_tokens.specs.Spelling.{spelling, spelled}
use Rattle.expr_syntax.specs.Writing.{written_integer}
use Rattle.expr_syntax.specs.Writing.{written as written_expression}
use Rattle.expr_syntax.proofs.Spells.{behind, spelled_first, behind_some}
use Rattle.expr_syntax.proofs.Spells.{spelled_before as expression_before}
use Rattle.expr_syntax.proofs.Spells.{written_some as expression_some}
use Rattle.dioc_syntax.specs.Pieces.{expression_text}
use Rattle.dioc_syntax.specs.Writing.{written as written_choreography}
use Rattle.dioc_syntax.proofs.Spells.{spelled_before as choreography_before}
use Rattle.dioc_syntax.proofs.Spells.{written_some as choreography_some}
use Rattle.rule_syntax.specs.Grammar.{opening, doing, closing}
use Rattle.rule_syntax.specs.Writing.{written_priority, written}
use Rattle.rule_syntax.specs.Pieces.{priority_text, rule_text}

-- a lexeme that others follow
spelled_on : (first : Lexeme) (others : List Lexeme) → 0 < length others → spelled (first ∷ others) ≡ spelling first ++ 32 ∷ spelled others
spelled_on first others some = spelled_first first others ∙ ap (λ rest. spelling first ++ rest) (behind_some others some)

-- a priority that is written
pub priority_text-other : (z : ℤ) → z ≢ pos 0 → codes " priority " ++ spelled (written_integer z []) ≡ priority_text z
priority_text-other (pos zero) other = absurd (other refl)
priority_text-other (pos (suc n)) other = refl
priority_text-other (negsuc n) other = refl

priority_behind : (z : ℤ) (others : List Lexeme) → behind (written_priority z others) ≡ priority_text z ++ behind others
priority_behind (pos zero) others = refl
priority_behind (pos (suc n)) others = ap (λ rest. codes " priority " ++ rest) (spelled_first (Number (decimal (suc n))) others)
priority_behind (negsuc n) others = ap (λ rest. codes " priority - " ++ rest) (spelled_first (Number (decimal (suc n))) others)

closing_behind : (others : List Lexeme) → behind (closing others) ≡ codes " } }" ++ behind others
closing_behind others = ap (λ rest. codes " } " ++ rest) (spelled_first (Symbol punctuator.RightBrace) others)

doing_behind : (body : Term) (others : List Lexeme) → behind (doing (written_choreography body (closing others))) ≡ codes " } do { " ++ (spelled (written_choreography body []) ++ (codes " } }" ++ behind others))
doing_behind body others =
    ap (λ rest. codes " } do " ++ rest) (spelled_on (Symbol punctuator.LeftBrace) (written_choreography body (closing others)) (choreography_some body (closing others)))
    ∙ ap (λ rest. codes " } do { " ++ rest) (choreography_before body (closing others) ∙ ap (λ rest. spelled (written_choreography body []) ++ rest) (closing_behind others))

opening_behind : (cond : Expression) (others : List Lexeme) → behind (opening (written_expression cond others)) ≡ codes " { on { " ++ (expression_text cond ++ behind others)
opening_behind cond others =
    ap (λ rest. codes " { on " ++ rest) (spelled_on (Symbol punctuator.LeftBrace) (written_expression cond others) (expression_some cond others))
    ∙ ap (λ rest. codes " { on { " ++ rest) (expression_before cond others)

regrouped : (head name rank opens cond between does body closes rest : List ℕ) → head ++ (name ++ (rank ++ (opens ++ (cond ++ (between ++ (does ++ (body ++ (closes ++ rest)))))))) ≡ (head ++ name ++ rank ++ (opens ++ cond ++ between) ++ (does ++ body ++ closes)) ++ rest
regrouped head name rank opens cond between does body closes rest = simp append_assoc

pub written_spelled : (rule : PlainRule) (others : List Lexeme) → spelled (written rule others) ≡ rule_text rule ++ behind others
written_spelled rule others =
    let does = doing (written_choreography rule.body (closing others)) in
    let opens = opening (written_expression rule.cond does) in
    ap (λ rest. codes "rule " ++ rest) (spelled_first (Name rule.name) (written_priority rule.priority opens))
    ∙ ap (λ rest. codes "rule " ++ (rule.name ++ rest)) (priority_behind rule.priority opens)
    ∙ ap (λ rest. codes "rule " ++ (rule.name ++ (priority_text rule.priority ++ rest))) (opening_behind rule.cond does)
    ∙ ap (λ rest. codes "rule " ++ (rule.name ++ (priority_text rule.priority ++ (codes " { on { " ++ (expression_text rule.cond ++ rest))))) (doing_behind rule.body others)
    ∙ regrouped (codes "rule ") rule.name (priority_text rule.priority) (codes " { on { ") (expression_text rule.cond) (codes " }") (codes " do { ") (spelled (written_choreography rule.body [])) (codes " } }") (behind others)

-- the text of a rule alone
pub text_spelled : (rule : PlainRule) → rule_text rule ≡ spelled (written rule [])
text_spelled rule = sym (written_spelled rule [] ∙ append-nil (rule_text rule))

-- a rule is written alike whatever follows
pub spelled_before : (rule : PlainRule) (others : List Lexeme) → spelled (written rule others) ≡ spelled (written rule []) ++ behind others
spelled_before rule others = written_spelled rule others ∙ ap (λ text. text ++ behind others) (text_spelled rule)
