-- What is written is read again.
use Rattle.std.specs.Prelude.{◌≡◌, ℕ, ◌≤◌, Bool, true, List, [], drop, None}
use Rattle.dioc_terms.specs.Expressions.{Expression}
use Rattle.dioc_terms.specs.Bundles.{is_formed_step, is_formed_condition}
use Rattle.aioc_tokens.specs.Lexemes.{Lexeme, sort_of, HasLexemes}
use Rattle.aioc_tokens.specs.Spelling.{spelled}
use Rattle.aioc_tokens.specs.Fronts.{Longest}
use Rattle.expr_syntax.specs.Levels.{operator}
use Rattle.expr_syntax.specs.Grammar.{IsExpression}
use Rattle.expr_syntax.specs.Writing.{written}
use Rattle.expr_syntax.specs.declared.levels.ExprKind.{ExprKind}
use Rattle.expr_syntax.specs.declared.levels.ExprKind.TheVariants.{Step, Condition}
use Rattle.expr_syntax.specs.declared.levels.Level.{Level}

-- an expression of this kind that a text can spell
abbrev pub is_formed : ExprKind → Expression → Bool
is_formed Step whole = is_formed_step whole
is_formed Condition whole = is_formed_condition whole

-- the first token of what follows is no operator
abbrev pub NoOperatorFirst : ExprKind → List Lexeme → Type 0
NoOperatorFirst kind others = (level : Level) → operator kind level (sort_of others) ≡ None

-- the text that is written of an expression has the lexemes that were written
abbrev pub WrittenIsSpelled : Type 0
WrittenIsSpelled = (kind : ExprKind) (whole : Expression) → is_formed kind whole ≡ true
    → HasLexemes (spelled (written whole [])) (written whole [])

-- they read as that expression, whatever follows that is no operator; 63 open brackets suffice
abbrev pub WrittenIsRead : Type 0
WrittenIsRead = (kind : ExprKind) (whole : Expression) (room : ℕ) (others : List Lexeme)
    → is_formed kind whole ≡ true → 63 ≤ room → NoOperatorFirst kind others
    → Longest (IsExpression kind room (written whole others)) whole others

-- and as no other: a place has one longest expression
abbrev pub OneLongest : Type 0
OneLongest = (kind : ExprKind) (room : ℕ) (from to end : List Lexeme) (whole other : Expression)
    → Longest (IsExpression kind room from) whole to
    → Longest (IsExpression kind room from) other end → (whole ≡ other) × (to ≡ end)

-- What is read from a text is formed: a step's expression is one of a step, a condition one of a
-- condition.
abbrev pub ReadIsFormed : Type 0
ReadIsFormed = (kind : ExprKind) (room : ℕ) (bytes : List ℕ) (found : List Lexeme) (at : ℕ)
    (whole : Expression) (to : List Lexeme) → HasLexemes bytes found
    → IsExpression kind room (drop at found) whole to → is_formed kind whole ≡ true
