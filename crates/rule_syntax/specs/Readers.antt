-- What the readers answer.
use Rattle.std.specs.Prelude.{◌≡◌, ℕ, ◌+◌, ◌-◌, ◌<◌, ◌≤◌, List, ◌∷◌, length, drop, Option, Some, None, ℤ}
use Rattle.dioc_terms.specs.declared.values.Value.{Value}
use Rattle.dioc_terms.specs.declared.bundles.Rule.{Rule}
use Rattle.dioc_terms.specs.declared.expressions.Expr.{Expr}
use Rattle.dioc_terms.specs.declared.choreographies.Choreo.{Choreo}
use Rattle.dioc_terms.specs.Expressions.{Expression, expression}
use Rattle.dioc_terms.specs.Terms.{Term, term}
use Rattle.dioc_terms.specs.Plain.{PlainRule, plain_rule}
use Rattle.aioc_tokens.specs.declared.words.Sort.{Sort}
use Rattle.aioc_tokens.specs.declared.words.Sort.TheVariants as sorts
use Rattle.aioc_tokens.specs.declared.words.Punctuator.TheVariants as punctuator
use Rattle.aioc_tokens.specs.declared.words.Word.TheVariants as word
use Rattle.aioc_tokens.specs.Lexemes.{Lexeme, Name, Reserved, sort_of}
use Rattle.aioc_tokens.specs.Fronts.{Longest, NoFront}
use Rattle.expr_syntax.specs.Grammar.{IsExpression}
use Rattle.expr_syntax.specs.declared.levels.ExprKind.TheVariants as kind
use Rattle.dioc_syntax.specs.Choreographies.{IsChoreography}
use Rattle.rule_syntax.specs.declared.changes.ReadChange.{ReadChange}
use Rattle.rule_syntax.specs.Grammar.{HasPriority, opening, doing, closing, IsRule, IsBinding, PlainChange, plain_change, IsChange}

-- the longest value that a relation reads at a place of the text, and the place behind it
pub record StandsAt {A : Type 0} (Reads : List Lexeme → A → List Lexeme →
    Type 0) (text : List Lexeme) (at : ℕ) (found : A) (next : ℕ) : Type 0 where
  pub front : Longest (Reads (drop at text)) found (drop next text)
  pub after : at < next
  pub within : next ≤ length text

-- what a reader of rules answers: nothing where no rule stands at this place, else the longest one
-- and the place behind it
abbrev pub RuleAt : ℕ → ℕ → List Lexeme → ℕ → Option (PlainRule × ℕ) → Type 0
RuleAt version room text at None = NoFront (IsRule version room (drop at text))
RuleAt version room text at (Some read) = StandsAt (IsRule version room) text at read.0 read.1

abbrev pub ChangeAt : ℕ → ℕ → List Lexeme → ℕ → Option (PlainChange × ℕ) → Type 0
ChangeAt version room text at None = NoFront (IsChange version room (drop at text))
ChangeAt version room text at (Some read) = StandsAt (IsChange version room) text at read.0 read.1

-- what was read, in its plain form, with the place behind it
abbrev pub rule_seen : Rule × ℕ → PlainRule × ℕ
rule_seen read = (plain_rule read.0, read.1)

abbrev pub change_seen : ReadChange × ℕ → PlainChange × ℕ
change_seen read = (plain_change read.0, read.1)

abbrev pub BindingAt : List Lexeme → ℕ → Option ((List ℕ × Value) × ℕ) → Type 0
BindingAt text at None = NoFront (IsBinding (drop at text))
BindingAt text at (Some read) = StandsAt IsBinding text at read.0 read.1

-- a priority that a `{` follows
pub record IsRanked (version : ℕ) (from : List Lexeme) (rank : ℤ) (to : List Lexeme) : Type 0 where
  pub priority : HasPriority version from rank to
  pub opens : sort_of to ≡ sorts.Symbol punctuator.LeftBrace

-- the priority of a rule at a place of the text, and the place behind it: no other priority has a
-- `{` behind it
pub record HasRank (version : ℕ) (text : List Lexeme) (at : ℕ) (rank : ℤ) (next : ℕ) : Type 0 where
  pub priority : HasPriority version (drop at text) rank (drop next text)
  pub only : (other : ℤ) (end : List Lexeme) → IsRanked version (drop at text) other end →
      (other ≡ rank) × (end ≡ drop next text)
  pub after : at ≤ next
  pub within : next ≤ length text

abbrev pub PriorityAt : ℕ → List Lexeme → ℕ → Option (ℤ × ℕ) → Type 0
PriorityAt version text at None = NoFront (IsRanked version (drop at text))
PriorityAt version text at (Some read) = HasRank version text at read.0 read.1

-- a condition and `} do {` behind it
pub record IsTested (room : ℕ) (from : List Lexeme) (whole : Expression)
    (to : List Lexeme) : Type 0 where
  pub tested : List Lexeme
  pub cond : IsExpression kind.Condition room from whole tested
  pub does : tested ≡ doing to

abbrev pub ConditionAt : ℕ → List Lexeme → ℕ → Option (Expr × ℕ) → Type 0
ConditionAt room text at None = NoFront (IsTested room (drop at text))
ConditionAt room text at (Some read) = StandsAt (IsTested room) text at (expression read.0) read.1

-- a body and `} }` behind it
pub record IsReplaced (version room : ℕ) (from : List Lexeme) (whole : Term)
    (to : List Lexeme) : Type 0 where
  pub replaced : List Lexeme
  pub body : IsChoreography version room from whole replaced
  pub closes : replaced ≡ closing to

abbrev pub BodyAt : ℕ → ℕ → List Lexeme → ℕ → Option (Choreo × ℕ) → Type 0
BodyAt version room text at None = NoFront (IsReplaced version room (drop at text))
BodyAt version room text at (Some read) = StandsAt (IsReplaced version room) text at
    (term read.0) read.1

-- where a rule begins: its name, its priority and `{ on {`
pub record IsHead (version : ℕ) (from : List Lexeme) (rank : ℤ) (to : List Lexeme) : Type 0 where
  pub name : List ℕ
  pub ranked : List Lexeme
  pub begins : from ≡ Reserved word.Rule ∷ Name name ∷ ranked
  pub opened : List Lexeme
  pub priority : HasPriority version ranked rank opened
  pub opens : opened ≡ opening to

-- what is read of the head of a rule: its name stands in second place
pub record HasHead (version : ℕ) (text : List Lexeme) (at : ℕ) (rank : ℤ) (next : ℕ) : Type 0 where
  pub front : Longest (IsHead version (drop at text)) rank (drop next text)
  pub rule : drop at text ≡ Reserved word.Rule ∷ drop (at + 1) text
  pub name : sort_of (drop (at + 1) text) ≡ sorts.Name
  pub after : at < next
  pub within : next ≤ length text

abbrev pub HeadAt : ℕ → List Lexeme → ℕ → Option (ℤ × ℕ) → Type 0
HeadAt version text at None = NoFront (IsHead version (drop at text))
HeadAt version text at (Some read) = HasHead version text at read.0 read.1
