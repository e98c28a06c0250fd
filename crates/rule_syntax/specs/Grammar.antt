-- The grammar of rules and of changes: what a list of lexemes reads as, from its front on.
use Rattle.std.specs.Prelude.{◌≡◌, ℕ, suc, List, ◌∷◌, codes, Some, ℤ, pos, neg_ℤ}
use Rattle.dioc_terms.specs.declared.values.Value.{Value}
use Rattle.limits.specs.Limits.{most_priority}
use Rattle.dioc_terms.specs.Plain.{PlainRule, plain_rule}
use Rattle.aioc_tokens.specs.declared.words.Word.TheVariants as word
use Rattle.aioc_tokens.specs.declared.words.Punctuator.TheVariants as punctuator
use Rattle.aioc_tokens.specs.Lexemes.{Lexeme, Name, Number, Reserved, Symbol}
use Rattle.expr_syntax.specs.Constants.{constant, before, number_up_to}
use Rattle.expr_syntax.specs.Grammar.{IsExpression}
use Rattle.expr_syntax.specs.declared.levels.ExprKind.TheVariants as kind
use Rattle.dioc_syntax.specs.Choreographies.{IsChoreography}
use Rattle.rule_syntax.specs.declared.changes.ReadChange.{ReadChange}
use Rattle.rule_syntax.specs.declared.changes.ReadChange.TheVariants as read

-- From one list up to a rest of it stands the priority of a rule, 0 where none is written. Version
-- 2 alone may write one; `priority` is no reserved word:
--   [ "priority" [ "-" ] number ]
pub data HasPriority (version : ℕ) : List Lexeme → ℤ → List Lexeme → Type 0 where
  no_priority : {to : List Lexeme} → HasPriority version to (pos 0) to
  priority : {from to : List Lexeme} {digits : List ℕ} {n : ℕ} → version ≡ 2 →
      from ≡ Name (codes "priority") ∷ Number digits ∷ to →
      number_up_to most_priority digits ≡ Some n → HasPriority version from (pos n) to
  negative_priority : {from to : List Lexeme} {digits : List ℕ} {n : ℕ} → version ≡ 2 →
      from ≡ Name (codes "priority") ∷ Symbol punctuator.Minus ∷ Number digits ∷ to →
      number_up_to most_priority digits ≡ Some n →
      HasPriority version from (neg_ℤ (pos n)) to

-- `{ on {` and what follows
abbrev pub opening : List Lexeme → List Lexeme
opening others =
    Symbol punctuator.LeftBrace ∷ Reserved word.On ∷ Symbol punctuator.LeftBrace ∷ others

-- `} do {` and what follows
abbrev pub doing : List Lexeme → List Lexeme
doing others =
    Symbol punctuator.RightBrace ∷ Reserved word.Do ∷ Symbol punctuator.LeftBrace ∷ others

-- `} }` and what follows
abbrev pub closing : List Lexeme → List Lexeme
closing others = Symbol punctuator.RightBrace ∷ Symbol punctuator.RightBrace ∷ others

-- From one list up to a rest of it stands this rule, in a bundle of that version. As many brackets
-- as `room` may be open in it at once:
--   rule = "rule" name [ "priority" [ "-" ] number ] "{" "on" "{" expr "}" "do" "{" choreo "}" "}"
pub record IsRule (version room : ℕ) (from : List Lexeme) (rule : PlainRule)
    (to : List Lexeme) : Type 0 where
  pub left : ℕ
  pub rooms : room ≡ suc (suc left)
  pub ranked : List Lexeme
  pub begins : from ≡ Reserved word.Rule ∷ Name rule.name ∷ ranked
  pub opened : List Lexeme
  pub priority : HasPriority version ranked rule.priority opened
  pub condition : List Lexeme
  pub opens : opened ≡ opening condition
  pub tested : List Lexeme
  pub cond : IsExpression kind.Condition left condition rule.cond tested
  pub replacing : List Lexeme
  pub does : tested ≡ doing replacing
  pub replaced : List Lexeme
  pub body : IsChoreography version left replacing rule.body replaced
  pub closes : replaced ≡ closing to

-- From one list up to a rest of it a value is bound to a name:
--   bind = name "=" value
pub record IsBinding (from : List Lexeme) (bound : List ℕ × Value) (to : List Lexeme) : Type 0 where
  pub given : List Lexeme
  pub begins : from ≡ Name bound.0 ∷ Symbol punctuator.Equal ∷ given
  pub value : constant given ≡ Some (before to bound.1)

-- a change as it is written, without where it lies in memory
pub data PlainChange : Type 0 where
  Add : PlainRule → PlainChange
  Drop : List ℕ → PlainChange
  Env : List ℕ → Value → PlainChange

-- the change that a program's value stands for
abbrev pub plain_change : ReadChange → PlainChange
plain_change (read.Add rule) = Add (plain_rule rule)
plain_change (read.Drop name) = Drop name
plain_change (read.Env key value) = Env key value

-- From one list up to a rest of it stands this change; `add`, `drop` and `env` are no reserved
-- words:
--   change = "add" rule | "drop" name | "env" bind
pub data IsChange (version room : ℕ) : List Lexeme → PlainChange → List Lexeme → Type 0 where
  adds : {from given to : List Lexeme} {rule : PlainRule} → from ≡ Name (codes "add") ∷ given →
      IsRule version room given rule to →
      IsChange version room from (Add rule) to
  drops : {from to : List Lexeme} {name : List ℕ} → from ≡ Name (codes "drop") ∷ Name name ∷ to →
      IsChange version room from (Drop name) to
  sets : {from given to : List Lexeme} {key : List ℕ} {value : Value} → from ≡ Name (codes "env") ∷
      given → IsBinding given (key, value) to →
      IsChange version room from (Env key value) to
