-- What holds of every text of a rule or a change.
use Rattle.std.specs.Prelude.{◌≡◌, ℕ, ◌≤◌, ◌⊎◌, true, List, [], drop, pos}
use Rattle.dioc_terms.specs.Plain.{PlainRule}
use Rattle.dioc_terms.specs.Bundles.{names_no_roles, IsFormedRule}
use Rattle.aioc_tokens.specs.Lexemes.{Lexeme, HasLexemes}
use Rattle.aioc_tokens.specs.Fronts.{Longest}
use Rattle.aioc_tokens.specs.Spelling.{spelled}
use Rattle.rule_syntax.specs.Grammar.{IsRule, PlainChange, IsChange}
use Rattle.rule_syntax.specs.Writing.{written}

-- at most one rule stands at a place
abbrev pub OneRule : Type 0
OneRule = (version room : ℕ) (from to end : List Lexeme) (rule other : PlainRule) →
    IsRule version room from rule to →
    IsRule version room from other end → (rule ≡ other) × (to ≡ end)

-- at most one change stands at a place
abbrev pub OneChange : Type 0
OneChange = (version room : ℕ) (from to end : List Lexeme) (change other : PlainChange) →
    IsChange version room from change to →
    IsChange version room from other end → (change ≡ other) × (to ≡ end)

-- version 2 alone has priorities and names further roles of a scope
abbrev pub FitsVersion : ℕ → PlainRule → Type 0
FitsVersion version rule = (version ≡ 2) ⊎ ((rule.priority ≡ pos 0) ×
    (names_no_roles rule.body ≡ true))

-- a rule that is read of a text is formed and fits the version
abbrev pub ReadIsFormed : Type 0
ReadIsFormed = (bytes : List ℕ) (found : List Lexeme) (at version room : ℕ) (rule : PlainRule)
    (to : List Lexeme) → HasLexemes bytes found →
    IsRule version room (drop at found) rule to → IsFormedRule rule × FitsVersion version rule

-- the text that is written of a rule has the lexemes that were written
abbrev pub WrittenIsSpelled : Type 0
WrittenIsSpelled = (rule : PlainRule) → IsFormedRule rule →
    HasLexemes (spelled (written rule [])) (written rule [])

-- they read as that rule, whatever follows; 321 open brackets suffice
abbrev pub WrittenIsRead : Type 0
WrittenIsRead = (version : ℕ) (rule : PlainRule) (room : ℕ) (others : List Lexeme) →
    IsFormedRule rule → FitsVersion version rule → 321 ≤ room →
    Longest (IsRule version room (written rule others)) rule others
