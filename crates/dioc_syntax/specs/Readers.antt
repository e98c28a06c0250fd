-- What the readers of a choreography's parts answer.
use Rattle.std.specs.Prelude.{◌≡◌, ℕ, ◌+◌, ◌<◌, ◌≤◌, List, ◌∷◌, length, drop, Option, Some, None}
use Rattle.dioc_terms.specs.declared.names.Role.{Role}
use Rattle.dioc_terms.specs.declared.values.Value.{Value}
use Rattle.dioc_terms.specs.Expressions.{Expression, expression}
use Rattle.dioc_terms.specs.Terms.{Term, term, constructs, depth}
use Rattle.aioc_tokens.specs.declared.words.Word.TheVariants as word
use Rattle.aioc_tokens.specs.declared.words.Punctuator.TheVariants as punctuator
use Rattle.aioc_tokens.specs.Lexemes.{Lexeme, Name, Reserved, Symbol}
use Rattle.aioc_tokens.specs.Fronts.{Longest, NoFront}
use Rattle.expr_syntax.specs.Constants.{constant, before}
use Rattle.expr_syntax.specs.Grammar.{IsExpression}
use Rattle.expr_syntax.specs.declared.levels.ExprKind.TheVariants as kind
use Rattle.dioc_syntax.specs.Choreographies.{NamesRoles, HasExtraRoles, GivesProperties, HasProperties, Form, Otherwise, IsShallow}
use Rattle.dioc_syntax.specs.declared.found.FoundChoreo.{FoundChoreo}
use Rattle.dioc_syntax.specs.declared.found.ScopeParts.{ScopeParts}
use Rattle.dioc_syntax.specs.declared.guards.Guard.{Guard}
use Rattle.dioc_syntax.specs.declared.places.Reader.{Reader}
use Rattle.dioc_syntax.specs.declared.places.Place.{Place}

-- `o : a (` and what follows
abbrev pub sent_by : List ℕ → List ℕ → List Lexeme → List Lexeme
sent_by operation sender others =
    Name operation ∷ Symbol punctuator.Colon ∷ Name sender ∷ Symbol punctuator.LeftParen ∷ others

-- `) -> b ( x )` and what follows
abbrev pub received_by : List ℕ → List ℕ → List Lexeme → List Lexeme
received_by receiver variable others =
    Symbol punctuator.RightParen ∷ Symbol punctuator.Arrow ∷ Name receiver
    ∷ Symbol punctuator.LeftParen ∷ Name variable ∷ Symbol punctuator.RightParen ∷ others

-- `x @ r =` and what follows
abbrev pub set_by : List ℕ → List ℕ → List Lexeme → List Lexeme
set_by variable owner others =
    Name variable ∷ Symbol punctuator.At ∷ Name owner ∷ Symbol punctuator.Equal ∷ others

-- `@ r` and what follows
abbrev pub led_by : List ℕ → List Lexeme → List Lexeme
led_by leader others = Symbol punctuator.At ∷ Name leader ∷ others

-- Such a head of so many lexemes stands at a place of the text, with these two names, or none
-- stands there.
abbrev pub HeadAt : (List ℕ → List ℕ → List Lexeme → List Lexeme) → ℕ → List Lexeme → ℕ
    → Option (List ℕ × List ℕ) → Type 0
HeadAt head count text at None =
    (one two : List ℕ) (others : List Lexeme) → drop at text ≡ head one two others → ⊥
HeadAt head count text at (Some names) =
    (drop at text ≡ head names.0 names.1 (drop (at + count) text)) × (at + count ≤ length text)

-- A leader stands at a place of the text, or none stands there.
abbrev pub LeaderAt : List Lexeme → ℕ → Option Role → Type 0
LeaderAt text at None =
    (leader : List ℕ) (others : List Lexeme) → drop at text ≡ led_by leader others → ⊥
LeaderAt text at (Some leader) =
    (drop at text ≡ led_by leader.0 (drop (at + 2) text)) × (at + 2 ≤ length text)

-- the longest expression at a place, the leader behind it, and the place behind both
pub record IsGuard (room : ℕ) (text : List Lexeme) (at : ℕ) (guard : Guard) : Type 0 where
  pub head : List Lexeme
  pub front : Longest (IsExpression kind.Step room (drop at text)) (expression guard.expr) head
  pub leads : head ≡ led_by guard.leader.0 (drop guard.at text)
  pub after : at < guard.at
  pub within : guard.at ≤ length text

-- no expression stands at a place, or no leader stands behind the longest one
pub data NoGuard (room : ℕ) (text : List Lexeme) (at : ℕ) : Type 0 where
  no_expression : NoFront (IsExpression kind.Step room (drop at text)) → NoGuard room text at
  no_leader : {head : List Lexeme} {guard : Expression}
      → Longest (IsExpression kind.Step room (drop at text)) guard head
      → ((leader : List ℕ) (others : List Lexeme) → head ≡ led_by leader others → ⊥)
      → NoGuard room text at

abbrev pub GuardAt : ℕ → List Lexeme → ℕ → Option Guard → Type 0
GuardAt room text at None = NoGuard room text at
GuardAt room text at (Some guard) = IsGuard room text at guard

-- the longest names at a place, and the place behind them, or none
abbrev pub NamesAt : List Lexeme → ℕ → Option (List Role × ℕ) → Type 0
NamesAt text at None = NoFront (NamesRoles (drop at text))
NamesAt text at (Some read) =
    Longest (NamesRoles (drop at text)) read.0 (drop read.1 text) × (at < read.1)
    × (read.1 ≤ length text)

-- the longest further roles at a place, and the place behind them
abbrev pub RolesAt : ℕ → List Lexeme → ℕ → List Role × ℕ → Type 0
RolesAt version text at read =
    Longest (HasExtraRoles version (drop at text)) read.0 (drop read.1 text) × (at ≤ read.1)
    × (read.1 ≤ length text)

-- `N . k = v` with the place behind it, or nothing
pub record IsPair (text : List Lexeme) (at : ℕ) (pair : List ℕ × Value) (next : ℕ) : Type 0 where
  pub head : drop at text ≡ Reserved word.N ∷ Symbol punctuator.Dot ∷ Name pair.0
      ∷ Symbol punctuator.Equal ∷ drop (at + 4) text
  pub value : constant (drop (at + 4) text) ≡ Some (before (drop next text) pair.1)
  pub after : at < next
  pub within : next ≤ length text

abbrev pub PairAt : List Lexeme → ℕ → Option ((List ℕ × Value) × ℕ) → Type 0
PairAt text at None = NoFront (GivesProperties (drop at text))
PairAt text at (Some read) = IsPair text at read.0 read.1

-- the longest properties at a place, and the place behind them, or none
abbrev pub PairsAt : List Lexeme → ℕ → Option (List (List ℕ × Value) × ℕ) → Type 0
PairsAt text at None = NoFront (GivesProperties (drop at text))
PairsAt text at (Some read) =
    Longest (GivesProperties (drop at text)) read.0 (drop read.1 text) × (at < read.1)
    × (read.1 ≤ length text)

-- the longest properties of a scope at a place, with their brackets, and the place behind them
abbrev pub PropertiesAt : List Lexeme → ℕ → List (List ℕ × Value) × ℕ → Type 0
PropertiesAt text at read =
    Longest (HasProperties (drop at text)) read.0 (drop read.1 text) × (at ≤ read.1)
    × (read.1 ≤ length text)

-- what a scope has behind its body at a place
pub record ScopePartsAt (version : ℕ) (text : List Lexeme) (at : ℕ) (parts : ScopeParts) :
    Type 0 where
  pub between : ℕ
  pub roles : Longest (HasExtraRoles version (drop at text)) parts.extra (drop between text)
  pub props : Longest (HasProperties (drop between text)) parts.props (drop parts.at text)
  pub after : at ≤ parts.at
  pub within : parts.at ≤ length text

-- The longest term at a place of the text that a relation reads, with at least so many lexemes: its
-- depth, the place behind it and the number of constructs up to there are noted.
pub record Finds (Reads : List Lexeme → Term → List Lexeme → Type 0) (least deep earlier : ℕ)
    (text : List Lexeme) (at : ℕ) (found : FoundChoreo) : Type 0 where
  pub front : Longest (Reads (drop at text)) (term found.choreo.value) (drop found.at text)
  pub depth : found.depth ≡ depth (term found.choreo.value)
  pub shallow : found.depth ≤ deep
  pub next : found.next ≡ earlier + constructs (term found.choreo.value)
  pub few : found.next + at ≤ earlier + found.at
  pub after : at + least ≤ found.at
  pub within : found.at ≤ length text

-- what a reader of terms answers: nothing where the relation reads none, else the longest
abbrev pub FoundAt : (List Lexeme → Term → List Lexeme → Type 0) → ℕ → ℕ → List Lexeme → ℕ
    → Option FoundChoreo → Type 0
FoundAt Reads deep earlier text at None = NoFront (Reads (drop at text))
FoundAt Reads deep earlier text at (Some found) = Finds Reads 1 deep earlier text at found

-- what a reader of a form answers: the longest term of it that isn't deeper than this
abbrev pub FormAt : ℕ → Form → ℕ → ℕ → ℕ → List Lexeme → ℕ → Option FoundChoreo → Type 0
FormAt version form room deep earlier text at found =
    FoundAt (IsShallow version form room deep earlier) deep earlier text at found

-- what the reader of a form answers at a place
abbrev pub FormStandsAt : Reader → Form → Place → Option FoundChoreo → Type 0
FormStandsAt reader form place found =
    FormAt reader.version form place.room place.deep place.earlier reader.text.now place.at found

-- what the reader of a second branch answers at a place: it may have no token
abbrev pub OtherwiseAt : Reader → Place → FoundChoreo → Type 0
OtherwiseAt reader place found =
    Finds (IsShallow reader.version Otherwise place.room place.deep place.earlier) 0 place.deep
    place.earlier reader.text.now place.at found

-- what was read, with one token more behind it
abbrev pub one_behind : FoundChoreo → FoundChoreo
one_behind found =
    record { choreo = found.choreo; depth = found.depth; at = found.at + 1; next = found.next }
