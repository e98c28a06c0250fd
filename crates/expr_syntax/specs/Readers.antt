-- What the readers of the levels answer.
use Rattle.std.specs.Prelude.{◌≡◌, ℕ, ◌<◌, ◌≤◌, ◌^◌, List, length, drop, Option, Some, None, option_map, MatchOption}
use Rattle.dioc_terms.specs.declared.expressions.Expr.{Expr}
use Rattle.dioc_terms.specs.Expressions.{Expression, Not, Neg, expression, expression_depth}
use Rattle.aioc_tokens.specs.Lexemes.{Lexeme, sort_of}
use Rattle.aioc_tokens.specs.Fronts.{Longest, NoFront}
use Rattle.expr_syntax.specs.Constants.{constant}
use Rattle.expr_syntax.specs.Grammar.{Follows, IsShallow, leaf, after_dot, and_left, const_before}
use Rattle.expr_syntax.specs.declared.levels.ExprKind.{ExprKind}
use Rattle.expr_syntax.specs.declared.levels.Level.{Level}
use Rattle.expr_syntax.specs.declared.places.Reader.{Reader}
use Rattle.expr_syntax.specs.declared.places.Place.{Place}
use Rattle.expr_syntax.specs.declared.readers.Found.{Found}
use Rattle.expr_syntax.specs.declared.readers.Prefix.{Prefix}
use Rattle.expr_syntax.specs.declared.readers.Prefix.TheVariants as prefixes

-- what a reader of leaves answers: what stands at this place of the list, and the place behind it
abbrev pub LeafAt : ExprKind → List Lexeme → ℕ → Option (Expr × ℕ) → Type 0
LeafAt kind text at found =
    (leaf kind (drop at text) ≡ option_map
    (λ (read : Expr × ℕ). and_left (drop read.1 text) (expression read.0)) found) ×
    MatchOption found (Unit {0}) (λ read. (at < read.1) × (read.1 ≤ length text))

-- what stands behind `N` or `E`, whatever is made of the name
abbrev pub MemberAt : List Lexeme → ℕ → Option (List ℕ × ℕ) → Type 0
MemberAt text at found =
    ((make : List ℕ → Expression) → after_dot make (drop at text) ≡ option_map
    (λ (read : List ℕ × ℕ). and_left (drop read.1 text) (make read.0)) found) ×
    MatchOption found (Unit {0}) (λ read. (at < read.1) × (read.1 ≤ length text))

-- a constant alone
abbrev pub ConstantLeafAt : List Lexeme → ℕ → Option (Expr × ℕ) → Type 0
ConstantLeafAt text at found =
    (option_map const_before (constant (drop at text)) ≡ option_map
    (λ (read : Expr × ℕ). and_left (drop read.1 text) (expression read.0)) found) ×
    MatchOption found (Unit {0}) (λ read. (at < read.1) × (read.1 ≤ length text))

-- the expression that was read ends within the list; its depth and the sort of the token behind it
-- are noted
pub record IsNoted (deep : ℕ) (text : List Lexeme) (found : Found) : Type 0 where
  pub depth : found.depth ≡ expression_depth (expression found.expr)
  pub shallow : found.depth ≤ deep
  pub within : found.at ≤ length text
  pub small : found.at < 2 ^ 63
  pub behind : found.behind ≡ sort_of (drop found.at text)

-- the longest expression of a level at a place of the list, as a reader found it
pub record Finds (kind : ExprKind) (level : Level) (room deep : ℕ) (text : List Lexeme) (at : ℕ)
    (found : Found) : Type 0 where
  pub front : Longest (IsShallow kind level room deep (drop at text)) (expression found.expr)
      (drop found.at text)
  pub noted : IsNoted deep text found
  pub after : at < found.at

abbrev pub FoundAt : ExprKind → Level → ℕ → ℕ → List Lexeme → ℕ → Option Found → Type 0
FoundAt kind level room deep text at None = NoFront (IsShallow kind level room deep (drop at text))
FoundAt kind level room deep text at (Some found) = Finds kind level room deep text at found

-- what the reader of a level answers at a place
abbrev pub LevelAt : Reader → Level → Place → Option Found → Type 0
LevelAt reader level place found =
    FoundAt reader.kind level place.room place.deep reader.text.now place.at found

-- operators and operands follow an expression, and with them it isn't deeper than this
pub record FollowsShallow (kind : ExprKind) (level : Level) (room deep : ℕ) (first : Expression)
    (from : List Lexeme) (whole : Expression) (to : List Lexeme) : Type 0 where
  pub follows : Follows kind level room first from whole to
  pub shallow : expression_depth whole ≤ deep

-- an expression with as many operators and operands behind it as follow
pub record FollowedBy (kind : ExprKind) (level : Level) (room deep : ℕ) (text : List Lexeme)
    (first found : Found) : Type 0 where
  pub front : Longest
      (FollowsShallow kind level room deep (expression first.expr) (drop first.at text))
      (expression found.expr) (drop found.at text)
  pub noted : IsNoted deep text found
  pub after : first.at ≤ found.at

-- an operand with what stands before it
abbrev pub prefixed : Prefix → Expression → Expression
prefixed prefixes.Not inner = Not inner
prefixed prefixes.Minus inner = Neg inner
