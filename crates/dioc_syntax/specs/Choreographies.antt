-- The grammar of choreographies: what a list of lexemes reads as, from its front on.
use Rattle.std.specs.Prelude.{◌≡◌, ℕ, suc, ◌+◌, ◌<◌, ◌≤◌, List, [], ◌∷◌, length, drop, codes, Option, Some, None}
use Rattle.dioc_terms.specs.declared.names.Role.{Role}
use Rattle.dioc_terms.specs.declared.values.Value.{Value}
use Rattle.dioc_terms.specs.declared.choreographies.Choreo.{Choreo}
use Rattle.dioc_terms.specs.Expressions.{Expression}
use Rattle.limits.specs.Limits.{most_depth}
use Rattle.dioc_terms.specs.Terms.{Term, Skip, Com, Set, Input, Seq, Par, If, While, Scope, term, constructs, index_at, depth}
use Rattle.aioc_tokens.specs.declared.words.Word.TheVariants as word
use Rattle.aioc_tokens.specs.declared.words.Punctuator.TheVariants as punctuator
use Rattle.aioc_tokens.specs.Lexemes.{Lexeme, Name, Reserved, Symbol}
use Rattle.aioc_tokens.specs.Fronts.{Longest, NoFront}
use Rattle.expr_syntax.specs.Constants.{constant, before}
use Rattle.expr_syntax.specs.Grammar.{IsExpression}
use Rattle.expr_syntax.specs.declared.levels.ExprKind.TheVariants as kind

abbrev pub role : List ℕ → Role
role name = record { 0 = name }

-- From one list up to a rest of it stand the roles that are named:
--   name { "," name }
pub data NamesRoles : List Lexeme → List Role → List Lexeme → Type 0 where
  last_role : {from to : List Lexeme} {name : List ℕ}
      → from ≡ Name name ∷ to
      → NamesRoles from (role name ∷ []) to
  more_roles : {from others to : List Lexeme} {name : List ℕ} {rest : List Role}
      → from ≡ Name name ∷ Symbol punctuator.Comma ∷ others
      → NamesRoles others rest to
      → NamesRoles from (role name ∷ rest) to

-- the further roles of a scope, which version 2 alone may name; `roles` is no reserved word:
--   [ "roles" "{" name { "," name } "}" ]
pub data HasExtraRoles (version : ℕ) : List Lexeme → List Role → List Lexeme → Type 0 where
  no_roles : {to : List Lexeme} → HasExtraRoles version to [] to
  roles : {from names behind to : List Lexeme} {extra : List Role}
      → version ≡ 2
      → from ≡ Name (codes "roles") ∷ Symbol punctuator.LeftBrace ∷ names
      → NamesRoles names extra behind
      → behind ≡ Symbol punctuator.RightBrace ∷ to
      → HasExtraRoles version from extra to

-- properties with their values:
--   props = "N" "." name "=" value { "," "N" "." name "=" value }
pub data GivesProperties : List Lexeme → List (List ℕ × Value) → List Lexeme → Type 0 where
  last_property : {from given to : List Lexeme} {key : List ℕ} {value : Value}
      → from ≡ Reserved word.N ∷ Symbol punctuator.Dot ∷ Name key ∷ Symbol punctuator.Equal ∷ given
      → constant given ≡ Some (before to value)
      → GivesProperties from ((key, value) ∷ []) to
  more_properties : {from given behind others to : List Lexeme} {key : List ℕ} {value : Value}
      {rest : List (List ℕ × Value)}
      → from ≡ Reserved word.N ∷ Symbol punctuator.Dot ∷ Name key ∷ Symbol punctuator.Equal ∷ given
      → constant given ≡ Some (before behind value)
      → behind ≡ Symbol punctuator.Comma ∷ others
      → GivesProperties others rest to
      → GivesProperties from ((key, value) ∷ rest) to

-- the properties of a scope, as they are written:
--   [ "prop" "{" [ props ] "}" ]
pub data HasProperties : List Lexeme → List (List ℕ × Value) → List Lexeme → Type 0 where
  no_properties : {to : List Lexeme} → HasProperties to [] to
  empty_properties : {from to : List Lexeme}
      → from ≡ Reserved word.Prop ∷ Symbol punctuator.LeftBrace ∷ Symbol punctuator.RightBrace ∷ to
      → HasProperties from [] to
  properties : {from inside behind to : List Lexeme} {props : List (List ℕ × Value)}
      → from ≡ Reserved word.Prop ∷ Symbol punctuator.LeftBrace ∷ inside
      → GivesProperties inside props behind
      → behind ≡ Symbol punctuator.RightBrace ∷ to
      → HasProperties from props to

pub data Form : Type 0 where
  -- choreo
  Choreography : Form
  -- seq
  Sequence : Form
  -- step
  Step : Form
  -- "{" choreo "}"
  Block : Form
  -- [ "else" "{" choreo "}" ]
  Otherwise : Form

-- From the list `from` up to its rest `to` stands this term, in a bundle of that version. As many
-- brackets as `room` may be open in it at once, and `earlier` indexed constructs begin before it in
-- the text: so the indices are those that the text gives.
pub data Stands (version : ℕ) : Form → ℕ → ℕ → List Lexeme → Term → List Lexeme → Type 0 where
  -- choreo = seq { "|" seq }, grouped to the right
  one_part : {room earlier : ℕ} {from to : List Lexeme} {whole : Term}
      → Stands version Sequence room earlier from whole to
      → Stands version Choreography room earlier from whole to
  beside : {room earlier : ℕ} {from middle behind to : List Lexeme} {first second : Term}
      → Stands version Sequence room earlier from first middle
      → middle ≡ Symbol punctuator.Bar ∷ behind
      → Stands version Choreography room (earlier + constructs first) behind second to
      → Stands version Choreography room earlier from (Par first second) to
  -- seq = step { ";" step } [ ";" ], grouped to the right
  one_step : {room earlier : ℕ} {from to : List Lexeme} {whole : Term}
      → Stands version Step room earlier from whole to
      → Stands version Sequence room earlier from whole to
  last_step : {room earlier : ℕ} {from middle to : List Lexeme} {whole : Term}
      → Stands version Step room earlier from whole middle
      → middle ≡ Symbol punctuator.Semicolon ∷ to
      → Stands version Sequence room earlier from whole to
  in_turn : {room earlier : ℕ} {from middle behind to : List Lexeme} {first second : Term}
      → Stands version Step room earlier from first middle
      → middle ≡ Symbol punctuator.Semicolon ∷ behind
      → Stands version Sequence room (earlier + constructs first) behind second to
      → Stands version Sequence room earlier from (Seq first second) to
  -- step = "skip"
  nothing : {room earlier : ℕ} {from to : List Lexeme}
      → from ≡ Reserved word.Skip ∷ to
      → Stands version Step room earlier from Skip to
  --      | name ":" name "(" expr ")" "->" name "(" name ")"
  interaction : {room left earlier : ℕ} {from sent received to : List Lexeme}
      {operation sender receiver variable : List ℕ} {value : Expression}
      → room ≡ suc left
      → from ≡ Name operation ∷ Symbol punctuator.Colon ∷ Name sender ∷ Symbol punctuator.LeftParen
      ∷ sent
      → IsExpression kind.Step left sent value received
      → received ≡ Symbol punctuator.RightParen ∷ Symbol punctuator.Arrow ∷ Name receiver
      ∷ Symbol punctuator.LeftParen ∷ Name variable ∷ Symbol punctuator.RightParen ∷ to
      → Stands version Step room earlier from
      (Com (index_at earlier) operation (role sender) value (role receiver) variable) to
  --      | name "@" name "=" "input" "(" ")"
  input : {room left earlier : ℕ} {from to : List Lexeme} {variable owner : List ℕ}
      → room ≡ suc left
      → from ≡ Name variable ∷ Symbol punctuator.At ∷ Name owner ∷ Symbol punctuator.Equal
      ∷ Reserved word.Input ∷ Symbol punctuator.LeftParen ∷ Symbol punctuator.RightParen ∷ to
      → Stands version Step room earlier from (Input (index_at earlier) variable (role owner)) to
  --      | name "@" name "=" expr
  assignment : {room earlier : ℕ} {from given to : List Lexeme} {variable owner : List ℕ}
      {value : Expression}
      → from ≡ Name variable ∷ Symbol punctuator.At ∷ Name owner ∷ Symbol punctuator.Equal ∷ given
      → IsExpression kind.Step room given value to
      → Stands version Step room earlier from
      (Set (index_at earlier) variable (role owner) value) to
  --      | "if" expr "@" name "{" choreo "}" [ "else" "{" choreo "}" ]
  choice : {room earlier : ℕ} {from guarded head body behind to : List Lexeme} {leader : List ℕ}
      {guard : Expression} {first second : Term}
      → from ≡ Reserved word.If ∷ guarded
      → IsExpression kind.Step room guarded guard head
      → head ≡ Symbol punctuator.At ∷ Name leader ∷ body
      → Stands version Block room (suc earlier) body first behind
      → Stands version Otherwise room (suc earlier + constructs first) behind second to
      → Stands version Step room earlier from
      (If (index_at earlier) (role leader) guard first second) to
  --      | "while" expr "@" name "{" choreo "}"
  loop : {room earlier : ℕ} {from guarded head body to : List Lexeme} {leader : List ℕ}
      {guard : Expression} {inner : Term}
      → from ≡ Reserved word.While ∷ guarded
      → IsExpression kind.Step room guarded guard head
      → head ≡ Symbol punctuator.At ∷ Name leader ∷ body
      → Stands version Block room (suc earlier) body inner to
      → Stands version Step room earlier from
      (While (index_at earlier) (role leader) guard inner) to
  --      | "scope" "@" name "{" choreo "}"
  --            [ "roles" "{" name { "," name } "}" ] [ "prop" "{" [ props ] "}" ]
  scope : {room earlier : ℕ} {from body behind after to : List Lexeme} {leader : List ℕ}
      {inner : Term} {extra : List Role} {props : List (List ℕ × Value)}
      → from ≡ Reserved word.Scope ∷ Symbol punctuator.At ∷ Name leader ∷ body
      → Stands version Block room (suc earlier) body inner behind
      → HasExtraRoles version behind extra after
      → HasProperties after props to
      → Stands version Step room earlier from
      (Scope (index_at earlier) (role leader) inner extra props 0) to
  --      | "(" choreo ")"
  group : {room left earlier : ℕ} {from inside middle to : List Lexeme} {whole : Term}
      → room ≡ suc left
      → from ≡ Symbol punctuator.LeftParen ∷ inside
      → Stands version Choreography left earlier inside whole middle
      → middle ≡ Symbol punctuator.RightParen ∷ to
      → Stands version Step room earlier from whole to
  -- "{" choreo "}"
  block : {room left earlier : ℕ} {from inside middle to : List Lexeme} {whole : Term}
      → room ≡ suc left
      → from ≡ Symbol punctuator.LeftBrace ∷ inside
      → Stands version Choreography left earlier inside whole middle
      → middle ≡ Symbol punctuator.RightBrace ∷ to
      → Stands version Block room earlier from whole to
  -- [ "else" "{" choreo "}" ], where a missing one is a skip
  no_else : {room earlier : ℕ} {to : List Lexeme} → Stands version Otherwise room earlier to Skip to
  otherwise : {room earlier : ℕ} {from body to : List Lexeme} {second : Term}
      → from ≡ Reserved word.Else ∷ body
      → Stands version Block room earlier body second to
      → Stands version Otherwise room earlier from second to

-- From the list `from` up to its rest `to` stands this term in that form, and it is not deeper than
-- this.
pub record IsShallow (version : ℕ) (form : Form) (room deep earlier : ℕ) (from : List Lexeme)
    (whole : Term) (to : List Lexeme) : Type 0 where
  pub stands : Stands version form room earlier from whole to
  pub shallow : depth whole ≤ deep

-- From the list `from` up to its rest `to` stands this choreography of a text of its own: no
-- indexed construct begins before it. As many brackets as `room` may be open in it at once.
abbrev pub IsChoreography : ℕ → ℕ → List Lexeme → Term → List Lexeme → Type 0
IsChoreography version room from whole to =
    IsShallow version Choreography room most_depth 0 from whole to

-- the longest choreography that stands at a place of the text, and the place behind it
pub record ReadsAt (version room : ℕ) (text : List Lexeme) (at : ℕ) (found : Term) (next : ℕ) :
    Type 0 where
  pub front : Longest (IsChoreography version room (drop at text)) found (drop next text)
  pub after : at < next
  pub within : next ≤ length text

-- what a reader answers: nothing where no choreography stands at this place, else the longest one
-- and the place behind it
abbrev pub ChoreographyAt : ℕ → ℕ → List Lexeme → ℕ → Option (Choreo × ℕ) → Type 0
ChoreographyAt version room text at None = NoFront (IsChoreography version room (drop at text))
ChoreographyAt version room text at (Some read) = ReadsAt version room text at (term read.0) read.1
