-- What the lines of a text say of a trace. No entry goes over the end of a line; a blank line and
-- a comment say nothing.
use Rattle.std.specs.Prelude.{◌≡◌, ◌≢◌, ℕ, ◌+◌, ◌<◌, List, [], ◌++◌, length, take, drop, Option, Some, None, codes}
use Rattle.dioc_terms.specs.declared.entries.Entry.{Entry}
use Rattle.dioc_terms.specs.declared.bundles.Last.{Last}
use Rattle.aioc_tokens.specs.Lexemes.{Lexeme, HasLexemes}
use Rattle.aioc_tokens.specs.Lexing.{Breaks}
use Rattle.aioc_tokens.specs.Tokens.{line_length}
use Rattle.trace_syntax.specs.Grammar.{IsClosedTrace, IsBadLine}

-- a line says these entries, and the last line where it has one: with a `}` behind it, it is the
-- lines of a trace up to that `}`
pub record LineSays (line : List ℕ) (entries : List Entry) (end : Option Last) : Type 0 where
  pub found : List Lexeme
  pub to : List Lexeme
  pub spells : HasLexemes (line ++ codes "\n}") found
  pub lines : IsClosedTrace found entries end to
  pub alone : length to ≡ 1

-- the first line of a text, and what stands behind it
abbrev pub first_line_of : List ℕ → List ℕ
first_line_of text = take (line_length text) text

abbrev pub behind_line : List ℕ → List ℕ
behind_line text = drop (line_length text + 1) text

-- what was said so far, and what it is with what one more line says: behind a last line no line
-- says anything
abbrev pub Adds : List Entry → Option Last → List Entry → Option Last → List Entry → Option Last
    → Type 0
Adds entries None more end all last = (all ≡ entries ++ more) × (last ≡ end)
Adds entries (Some over) more end all last =
    (more ≡ []) × (end ≡ None) × (all ≡ entries) × (last ≡ Some over)

-- a line says something, which is added to what was said before it
pub record AddsLine (line : List ℕ) (entries : List Entry) (before : Option Last)
    (all : List Entry) (last : Option Last) : Type 0 where
  pub more : List Entry
  pub end : Option Last
  pub says : LineSays line more end
  pub adds : Adds entries before more end all last

-- so many lines of a text, up to a rest of it, say these entries and a last line
pub data ReadsUpTo (text : List ℕ) : ℕ → List Entry → Option Last → List ℕ → Type 0 where
  no_line : ReadsUpTo text 0 [] None text
  one_line : {count : ℕ} {entries all : List Entry} {before last : Option Last}
      {rest : List ℕ}
      → ReadsUpTo text count entries before rest → rest ≢ []
      → AddsLine (first_line_of rest) entries before all last
      → ReadsUpTo text (count + 1) all last (behind_line rest)

-- all lines of a text
pub record Reads (text : List ℕ) (entries : List Entry) (end : Option Last) : Type 0 where
  pub count : ℕ
  pub lines : ReadsUpTo text count entries end []

-- a line says nothing of a trace: a byte of it is in no token, or its tokens are no lines of a
-- trace, or they go on behind a `}`
pub data IsUnread (line : List ℕ) : Type 0 where
  no_token : {at : ℕ} → Breaks 0 (line ++ codes "\n}") at → IsUnread line
  no_entry : {found : List Lexeme} {number : ℕ} → HasLexemes (line ++ codes "\n}") found
      → IsBadLine found number → IsUnread line
  no_end : {found to : List Lexeme} {entries : List Entry} {end : Option Last}
      → HasLexemes (line ++ codes "\n}") found → IsClosedTrace found entries end to
      → 1 < length to → IsUnread line

-- something is said behind a last line
abbrev pub StandsBehind : Option Last → List Entry → Option Last → Type 0
StandsBehind before more end = (before ≢ None) × (more ≡ [] → end ≡ None → ⊥)

-- a line may not stand where this is the last line so far
pub data CannotStand (line : List ℕ) (before : Option Last) : Type 0 where
  unread : IsUnread line → CannotStand line before
  behind_last : {more : List Entry} {end : Option Last} → LineSays line more end
      → StandsBehind before more end → CannotStand line before

-- the lines of a text before the one of this number, counted from 1, are read, and that one may not
-- stand behind them
pub record StopsAt (text : List ℕ) (number : ℕ) : Type 0 where
  pub count : ℕ
  pub entries : List Entry
  pub before : Option Last
  pub rest : List ℕ
  pub lines : ReadsUpTo text count entries before rest
  pub more : rest ≢ []
  pub stops : CannotStand (first_line_of rest) before
  pub counts : number ≡ count + 1
