-- What holds of every text of a trace.
use Rattle.std.specs.Prelude.{◌≡◌, ℕ, List, drop, true, Option}
use Rattle.std.specs.List.{list_all}
use Rattle.dioc_terms.specs.declared.entries.Entry.{Entry}
use Rattle.dioc_terms.specs.declared.bundles.Last.{Last}
use Rattle.dioc_terms.specs.Bundles.{is_formed_entry, is_formed_last}
use Rattle.aioc_tokens.specs.Lexemes.{Lexeme, HasLexemes}
use Rattle.trace_syntax.specs.Grammar.{IsLine, IsTrace, IsClosedTrace, IsBadLine}
use Rattle.trace_syntax.specs.declared.words.Line.{Line}

-- a place has at most one line
abbrev pub OneLine : Type 0
OneLine = (from to behind : List Lexeme) (one other : Line) → IsLine from one to
    → IsLine from other behind → (one ≡ other) × (to ≡ behind)

-- and at most one trace up to a `}`
abbrev pub OneTrace : Type 0
OneTrace = (from to behind : List Lexeme) (entries others : List Entry) (end last : Option Last)
    → IsClosedTrace from entries end to → IsClosedTrace from others last behind →
    (entries ≡ others) × (end ≡ last) × (to ≡ behind)

-- or one bad line
abbrev pub OneBadLine : Type 0
OneBadLine = (from : List Lexeme) (number other : ℕ) → IsBadLine from number → IsBadLine from other
    → number ≡ other

-- but never both
abbrev pub TraceOrBadLine : Type 0
TraceOrBadLine = (from to : List Lexeme) (entries : List Entry) (end : Option Last) (number : ℕ)
    → IsClosedTrace from entries end to → IsBadLine from number → ⊥

-- what is read from a text is formed: each note fits its tag, a take has a variable exactly where
-- its tag is an operation
abbrev pub ReadIsFormed : Type 0
ReadIsFormed =
    (bytes : List ℕ) (found to : List Lexeme) (at : ℕ) (entries : List Entry) (end : Option Last)
    → HasLexemes bytes found → IsTrace (drop at found) entries end to →
    (list_all is_formed_entry entries ≡ true) × (is_formed_last end ≡ true)
