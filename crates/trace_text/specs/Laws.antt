-- What is written of a line is read again.
use Rattle.std.specs.Prelude.{◌≡◌, List, [], Bool, true, false, Some}
use Rattle.std.specs.List.{list_all}
use Rattle.dioc_terms.specs.declared.entries.Entry.{Entry}
use Rattle.dioc_terms.specs.declared.bundles.Last.{Last}
use Rattle.dioc_terms.specs.Bundles.{is_formed_entry, is_formed_last}
use Rattle.aioc_tokens.specs.declared.words.Punctuator.TheVariants as punctuator
use Rattle.aioc_tokens.specs.declared.words.Sort.TheVariants as sorts
use Rattle.aioc_tokens.specs.Lexemes.{Lexeme, HasLexemes, sort_of}
use Rattle.trace_syntax.specs.Grammar.{IsLine, IsClosedTrace}
use Rattle.trace_syntax.specs.declared.words.Line.TheVariants as read
use Rattle.trace_text.specs.Lines.{line}
use Rattle.trace_text.specs.Runs.{shown_entries, run_text}
use Rattle.trace_text.specs.Written.{written_line, written_last, written_lines}

-- the line of an entry has the lexemes that were written
abbrev pub WrittenIsSpelled : Type 0
WrittenIsSpelled = (entry : Entry) → is_formed_entry entry ≡ true
    → HasLexemes (line entry) (written_line entry [])

-- they are the line of that entry, whatever follows
abbrev pub WrittenIsRead : Type 0
WrittenIsRead = (entry : Entry) (others : List Lexeme) → is_formed_entry entry ≡ true
    → IsLine (written_line entry others) (read.Entry entry) others

-- the text of a run has the lexemes of its lines
abbrev pub WrittenRunIsSpelled : Type 0
WrittenRunIsSpelled = (aux : Bool) (entries : List Entry) (end : Last)
    → list_all is_formed_entry (shown_entries aux entries) ≡ true → is_formed_last (Some end) ≡ true
    → HasLexemes (run_text aux false entries end)
    (written_lines (shown_entries aux entries) (written_last end []))

-- they are the lines of these entries and this last line, up to a `}` behind them
abbrev pub WrittenRunIsRead : Type 0
WrittenRunIsRead = (entries : List Entry) (end : Last) (others : List Lexeme)
    → list_all is_formed_entry entries ≡ true → is_formed_last (Some end) ≡ true
    → sort_of others ≡ sorts.Symbol punctuator.RightBrace
    → IsClosedTrace (written_lines entries (written_last end others)) entries (Some end) others

-- two different entries have different lines
abbrev pub OneEntry : Type 0
OneEntry = (one other : Entry) → is_formed_entry one ≡ true → is_formed_entry other ≡ true
    → line one ≡ line other → one ≡ other
