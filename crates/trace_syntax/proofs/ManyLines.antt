-- The lines of a trace, one after the other, and what they stop at.
use Rattle.std.proofs.Common.{◌≡◌, ◌≢◌, ℕ, ◌+◌, ◌<◌, ◌≤◌, List, [], ◌∷◌, ◌++◌, length, drop, Option, Some, None, refl, sym, ap, ◌∙◌, subst, arith}
use Rattle.dioc_terms.specs.declared.entries.Entry.{Entry}
use Rattle.dioc_terms.specs.declared.bundles.Last.{Last}
use Rattle.aioc_tokens.specs.declared.words.Punctuator.TheVariants as punctuator
use Rattle.aioc_tokens.specs.declared.words.Sort.TheVariants as sorts
use Rattle.aioc_tokens.specs.Lexemes.{Lexeme, Symbol, sort_of}
use Rattle.aioc_tokens.proofs.Looks.{symbol_first}
use Rattle.trace_syntax.specs.Grammar.{IsLine, AreEntries, no_entry, one_more, IsTrace, goes_on, is_over, NoLine, IsClosedTrace, IsBadLine}
use Rattle.trace_syntax.specs.Reading.{first_line}
use Rattle.trace_syntax.specs.declared.words.Line.{Line}
use Rattle.trace_syntax.specs.declared.words.Line.TheVariants as line
use Rattle.trace_syntax.proofs.Steps.{some_is}
use Rattle.trace_syntax.proofs.LinesRead.{line_read}
use Rattle.trace_syntax.proofs.LinesFound.{line_found}

-- two lines from one place are one
pub same_line : {from to end : List Lexeme} {one other : Line} → IsLine from one to → IsLine from other end → (one ≡ other) × (to ≡ end)
same_line {from} {to} {end} {one} {other} is is2 =
    let same = some_is (one, to) (other, end) (sym (line_found is) ∙ line_found is2) in
    (ap (λ (x : Line × List Lexeme). x.0) same, ap (λ (x : Line × List Lexeme). x.1) same)

-- where no reader finds a line none stands
pub none_stands : (from : List Lexeme) → first_line from ≡ None → NoLine None from
none_stands from none next to is = let found = line_found is in cc

closing_line : (others : List Lexeme) → first_line (Symbol punctuator.RightBrace ∷ others) ≡ None
unfolding first_line
closing_line others = refl

-- a `}` is no line
pub none_closing : (from : List Lexeme) → sort_of from ≡ sorts.Symbol punctuator.RightBrace → NoLine None from
none_closing from sort = none_stands from (ap first_line (symbol_first from punctuator.RightBrace sort) ∙ closing_line (drop 1 from))

-- the line of an entry more
pub another : {from middle to : List Lexeme} {entries : List Entry} {entry : Entry} → AreEntries from entries middle → IsLine middle (line.Entry entry) to → AreEntries from (entries ++ entry ∷ []) to
another no_entry is = one_more is no_entry
another (one_more first others) is = one_more first (another others is)

-- what may stand behind the entries of a trace: nothing more, or the last line
data Tail (from : List Lexeme) : Option Last → List Lexeme → Type 0 where
  no_last : Tail from None from
  with_last : {end : Last} {to : List Lexeme} → IsLine from (line.Last end) to → Tail from (Some end) to

tail_of : {from to : List Lexeme} {entries : List Entry} {end : Option Last} → IsTrace from entries end to → (middle : List Lexeme) × AreEntries from entries middle × Tail middle end to
tail_of {to = to} (goes_on lines) = (to, lines, no_last)
tail_of (is_over {middle = middle} lines is) = (middle, lines, with_last is)

-- the lines of two traces from one place that both stop are the same
pub record SameTrace (entries others : List Entry) (end last : Option Last) (to behind : List Lexeme) : Type 0 where
  pub entries_are : entries ≡ others
  pub end_is : end ≡ last
  pub behind_is : to ≡ behind

entry_or_last : {from to end : List Lexeme} {entry : Entry} {last : Last} → IsLine from (line.Entry entry) to → IsLine from (line.Last last) end → ⊥
entry_or_last is is2 = let same = (same_line is is2).0 in cc

last_is : {end last : Last} → ◌≡◌ {A = Line} (line.Last end) (line.Last last) → end ≡ last
last_is e = cc

entry_is : {entry other : Entry} → ◌≡◌ {A = Line} (line.Entry entry) (line.Entry other) → entry ≡ other
entry_is e = cc

same_tails : {from to behind : List Lexeme} {end last : Option Last} → Tail from end to → NoLine end to → Tail from last behind → NoLine last behind → SameTrace [] [] end last to behind
same_tails no_last stops no_last stops2 = record { entries_are = refl; end_is = refl; behind_is = refl }
same_tails no_last stops (with_last {end = end} {to = to} is) stops2 = absurd (stops (line.Last end) to is)
same_tails (with_last {end = end} {to = to} is) stops no_last stops2 = absurd (stops2 (line.Last end) to is)
same_tails (with_last is) stops (with_last is2) stops2 =
    let same = same_line is is2 in record { entries_are = refl; end_is = ap (λ (last : Last). Some last) (last_is same.0); behind_is = same.1 }

no_entry_behind : {from to next : List Lexeme} {end : Option Last} {entry : Entry} → Tail from end to → NoLine end to → IsLine from (line.Entry entry) next → ⊥
no_entry_behind {next = next} {entry = entry} no_last stops is = stops (line.Entry entry) next is
no_entry_behind (with_last is2) stops is = entry_or_last is is2

same_lines : {from middle other to behind : List Lexeme} {entries others : List Entry} {end last : Option Last} → AreEntries from entries middle → Tail middle end to → NoLine end to → AreEntries from others other → Tail other last behind
    → NoLine last behind → SameTrace entries others end last to behind
same_lines no_entry tail stops no_entry tail2 stops2 = same_tails tail stops tail2 stops2
same_lines no_entry tail stops (one_more first2 lines2) tail2 stops2 = absurd (no_entry_behind tail stops first2)
same_lines (one_more first lines) tail stops no_entry tail2 stops2 = absurd (no_entry_behind tail2 stops2 first)
same_lines {other = other} (one_more first lines) tail stops (one_more {others = others2} first2 lines2) tail2 stops2 =
    let same = same_line first first2 in
    let rest = same_lines lines tail stops (subst (λ from. AreEntries from others2 other) (sym same.1) lines2) tail2 stops2 in
    record { entries_are = λ i. entry_is same.0 i ∷ rest.entries_are i; end_is = rest.end_is; behind_is = rest.behind_is }

pub same_trace : {from to behind : List Lexeme} {entries others : List Entry} {end last : Option Last} → IsTrace from entries end to → NoLine end to → IsTrace from others last behind → NoLine last behind
    → SameTrace entries others end last to behind
same_trace is stops is2 stops2 =
    let (middle, lines, tail) = tail_of is in
    let (other, lines2, tail2) = tail_of is2 in
    same_lines lines tail stops lines2 tail2 stops2

-- what is closed stops
pub closed_stops : (end : Option Last) (to : List Lexeme) → sort_of to ≡ sorts.Symbol punctuator.RightBrace → NoLine end to
closed_stops None to closes = none_closing to closes
closed_stops (Some end) to closes = tt

-- the entries from a place up to another
pub record EntriesUpTo (text : List Lexeme) (at : ℕ) (entries : List Entry) (next : ℕ) : Type 0 where
  pub lines : AreEntries (drop at text) entries (drop next text)
  pub after : at ≤ next

module _ (text : List Lexeme) (at : ℕ) where
  pub none_yet : EntriesUpTo text at [] at
  none_yet = record { lines = no_entry; after = omega arith }

  pub one_further : (entries : List Entry) (entry : Entry) (next behind : ℕ) → EntriesUpTo text at entries next → first_line (drop next text) ≡ Some (line.Entry entry, drop behind text) → next < behind
      → EntriesUpTo text at (entries ++ entry ∷ []) behind
  one_further entries entry next behind so_far found less =
      let after = so_far.after in record { lines = another so_far.lines (line_read (drop next text) (line.Entry entry, drop behind text) found); after = omega arith }

  pub closed_here : (entries : List Entry) (next : ℕ) → EntriesUpTo text at entries next → sort_of (drop next text) ≡ sorts.Symbol punctuator.RightBrace → IsClosedTrace (drop at text) entries None (drop next text)
  closed_here entries next so_far closes = record { lines = goes_on so_far.lines; closes = closes }

  pub closed_behind : (entries : List Entry) (end : Last) (next behind : ℕ) → EntriesUpTo text at entries next → first_line (drop next text) ≡ Some (line.Last end, drop behind text)
      → sort_of (drop behind text) ≡ sorts.Symbol punctuator.RightBrace → IsClosedTrace (drop at text) entries (Some end) (drop behind text)
  closed_behind entries end next behind so_far found closes =
      record { lines = is_over so_far.lines (line_read (drop next text) (line.Last end, drop behind text) found); closes = closes }

  pub bad_here : (entries : List Entry) (next : ℕ) → EntriesUpTo text at entries next → sort_of (drop next text) ≢ sorts.Symbol punctuator.RightBrace → first_line (drop next text) ≡ None
      → IsBadLine (drop at text) (length entries + 1)
  bad_here entries next so_far unclosed none =
      record { entries = entries; end = None; behind = drop next text; lines = goes_on so_far.lines; counts = omega arith; not_closed = unclosed; no_line = none_stands (drop next text) none }

  pub bad_behind : (entries : List Entry) (end : Last) (next behind : ℕ) → EntriesUpTo text at entries next → first_line (drop next text) ≡ Some (line.Last end, drop behind text)
      → sort_of (drop behind text) ≢ sorts.Symbol punctuator.RightBrace → IsBadLine (drop at text) (length entries + 2)
  bad_behind entries end next behind so_far found unclosed =
      record { entries = entries; end = Some end; behind = drop behind text; lines = is_over so_far.lines (line_read (drop next text) (line.Last end, drop behind text) found); counts = omega arith; not_closed = unclosed; no_line = tt }
