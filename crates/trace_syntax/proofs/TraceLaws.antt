-- A text has one trace up to a `}`, or one bad line.
use Rattle.std.proofs.Common.{suc, sym, ap, ◌∙◌}
use Rattle.aioc_tokens.specs.Lexemes.{sort_of}
use Rattle.trace_syntax.specs.Grammar.{line_count}
use Rattle.trace_syntax.specs.Laws.{OneLine, OneTrace, OneBadLine, TraceOrBadLine}
use Rattle.trace_syntax.proofs.ManyLines.{same_line, same_trace, closed_stops}

pub one_line : OneLine
one_line from to behind one other is is2 = same_line is is2

pub one_trace : OneTrace
one_trace from to behind entries others end last is is2 =
    let same = same_trace is.lines (closed_stops end to is.closes) is2.lines (closed_stops last behind is2.closes) in (same.entries_are, same.end_is, same.behind_is)

pub one_bad_line : OneBadLine
one_bad_line from number other is is2 =
    let same = same_trace is.lines is.no_line is2.lines is2.no_line in is.counts ∙ (λ i. suc (line_count (same.entries_are i) (same.end_is i))) ∙ sym is2.counts

pub trace_or_bad_line : TraceOrBadLine
trace_or_bad_line from to entries end number is is2 =
    let same = same_trace is.lines (closed_stops end to is.closes) is2.lines is2.no_line in is2.not_closed (ap sort_of (sym same.behind_is) ∙ is.closes)
