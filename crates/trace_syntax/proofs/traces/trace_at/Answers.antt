use Rattle.std.proofs.Common.{◌≡◌, ◌+◌, Some, None, length, drop, sym, ap, ◌∙◌, subst, arith}
use Rattle.aioc_tokens.specs.declared.words.Punctuator.TheVariants as punctuator
use Rattle.aioc_tokens.specs.declared.words.Sort.TheVariants as sorts
use Rattle.aioc_tokens.specs.Lexemes.{sort_of}
use Rattle.trace_syntax.specs.Grammar.{IsClosedTrace, IsBadLine}
use Rattle.trace_syntax.specs.Reading.{first_line}
use Rattle.trace_syntax.specs.declared.words.Line.{Line}
use Rattle.trace_syntax.specs.declared.words.Line.TheVariants as line
use Rattle.trace_syntax.proofs.ManyLines.{EntriesUpTo, none_yet, one_further, closed_here, closed_behind, bad_here, bad_behind}
use Rattle.trace_syntax.proofs.traces.trace_at.Goals as goal

pub lines-init : goal.lines-init
lines-init c = subst (λ items. EntriesUpTo c.args.text.now c.args.at items c.args.at) (sym c.new-entries.ensures.items) (none_yet c.args.text.now c.args.at)

pub lines-preserved : goal.lines-preserved
lines-preserved c =
    let text = c.args.text.now in
    let behind = c.in-Ok.read.1 in
    let found : first_line (drop c.lines.next text) ≡ Some (line.Entry c.in-Entry.entry, drop behind text) = c.in-Ok.ensures.0 ∙ ap (λ (l : Line). Some (l, drop behind text)) c.in-Entry.is in
    subst (λ items. EntriesUpTo text c.args.at items behind) (sym c.in_ok-push-in-Entry.ensures.items)
    (one_further text c.args.at c.lines.entries.items c.in-Entry.entry c.lines.next behind c.lines.invariant found c.in-Ok.ensures.1)

pub returns-in-Err-NoLine-clause-bad : goal.returns-in-Err-NoLine-clause-bad
returns-in-Err-NoLine-clause-bad c = λ n e.
    let same : c.len.result + 1 ≡ n = cc in
    let counts : length c.lines.entries.items + 1 ≡ n = omega arith in
    subst (IsBadLine (drop c.args.at c.args.text.now)) counts
    (bad_here c.args.text.now c.args.at c.lines.entries.items c.lines.next c.lines.invariant (λ is. let found = c.has.ensures.value.1 is in let missed = c.lines-test.true in cc)
    (rw c.in-Err-NoLine.field-0-is at c.in-Err-NoLine.ensures))

pub returns-then-not-has-clause-bad : goal.returns-then-not-has-clause-bad
returns-then-not-has-clause-bad c = λ n e.
    let text = c.args.text.now in
    let behind = c.in-Ok.read.1 in
    let found : first_line (drop c.lines.next text) ≡ Some (line.Last c.in-Last.last, drop behind text) = c.in-Ok.ensures.0 ∙ ap (λ (l : Line). Some (l, drop behind text)) c.in-Last.is in
    let same : c.len-then-not-has.result + 2 ≡ n = cc in
    let counts : length c.lines.entries.items + 2 ≡ n = omega arith in
    subst (IsBadLine (drop c.args.at text)) counts
    (bad_behind text c.args.at c.lines.entries.items c.in-Last.last c.lines.next behind c.lines.invariant found
    (λ is. let found = c.has-in-Last.ensures.value.1 is in let missed = c.if-not-has.true in cc))

pub returns-in-Last-clause-found : goal.returns-in-Last-clause-found
returns-in-Last-clause-found c =
    let text = c.args.text.now in
    let behind = c.in-Ok.read.1 in
    let found : first_line (drop c.lines.next text) ≡ Some (line.Last c.in-Last.last, drop behind text) = c.in-Ok.ensures.0 ∙ ap (λ (l : Line). Some (l, drop behind text)) c.in-Last.is in
    let closes : sort_of (drop behind text) ≡ sorts.Symbol punctuator.RightBrace = c.has-in-Last.ensures.value.0 cc in
    subst (λ entries. IsClosedTrace (drop c.args.at text) entries (Some c.in-Last.last) (drop behind text)) (sym c.new.ensures)
    (closed_behind text c.args.at c.lines.entries.items c.in-Last.last c.lines.next behind c.lines.invariant found closes)

pub returns-clause-found : goal.returns-clause-found
returns-clause-found c =
    let text = c.args.text.now in
    let closes : sort_of (drop c.lines.next text) ≡ sorts.Symbol punctuator.RightBrace = c.has.ensures.value.0 cc in
    subst (λ entries. IsClosedTrace (drop c.args.at text) entries None (drop c.lines.next text)) (sym c.new-2.ensures)
    (closed_here text c.args.at c.lines.entries.items c.lines.next c.lines.invariant closes)
