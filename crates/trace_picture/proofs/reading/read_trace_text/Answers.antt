use Rattle.std.proofs.Common.{rules, ◌≡◌, ◌≢◌, IsErrOf, ◌+◌, ◌<◌, [], None, length, sym, ap, subst, arith}
use Rattle.trace_picture.specs.Reading.{ReadsUpTo, no_line, one_line}
use Rattle.trace_picture.specs.declared.reading.LineFault.TheVariants as line_fault
use Rattle.trace_picture.proofs.reading.read_trace_text.Goals as goal

pub loop-rest-init : goal.loop-rest-init
loop-rest-init c = (subst (λ items. ReadsUpTo c.args.text.now 0 items None c.args.text.now) (sym c.new-entries.ensures.items) no_line, omega arith)

pub loop-rest-preserved : goal.loop-rest-preserved
loop-rest-preserved c =
    let positive : 0 < length c.loop-rest.rest.now = omega arith in
    let some : c.loop-rest.rest.now ≢ [] = λ none. let bare : length c.loop-rest.rest.now ≡ 0 = ap length none in omega arith in
    let shorter = c.behind_line-rest.ensures.shorter some in
    let told = c.loop-rest.invariant.1 in (
      subst (λ rest. ReadsUpTo c.args.text.now (c.loop-rest.number + 1) c.next_line.new.entries.items c.next_line.new.last rest) (sym c.behind_line-rest.ensures.value)
          (one_line c.loop-rest.invariant.0 some c.in-Ok.ensures.ok),
      omega arith,
    )

pub returns-in-Err-NoLine-clause-bad : goal.returns-in-Err-NoLine-clause-bad
returns-in-Err-NoLine-clause-bad c = λ n is.
    let positive : 0 < length c.loop-rest.rest.now = omega arith in
    let some : c.loop-rest.rest.now ≢ [] = λ none. let bare : length c.loop-rest.rest.now ≡ 0 = ap length none in omega arith in
    let same : n ≡ c.loop-rest.number + 1 = cc in
    let fault : IsErrOf c.next_line.result line_fault.NoLine = search rules in
    record {
      count = c.loop-rest.number;
      entries = c.loop-rest.entries.items;
      before = c.loop-rest.last;
      rest = c.loop-rest.rest.now;
      lines = c.loop-rest.invariant.0;
      more = some;
      stops = c.next_line.ensures.bad fault;
      counts = same;
    }
