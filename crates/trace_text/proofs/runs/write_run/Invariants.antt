-- The lines so far are those of the entries so far that are shown.
use Rattle.std.proofs.Common.{◌≡◌, ◌++◌, take}
use Rattle.trace_text.specs.Runs.{shown_entries, lines}
use Rattle.trace_text.proofs.runs.write_run.Given as goal

abbrev pub invariant-loop-entry : goal.invariant-loop-entry
invariant-loop-entry l =
    l.out.items ≡ l.fn.out.items ++ lines l.json (shown_entries l.aux (take l.entry-index l.entries))
