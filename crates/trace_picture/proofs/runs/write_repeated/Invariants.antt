use Rattle.std.proofs.Common.{◌≡◌, ◌++◌}
use Rattle.trace_picture.specs.Runs.{repeated}
use Rattle.trace_picture.proofs.runs.write_repeated.Given as goal

abbrev pub invariant-loop : goal.invariant-loop
invariant-loop l = l.out.items ≡ l.fn.out.items ++ repeated l.byte l.counter
