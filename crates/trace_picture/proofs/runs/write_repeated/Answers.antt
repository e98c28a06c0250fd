use Rattle.std.proofs.Common.{arith}
use Rattle.std.proofs.lemmas.Grind.{common_steps}
use Rattle.trace_picture.specs.Runs.{repeated}
use Rattle.trace_picture.proofs.Repeats.{repeated_step, still_front}
use Rattle.trace_picture.proofs.runs.write_repeated.Goals as goal

pub loop-preserved : goal.loop-preserved
loop-preserved c =
    repeated_step c.args.byte c.loop.counter c.args.out.now.items c.loop.out.items c.write_bytes.new.out.items
    c.loop.invariant c.in_ok-write_bytes.ensures.ok

pub returns-in_err-write_bytes-clause-memory : goal.returns-in_err-write_bytes-clause-memory
returns-in_err-write_bytes-clause-memory c =
    still_front _ c.args.out.now.items (repeated c.args.byte c.loop.counter) c.loop.out.items c.write_bytes.new.out.items
    c.loop.invariant c.in_err-write_bytes.ensures.memory

pub returns-clause-ok : goal.returns-clause-ok
returns-clause-ok c = grind (arith, common_steps)
