use Rattle.std.proofs.Common.{arith}
use Rattle.std.proofs.lemmas.Grind.{common_steps}
use Rattle.std.proofs.lemmas.Result.{err_from_is_err_and}
use Rattle.text_pieces.proofs.KeptFronts.{front_after}
use Rattle.bundle_text.proofs.writer.write_each_timed.Goals as goal

pub loop-timed-preserved : goal.loop-timed-preserved
loop-timed-preserved c = grind (arith, common_steps)

pub returns-in_err-write_timed-clause-memory : goal.returns-in_err-write_timed-clause-memory
returns-in_err-write_timed-clause-memory c =
    let p = err_from_is_err_and c.from_residual.result c.from_residual.ensures.1 in
    rw p.1 (front_after _ _ _ _ c.loop-timed.invariant c.in_err-write_timed.ensures.memory)

pub returns-clause-ok : goal.returns-clause-ok
returns-clause-ok c = grind (arith, common_steps)
