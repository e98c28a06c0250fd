use Rattle.std.proofs.Common.{arith}
use Rattle.std.proofs.lemmas.Grind.{common_steps}
use Rattle.std.proofs.lemmas.Result.{err_from_is_err_and}
use Rattle.text_pieces.proofs.KeptFronts.{front_after}
use Rattle.bundle_text.proofs.writer.write_each_rule.Goals as goal

pub loop-rule-preserved : goal.loop-rule-preserved
loop-rule-preserved c = grind (arith, common_steps)

pub returns-in_err-write_spaced_rule-clause-memory : goal.returns-in_err-write_spaced_rule-clause-memory
returns-in_err-write_spaced_rule-clause-memory c =
    let p = err_from_is_err_and c.from_residual.result c.from_residual.ensures.1 in
    rw p.1 (front_after _ _ _ _ c.loop-rule.invariant c.in_err-write_spaced_rule.ensures.memory)

pub returns-clause-ok : goal.returns-clause-ok
returns-clause-ok c = grind (arith, common_steps)
