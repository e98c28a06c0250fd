use Rattle.std.proofs.Common.{arith}
use Rattle.std.proofs.lemmas.Grind.{common_steps}
use Rattle.text_pieces.proofs.KeptFronts.{front_of_front}
use Rattle.trace_text.proofs.runs.write_run.Goals as goal

pub loop-entry-preserved : goal.loop-entry-preserved
loop-entry-preserved c = grind (arith, common_steps)

pub returns-in_err-write_whole_line-clause-memory : goal.returns-in_err-write_whole_line-clause-memory
returns-in_err-write_whole_line-clause-memory c = grind (arith, front_of_front)

pub returns-clause-ok : goal.returns-clause-ok
returns-clause-ok c = grind (arith, common_steps)

pub returns-clause-memory : goal.returns-clause-memory
returns-clause-memory c = grind (arith, front_of_front)

pub returns-in_err-write_last-clause-memory : goal.returns-in_err-write_last-clause-memory
returns-in_err-write_last-clause-memory c = grind (arith, common_steps)
