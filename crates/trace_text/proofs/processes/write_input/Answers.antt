use Rattle.std.proofs.Common.{arith}
use Rattle.std.proofs.lemmas.Grind.{common_steps}
use Rattle.text_pieces.proofs.KeptFronts.{front_of_front}
use Rattle.trace_text.proofs.processes.write_input.Goals as goal

pub returns-clause-memory : goal.returns-clause-memory
returns-clause-memory c = grind (arith, front_of_front)

pub returns-clause-ok : goal.returns-clause-ok
returns-clause-ok c = grind (arith, common_steps)

pub returns-in_err-write_indexed-clause-memory : goal.returns-in_err-write_indexed-clause-memory
returns-in_err-write_indexed-clause-memory c = grind (arith, front_of_front)
